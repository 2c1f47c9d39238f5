-- What elaborated expressions and statements spell, in the order of evaluation.
use Rattle.std.specs.Prelude.{ℕ, ◌+◌, ◌&&◌, ◌==◌, slice_get, List, [], ◌∷◌, Option, Some, None, if◌then◌else◌, Bool, true, false}
use Rattle.std.specs.Cmp.Lexicographic.{pointwise}
use Rattle.cad_syntax.specs.Types.{PureType, basic}
use Rattle.cad_syntax.specs.declared.types.Basic.TheVariants as b
use Rattle.cad_syntax.specs.declared.text.Name.{Name}
use Rattle.cad_grammar.specs.declared.expression.BinaryOperator.{BinaryOperator}
use Rattle.cad_grammar.specs.declared.expression.BinaryOperator.TheVariants as operator
use Rattle.cad_types.specs.declared.builtin.Builtin.{Builtin}
use Rattle.cad_types.specs.declared.builtin.Builtin.TheVariants as builtin
use Rattle.cad_declarations.specs.Typed as e
use Rattle.cad_paths.specs.declared.letter.Letter.{Letter}
use Rattle.cad_paths.specs.declared.letter.NumberedField.{NumberedField}
use Rattle.cad_paths.specs.declared.letter.Letter.TheVariants.{Use, Spend, Need, Fresh, Set}
use Rattle.cad_paths.specs.declared.letter.Way.TheVariants.{Never}
use Rattle.cad_paths.specs.declared.letter.Position.{Position}
use Rattle.cad_paths.specs.declared.letter.FieldRule.{FieldRule}
use Rattle.cad_paths.specs.Paths.{PathBody, leave, spell, seq, either, skip}

-- whose letters are asked for
pub data Reading : Type 0 where
  -- those of variables of resource type. Others have letters too, but no scope.
  resources : Reading
  -- those of the fields of `self`, in their order, which an initializer sets
  fields_of_self : List FieldRule → Reading
  -- those of a transaction's fields, which are its first variables
  fields_of_transaction : List FieldRule → Reading

-- ---- single places

abbrev pub same_name : Name → Name → Bool
same_name a b = pointwise ◌==◌ a.0 b.0

-- Something is done with a variable: for a transaction's fields the variable must have been set.
abbrev pub variable_letters : Reading → Letter → Position → ℕ → PathBody
variable_letters resources l at v = spell v l at
variable_letters (fields_of_self fs) l at v = skip
variable_letters (fields_of_transaction fs) l at v = spell v Need at

-- each of these fields must have been set; the first has this number
abbrev pub all_needed : ℕ → List FieldRule → Position → PathBody
all_needed n [] at = skip
all_needed n (f ∷ fs) at = seq (spell n Need at) (all_needed (n + 1) fs at)

-- `self` other than as the receiver of one of its fields
abbrev pub self_use : Reading → Position → PathBody
self_use resources at = skip
self_use (fields_of_self fs) at = all_needed 0 fs at
self_use (fields_of_transaction fs) at = skip

-- the field of this name, where the first of these has this number
abbrev pub field_named : ℕ → List FieldRule → Name → Option NumberedField
field_named n [] name = None
field_named n (f ∷ fs) name = if same_name f.name name then Some (record { number = n; is_once = f.is_once }) else field_named (n + 1) fs name

-- a member of `self` that is no field needs all fields
abbrev pub needed : List FieldRule → Position → Option NumberedField → PathBody
needed fs at None = all_needed 0 fs at
needed fs at (Some f) = spell f.number Need at

-- `self.n` is looked at, or replaced
abbrev pub own_field_use : Reading → Position → Name → PathBody
own_field_use resources at name = skip
own_field_use (fields_of_self fs) at name = needed fs at (field_named 0 fs name)
own_field_use (fields_of_transaction fs) at name = skip

-- a field is set; that it wasn't set before is wanted where it may be set but once
abbrev pub setting : Bool → ℕ → Position → PathBody
setting true n at = seq (spell n Fresh at) (spell n Set at)
setting false n at = spell n Set at

abbrev pub set_field : Position → Option NumberedField → PathBody
set_field at None = skip
set_field at (Some f) = setting f.is_once f.number at

-- `self.n` is assigned to
abbrev pub own_field_set : Reading → Position → Name → PathBody
own_field_set resources at name = skip
own_field_set (fields_of_self fs) at name = set_field at (field_named 0 fs name)
own_field_set (fields_of_transaction fs) at name = skip

abbrev pub numbered : ℕ → Option FieldRule → Option NumberedField
numbered v None = None
numbered v (Some f) = Some (record { number = v; is_once = f.is_once })

-- a variable is assigned to: a transaction's field is set
abbrev pub variable_set : Reading → Position → ℕ → PathBody
variable_set resources at v = skip
variable_set (fields_of_self fs) at v = skip
variable_set (fields_of_transaction fs) at v = set_field at (numbered v (slice_get fs v))

abbrev pub is_self : e.PlaceTree → Bool
is_self e.self = true
is_self _ = false

-- a place whose value leaves it: a variable, or a field of a transaction
abbrev pub take_letters : Reading → Position → e.PlaceTree → PathBody → PathBody
take_letters r at (e.variable v) other = variable_letters r Spend at v
take_letters r at _ other = other

-- ---- what ends a path, and what may be left out

abbrev pub ending : Bool → PathBody
ending true = leave Never
ending false = skip

abbrev pub maybe : PathBody → PathBody
maybe a = either a skip

abbrev pub takes_element : Builtin → Bool
takes_element builtin.ArrayRemove = true
takes_element builtin.ArrayRemoveFirst = true
takes_element builtin.ArrayRemoveLast = true
takes_element _ = false

abbrev pub are_never : List PureType → Bool
are_never (basic b.Never ∷ []) = true
are_never _ = false

-- a built-in call whose type is `Never`: `panic`, and where an element is taken out of an array of type `[Never]`
abbrev pub is_never_builtin : Builtin → List PureType → Bool
is_never_builtin builtin.Panic types = true
is_never_builtin member types = takes_element member && are_never types

abbrev pub ends_path : e.UseTree → Bool
ends_path (e.get name authorization) = false
ends_path (e.method name is_view is_never args) = is_never
ends_path (e.builtin_field member) = false
ends_path (e.builtin_call member types args) = is_never_builtin member types

-- `&&` and `||` evaluate their right side only where they need it
abbrev pub is_short : BinaryOperator → Bool
is_short operator.And = true
is_short operator.Or = true
is_short _ = false

abbrev pub operands : BinaryOperator → PathBody → PathBody → PathBody
operands op a b = seq a (if is_short op then maybe b else b)

abbrev pub member_of_self : Reading → Position → e.UseTree → PathBody
member_of_self r at (e.get name authorization) = own_field_use r at name
member_of_self r at (e.method name is_view is_never args) = self_use r at
member_of_self r at (e.builtin_field member) = self_use r at
member_of_self r at (e.builtin_call member types args) = self_use r at

-- a receiver, of which the last is spelled where it isn't `self`
abbrev pub receiver_letters : Reading → Position → e.PlaceTree → e.UseTree → PathBody → PathBody
receiver_letters r at p u other = if is_self p then member_of_self r at u else other

-- ---- expressions

abbrev mutual
  -- a place whose value is looked at: a receiver, the operand of `&`, or beside nil
  pub place_letters : Reading → Position → e.PlaceTree → PathBody
  place_letters r at (e.variable v) = variable_letters r Use at v
  place_letters r at e.self = self_use r at
  place_letters r at (e.contract id) = skip
  place_letters r at (e.target x) = term_letters r at x
  place_letters r at (e.field p of name) = if is_self p then own_field_use r at name else place_letters r at p
  place_letters r at (e.element p of x) = seq (place_letters r at p) (term_letters r at x)
  place_letters r at (e.content p forces) = place_letters r at p

  -- what is evaluated of a use after its receiver
  pub use_letters : Reading → Position → e.UseTree → PathBody
  use_letters r at (e.get name authorization) = skip
  use_letters r at (e.method name is_view is_never args) = arguments_letters r at args
  use_letters r at (e.builtin_field member) = skip
  use_letters r at (e.builtin_call member types args) = arguments_letters r at args

  pub term_letters : Reading → Position → e.TermTree → PathBody
  term_letters r at (e.number n) = skip
  term_letters r at (e.address a) = skip
  term_letters r at (e.bool x) = skip
  term_letters r at e.nil = skip
  term_letters r at (e.string x) = skip
  term_letters r at (e.character x) = skip
  term_letters r at (e.path p) = skip
  term_letters r at (e.meta t) = skip
  term_letters r at (e.case id n) = skip
  term_letters r at (e.copy p) = place_letters r at p
  term_letters r at (e.take p) = take_letters r at p (place_letters r at p)
  term_letters r at (e.array t items) = terms_letters r at items
  term_letters r at (e.dictionary k t items) = entries_letters r at items
  term_letters r at (e.construct id args) = arguments_letters r at args
  term_letters r at (e.create id args) = arguments_letters r at args
  term_letters r at (e.call f is_view is_never args) = seq (arguments_letters r at args) (ending is_never)
  term_letters r at (e.builtin member types args) = seq (arguments_letters r at args) (ending (is_never_builtin member types))
  term_letters r at (e.on p u) = seq (receiver_letters r at p u (place_letters r at p)) (seq (use_letters r at u) (ending (ends_path u)))
  term_letters r at (e.chain p u wraps) = seq (place_letters r at p) (maybe (use_letters r at u))
  term_letters r at (e.index p of x) = seq (place_letters r at p) (term_letters r at x)
  term_letters r at (e.hold n t x body) = seq (term_letters r at x) (term_letters r at body)
  term_letters r at (e.destroy x) = term_letters r at x
  term_letters r at (e.borrow p authorization t takes_off gives_optional) = place_letters r at p
  term_letters r at (e.unary op x) = term_letters r at x
  term_letters r at (e.force x) = term_letters r at x
  term_letters r at (e.cast kind x t) = term_letters r at x
  term_letters r at (e.binary op x y) = operands op (term_letters r at x) (term_letters r at y)
  term_letters r at (e.coalesce x y takes_off t) = seq (term_letters r at x) (maybe (term_letters r at y))
  term_letters r at (e.is_nil p is_negated) = place_letters r at p
  term_letters r at (e.conditional c x y) = seq (term_letters r at c) (either (term_letters r at x) (term_letters r at y))
  term_letters r at (e.before n) = skip

  pub terms_letters : Reading → Position → e.Terms → PathBody
  terms_letters r at e.no_terms = skip
  terms_letters r at (e.terms x xs) = seq (term_letters r at x) (terms_letters r at xs)

  pub arguments_letters : Reading → Position → e.Arguments → PathBody
  arguments_letters r at e.no_arguments = skip
  arguments_letters r at (e.arguments x t xs) = seq (term_letters r at x) (arguments_letters r at xs)

  pub entries_letters : Reading → Position → e.TermEntries → PathBody
  entries_letters r at e.no_entries = skip
  entries_letters r at (e.entries k x xs) = seq (term_letters r at k) (seq (term_letters r at x) (entries_letters r at xs))
