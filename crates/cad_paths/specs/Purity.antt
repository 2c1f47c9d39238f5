-- Purity: what view functions, view initializers and conditions may do, and else the first statement that does more.
use Rattle.std.specs.Prelude.{ℕ, ◌&&◌, ◌||◌, not, List, [], ◌∷◌, Option, Some, None, option_map, nat_le, length, if◌then◌else◌, Bool, true, false}
use Rattle.std.specs.List.{list_all}
use Rattle.cad_syntax.specs.Types.{PureType, array, dictionary}
use Rattle.cad_syntax.specs.Types as type
use Rattle.cad_syntax.specs.declared.type_id.TypeId.{TypeId}
use Rattle.cad_types.specs.Declarations.{resource}
use Rattle.cad_types.specs.declared.builtin.Builtin.{Builtin}
use Rattle.cad_types.specs.declared.builtin.Builtin.TheVariants as builtin
use Rattle.cad_types.specs.declared.declared.Sort.{Sort}
use Rattle.cad_types.specs.declared.declared.Sort.TheVariants as sort
use Rattle.cad_declarations.specs.Tables.{ProgramTables, SignatureType}
use Rattle.cad_declarations.specs.Typed as e
use Rattle.cad_paths.specs.declared.letter.BodyPart.TheVariants.{Whole, Pre, Post}
use Rattle.cad_paths.specs.declared.letter.Position.{Position}
use Rattle.cad_paths.specs.Fields.{declarations_in, initializer_in, sort_in}
use Rattle.cad_paths.specs.Letters.{is_self}
use Rattle.cad_paths.specs.Bodies.{position}

-- ---- expressions

-- built-in calls that are no view calls
abbrev pub is_changing : Builtin → Bool
is_changing builtin.ArrayAppend = true
is_changing builtin.ArrayAppendAll = true
is_changing builtin.ArrayInsert = true
is_changing builtin.ArrayRemove = true
is_changing builtin.ArrayRemoveFirst = true
is_changing builtin.ArrayRemoveLast = true
is_changing builtin.DictionaryInsert = true
is_changing builtin.DictionaryRemove = true
is_changing builtin.StorageSave = true
is_changing builtin.StorageLoad = true
is_changing builtin.ContractsAdd = true
is_changing builtin.ContractsUpdate = true
is_changing builtin.CapabilitiesPublish = true
is_changing builtin.CapabilitiesUnpublish = true
is_changing builtin.StorageCapabilitiesIssue = true
is_changing builtin.ControllerSetTag = true
is_changing builtin.ControllerRetarget = true
is_changing builtin.ControllerDelete = true
is_changing _ = false

-- an initializer that isn't written is a view one
abbrev pub is_view_initializer : Option SignatureType → Bool
is_view_initializer None = true
is_view_initializer (Some s) = s.is_view

-- what makes a value of this type is a view call
abbrev pub makes_by_view : ProgramTables → TypeId → Bool
makes_by_view tables id = is_view_initializer (initializer_in tables id)

abbrev mutual
  pub is_pure_place : ProgramTables → e.PlaceTree → Bool
  is_pure_place tables (e.variable v) = true
  is_pure_place tables e.self = true
  is_pure_place tables (e.contract id) = true
  is_pure_place tables (e.target x) = is_pure tables x
  is_pure_place tables (e.field p of name) = is_pure_place tables p
  is_pure_place tables (e.element p of x) = is_pure_place tables p && is_pure tables x
  is_pure_place tables (e.content p forces) = is_pure_place tables p

  pub is_pure_use : ProgramTables → e.UseTree → Bool
  is_pure_use tables (e.get name authorization) = true
  is_pure_use tables (e.method name is_view is_never args) = is_view && are_pure_arguments tables args
  is_pure_use tables (e.builtin_field member) = true
  is_pure_use tables (e.builtin_call member types args) = not (is_changing member) && are_pure_arguments tables args

  -- only view calls, and no `destroy`
  pub is_pure : ProgramTables → e.TermTree → Bool
  is_pure tables (e.number n) = true
  is_pure tables (e.address a) = true
  is_pure tables (e.bool x) = true
  is_pure tables e.nil = true
  is_pure tables (e.string x) = true
  is_pure tables (e.character x) = true
  is_pure tables (e.path p) = true
  is_pure tables (e.meta t) = true
  is_pure tables (e.case id n) = true
  is_pure tables (e.copy p) = is_pure_place tables p
  is_pure tables (e.take p) = is_pure_place tables p
  is_pure tables (e.array t items) = are_pure tables items
  is_pure tables (e.dictionary k t items) = are_pure_entries tables items
  is_pure tables (e.construct id args) = makes_by_view tables id && are_pure_arguments tables args
  is_pure tables (e.create id args) = makes_by_view tables id && are_pure_arguments tables args
  is_pure tables (e.call f is_view is_never args) = is_view && are_pure_arguments tables args
  is_pure tables (e.builtin member types args) = not (is_changing member) && are_pure_arguments tables args
  is_pure tables (e.on p u) = is_pure_place tables p && is_pure_use tables u
  is_pure tables (e.chain p u wraps) = is_pure_place tables p && is_pure_use tables u
  is_pure tables (e.index p of x) = is_pure_place tables p && is_pure tables x
  is_pure tables (e.hold n t x body) = is_pure tables x && is_pure tables body
  is_pure tables (e.destroy x) = false
  is_pure tables (e.borrow p authorization t takes_off gives_optional) = is_pure_place tables p
  is_pure tables (e.unary op x) = is_pure tables x
  is_pure tables (e.force x) = is_pure tables x
  is_pure tables (e.cast kind x t) = is_pure tables x
  is_pure tables (e.binary op x y) = is_pure tables x && is_pure tables y
  is_pure tables (e.coalesce x y takes_off t) = is_pure tables x && is_pure tables y
  is_pure tables (e.is_nil p is_negated) = is_pure_place tables p
  is_pure tables (e.conditional c x y) = is_pure tables c && (is_pure tables x && is_pure tables y)
  is_pure tables (e.before n) = true

  pub are_pure : ProgramTables → e.Terms → Bool
  are_pure tables e.no_terms = true
  are_pure tables (e.terms x xs) = is_pure tables x && are_pure tables xs

  pub are_pure_arguments : ProgramTables → e.Arguments → Bool
  are_pure_arguments tables e.no_arguments = true
  are_pure_arguments tables (e.arguments x t xs) = is_pure tables x && are_pure_arguments tables xs

  pub are_pure_entries : ProgramTables → e.TermEntries → Bool
  are_pure_entries tables e.no_entries = true
  are_pure_entries tables (e.entries k x xs) = is_pure tables k && (is_pure tables x && are_pure_entries tables xs)

-- ---- what may be assigned to

-- the body of a view function: its own variables have the numbers from this one, which is how many parameters it has
pub record ViewBody : Type 0 where
  pub tables : ProgramTables
  pub own_from : ℕ
  pub is_initializer : Bool

abbrev pub is_struct : Option Sort → Bool
is_struct (Some sort.Struct) = true
is_struct _ = false

-- a struct, array or dictionary, and not of resource type
abbrev pub is_plain : ProgramTables → PureType → Bool
is_plain tables (type.declared id) = is_struct (sort_in tables id)
is_plain tables (array t) = not (resource (declarations_in tables) (array t))
is_plain tables (dictionary k t) = not (resource (declarations_in tables) (dictionary k t))
is_plain tables _ = false

-- An own variable, or a place in one; each part of the place before the last is plain.
abbrev pub is_own_place : ViewBody → e.PlaceTree → Bool
is_own_place v (e.variable n) = nat_le v.own_from n
is_own_place v e.self = false
is_own_place v (e.contract id) = false
is_own_place v (e.target x) = false
is_own_place v (e.field p of name) = is_plain v.tables of && is_own_place v p
is_own_place v (e.element p of x) = is_plain v.tables of && is_own_place v p
is_own_place v (e.content p forces) = false

abbrev pub is_own_variable : ViewBody → e.PlaceTree → Bool
is_own_variable v (e.variable n) = nat_le v.own_from n
is_own_variable v _ = false

-- a field of what a view initializer makes
abbrev pub is_own_field : ViewBody → e.PlaceTree → Bool
is_own_field v (e.field p of name) = v.is_initializer && is_self p
is_own_field v _ = false

-- By `=` an own variable, a place in one, or a field of `self` in a view initializer. A resource is moved into own variables
-- alone.
abbrev pub may_assign : ViewBody → e.PlaceTree → PureType → Bool
may_assign v p t = is_own_variable v p || (not (resource (declarations_in v.tables) t) && (is_own_place v p || is_own_field v p))

-- ---- statements

-- the earlier of two statements
abbrev pub earlier : Option ℕ → Option ℕ → Option ℕ
earlier None n = n
earlier (Some m) None = Some m
earlier (Some m) (Some n) = if nat_le m n then Some m else Some n

abbrev pub unless : Bool → ℕ → Option ℕ
unless true n = None
unless false n = Some n

abbrev pub are_pure_cases : ProgramTables → e.TypedCases → Bool
are_pure_cases tables e.no_cases = true
are_pure_cases tables (e.cases x a all) = is_pure tables x && are_pure_cases tables all

abbrev mutual
  -- the first statement that a view function may not have: `emit` and `<->` are among them
  pub statement_impurity : ViewBody → e.StatementTree → Option ℕ
  statement_impurity v (e.declare n x value) = unless (is_pure v.tables value) n
  statement_impurity v (e.exchange n x p t value) = unless (is_own_variable v p && is_pure v.tables value) n
  statement_impurity v (e.assign n p value t) = unless (may_assign v p t && (is_pure_place v.tables p && is_pure v.tables value)) n
  statement_impurity v (e.force_assign n p value t) = unless (is_own_variable v p && is_pure v.tables value) n
  statement_impurity v (e.swap n p t q u) = Some n
  statement_impurity v (e.expression n value) = unless (is_pure v.tables value) n
  statement_impurity v (e.if_else n value a b) = earlier (unless (is_pure v.tables value) n) (earlier (block_impurity v a) (block_impurity v b))
  statement_impurity v (e.if_let n x value t a b) = earlier (unless (is_pure v.tables value) n) (earlier (block_impurity v a) (block_impurity v b))
  statement_impurity v (e.if_cast n x p t a b) = earlier (unless (is_pure_place v.tables p) n) (earlier (block_impurity v a) (block_impurity v b))
  statement_impurity v (e.while_loop n value a) = earlier (unless (is_pure v.tables value) n) (block_impurity v a)
  statement_impurity v (e.for_loop n i x value t a) = earlier (unless (is_pure v.tables value) n) (block_impurity v a)
  statement_impurity v (e.switch n value all otherwise) = earlier (unless (is_pure v.tables value && are_pure_cases v.tables all) n)
      (earlier (cases_impurity v all) (block_impurity v otherwise))
  statement_impurity v (e.break_loop n) = None
  statement_impurity v (e.continue_loop n) = None
  statement_impurity v (e.return_nothing n) = None
  statement_impurity v (e.return_value n value t) = unless (is_pure v.tables value) n
  statement_impurity v (e.emit n id args) = Some n

  pub block_impurity : ViewBody → e.BlockTree → Option ℕ
  block_impurity v (e.block n all) = statements_impurity v all

  pub statements_impurity : ViewBody → e.Statements → Option ℕ
  statements_impurity v e.no_statements = None
  statements_impurity v (e.statements s all) = earlier (statement_impurity v s) (statements_impurity v all)

  pub cases_impurity : ViewBody → e.TypedCases → Option ℕ
  cases_impurity v e.no_cases = None
  cases_impurity v (e.cases x a all) = earlier (block_impurity v a) (cases_impurity v all)

-- ---- bodies

abbrev pub is_pure_message : ProgramTables → Option e.TermTree → Bool
is_pure_message tables None = true
is_pure_message tables (Some x) = is_pure tables x

-- a condition may itself be an `emit`
abbrev pub condition_impurity : ProgramTables → e.ConditionBody → Option ℕ
condition_impurity tables (e.test n x message) = unless (is_pure tables x && is_pure_message tables message) n
condition_impurity tables (e.emitted n id args) = unless (are_pure_arguments tables args) n

abbrev pub conditions_impurity : ProgramTables → List e.ConditionBody → Option ℕ
conditions_impurity tables [] = None
conditions_impurity tables (c ∷ all) = earlier (condition_impurity tables c) (conditions_impurity tables all)

-- what stands under `before` counts to its condition
abbrev pub before_impurity : ProgramTables → List e.BeforeTree → Option ℕ
before_impurity tables [] = None
before_impurity tables (x ∷ all) = earlier (unless (is_pure tables x.value) x.at) (before_impurity tables all)

abbrev pub view_impurity : Bool → ViewBody → Option e.BlockTree → Option ℕ
view_impurity true v (Some a) = block_impurity v a
view_impurity _ v _ = None

abbrev pub function_impurity : ProgramTables → Bool → e.FunctionBody → Option ℕ
function_impurity tables is_initializer f = earlier (conditions_impurity tables f.pre) (earlier (before_impurity tables f.before) (earlier (conditions_impurity tables f.post)
    (view_impurity f.is_view (record { tables = tables; own_from = length f.parameters; is_initializer = is_initializer }) f.body)))

abbrev pub positioned : Option Position → Option Position → Option Position
positioned None q = q
positioned (Some p) q = Some p

-- where the body first does what it may not; of a transaction the conditions alone are judged
abbrev pub impurity : ProgramTables → e.PartBody → Option Position
impurity tables (e.function_part f) = option_map (position Whole) (function_impurity tables false f)
impurity tables (e.initializer_part f) = option_map (position Whole) (function_impurity tables true f)
impurity tables (e.transaction_part t) = positioned (option_map (position Pre) (conditions_impurity tables t.pre))
    (option_map (position Post) (earlier (before_impurity tables t.before) (conditions_impurity tables t.post)))

-- the default arguments of `ResourceDestroyed` are judged as view functions are
abbrev pub is_pure_event : ProgramTables → e.DestroyedBody → Bool
is_pure_event tables d = list_all (λ a. is_pure tables a.value) d.arguments
