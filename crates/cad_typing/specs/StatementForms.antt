-- What each form of statement asks of its own parts, and what they are elaborated to.
use Rattle.std.specs.Prelude.{ℕ, ◌+◌, Bool, true, false, not, ◌&&◌, ◌||◌, Option, Some, None, List, [], ◌∷◌, option_map, if◌then◌else◌}
use Rattle.cad_syntax.specs.Types.{PureType, optional}
use Rattle.cad_syntax.specs.declared.kind.Kind.TheVariants as kind
use Rattle.cad_syntax.specs.declared.text.Name.{Name}
use Rattle.cad_grammar.specs.Trees as s
use Rattle.cad_grammar.specs.declared.expression.CastKind.TheVariants as cast
use Rattle.cad_grammar.specs.declared.statement.Transfer.{Transfer}
use Rattle.cad_grammar.specs.declared.statement.Transfer.TheVariants as sign
use Rattle.cad_grammar.specs.declared.statement.VariableKind.{VariableKind}
use Rattle.cad_grammar.specs.declared.statement.VariableKind.TheVariants as word
use Rattle.cad_types.specs.Classes.{is_void}
use Rattle.cad_types.specs.Declarations.{resource}
use Rattle.cad_declarations.specs.BuiltinNames.{is_comparable}
use Rattle.cad_declarations.specs.Formed.{resolved_annotation}
use Rattle.cad_declarations.specs.Names.{same_name}
use Rattle.cad_declarations.specs.Typed as e
use Rattle.cad_typing.specs.Containers.{targeted}
use Rattle.cad_typing.specs.Environments.{Environment, Local, ordinary, Typing, kinds, scope, when, ◌>=>◌}
use Rattle.cad_typing.specs.Expressions.{infer}
use Rattle.cad_typing.specs.Locals.{next_local, entry_of, is_free}
use Rattle.cad_typing.specs.Operators.{is_test, may_be_equal}
use Rattle.cad_types.specs.Optionals.{fits}
use Rattle.cad_typing.specs.Places.{Target, infer_target, infer_variable, infer_moved, infer_declared, infer_returned}
use Rattle.cad_typing.specs.Receivers.{is_nil}
use Rattle.cad_typing.specs.References.{may_be_cast}
use Rattle.cad_typing.specs.Types.{number, content, element_type, is_optional_type}

-- a statement, and the variable that is in scope behind it
pub record StatementTyping : Type 0 where
  pub tree : e.StatementTree
  pub declares : Option Local

abbrev pub alone : e.StatementTree → StatementTyping
alone tree = record { tree = tree; declares = None }

abbrev pub beside_variable : e.StatementTree → Local → StatementTyping
beside_variable tree v = record { tree = tree; declares = Some v }

-- ---- declarations of variables

abbrev pub is_move_sign : Transfer → Bool
is_move_sign sign.Move = true
is_move_sign _ = false

-- `<-!` assigns to a place, and a declaration has none
abbrev pub may_declare : Transfer → Bool
may_declare sign.ForceMove = false
may_declare _ = true

-- a value and the type of its variable: the written type, which the value fits, else the value's own
abbrev pub declared_value : Environment → Transfer → Option s.Annotation → s.ExprTree → Option e.TargetedTerm
declared_value env by None a = infer_declared env by a >=> (λ x. Some (targeted x x.type))
declared_value env by (Some written) a =
    resolved_annotation (scope env) written >=> (λ t. infer_moved env by t a >=> (λ x. Some (targeted x t)))

abbrev pub declared : Environment → ℕ → VariableKind → Name → e.TargetedTerm → StatementTyping
declared env n kind name x =
    beside_variable (e.declare n (entry_of env (next_local env kind name x.target)) x.value) (next_local env kind name x.target)

-- the written type, which what is of this type fits; without one this type
abbrev pub type_for : Environment → Option s.Annotation → PureType → Option PureType
type_for env None t = Some t
type_for env (Some written) t = resolved_annotation (scope env) written >=> (λ u. when (fits (kinds env) t u) (Some u))

abbrev pub exchanged : Environment → ℕ → VariableKind → Name → Target → PureType → Typing → StatementTyping
exchanged env n kind name p t x =
    beside_variable (e.exchange n (entry_of env (next_local env kind name t)) p.place p.type x.term) (next_local env kind name t)

-- `let old <- place <- e`: the place is of resource type, and e is moved to it
abbrev pub exchange : Environment → ℕ → VariableKind → Name → Option s.Annotation → s.ExprTree → s.ExprTree → Option StatementTyping
exchange env n kind name written place a =
    infer_target env place >=> (λ p. type_for env written p.type >=> (λ t.
    infer_moved env sign.Move p.type a >=> (λ x. Some (exchanged env n kind name p t x))))

-- a variable whose name is free in its scope
abbrev pub declaration : Environment → ℕ → VariableKind → Name → Option s.Annotation → Transfer → s.ExprTree → Option s.SecondTree → Option StatementTyping
declaration env n kind name written by a None =
    when (may_declare by && is_free env name) (declared_value env by written a >=> (λ x. Some (declared env n kind name x)))
declaration env n kind name written by a (Some second) =
    when (is_move_sign by && (is_move_sign second.transfer && is_free env name)) (exchange env n kind name written a second.value)

-- ---- tests

-- what stands behind `if`
pub data TestTyping : Type 0 where
  -- a Bool
  plain_test : e.TermTree → TestTyping
  -- the content of a value, which is transferred to this optional type, in a variable
  content_test : Local → e.TermTree → PureType → TestTyping
  -- a resource variable's value, if it is of this type, in a variable of its own
  cast_test : Local → e.PlaceTree → PureType → TestTyping

abbrev pub test_locals : TestTyping → List Local
test_locals (plain_test x) = []
test_locals (content_test v x t) = v ∷ []
test_locals (cast_test v p t) = v ∷ []

abbrev pub test_tree : Environment → ℕ → TestTyping → e.BlockTree → e.BlockTree → e.StatementTree
test_tree env n (plain_test x) body otherwise = e.if_else n x body otherwise
test_tree env n (content_test v x t) body otherwise = e.if_let n (entry_of env v) x t body otherwise
test_tree env n (cast_test v p t) body otherwise = e.if_cast n (entry_of env v) p t body otherwise

abbrev pub infer_test : Environment → s.ExprTree → Option Typing
infer_test env a = infer env ordinary None a >=> (λ x. when (is_test x.type) (Some x))

-- `if let` of an optional: its content, or what a written type makes of it
abbrev pub content_of_value : Environment → VariableKind → Name → Option s.Annotation → Transfer → s.ExprTree → Option TestTyping
content_of_value env kind name None by a = infer_declared env by a >=> (λ x. content x.type >=> (λ t.
    Some (content_test (next_local env kind name t) x.term x.type)))
content_of_value env kind name (Some written) by a = resolved_annotation (scope env) written >=> (λ t.
    infer_moved env by (optional t) a >=> (λ x.
    when (is_optional_type x.type) (Some (content_test (next_local env kind name t) x.term (optional t)))))

-- a failable cast of a resource: of a variable, or of a field of a transaction, and the variable is declared by `<-`
abbrev pub cast_of_variable : Environment → VariableKind → Name → Option s.Annotation → s.ExprTree → PureType → Option TestTyping
cast_of_variable env kind name written a t = infer_variable env a >=> (λ v.
    when (may_be_cast (kinds env) v.type t) (type_for env written t >=> (λ u.
    Some (cast_test (next_local env kind name u) (e.variable v.number) t))))

abbrev pub cast_or_content : Environment → VariableKind → Name → Option s.Annotation → Transfer → s.ExprTree → s.Annotation → PureType → Option TestTyping
cast_or_content env kind name written by a to t =
    if resource (kinds env) t then when (is_move_sign by) (cast_of_variable env kind name written a t)
    else content_of_value env kind name written by (s.cast cast.Failable a to)

abbrev pub bound_value : Environment → VariableKind → Name → Option s.Annotation → Transfer → s.ExprTree → Option TestTyping
bound_value env kind name written by (s.cast cast.Failable a to) =
    resolved_annotation (scope env) to >=> cast_or_content env kind name written by a to
bound_value env kind name written by a = content_of_value env kind name written by a

abbrev pub test_typing : Environment → s.TestTree → Option TestTyping
test_typing env (s.expression_test a) = infer_test env a >=> (λ x. Some (plain_test x.term))
test_typing env (s.binding kind name written by a) = when (may_declare by) (bound_value env kind name written by a)

-- ---- loops

-- the variables of `for`, the array and its type
pub record ForTyping : Type 0 where
  pub index : Option Local
  pub element : Local
  pub array : e.TermTree
  pub type : PureType

abbrev pub index_locals : Option Local → List Local
index_locals None = []
index_locals (Some v) = v ∷ []

abbrev pub for_locals : ForTyping → List Local
for_locals x = x.element ∷ index_locals x.index

abbrev pub for_tree : Environment → ℕ → ForTyping → e.BlockTree → e.StatementTree
for_tree env n x body = e.for_loop n (option_map (entry_of env) x.index) (entry_of env x.element) x.array x.type body

abbrev pub index_local : Environment → Name → Local
index_local env name = next_local env word.Let name (number kind.Int)

abbrev pub next_number : Environment → Option Name → ℕ
next_number env None = env.in_use
next_number env (Some index) = env.in_use + 1

abbrev pub element_local : Environment → Option Name → Name → PureType → Local
element_local env index name t = record { number = next_number env index; name = name; type = t; is_var = false }

abbrev pub differs : Name → Option Name → Bool
differs name None = true
differs name (Some other) = not (same_name name other)

-- `for` goes over an array that isn't one of resources
abbrev pub for_typing : Environment → Option Name → Name → s.ExprTree → Option ForTyping
for_typing env index name a = infer env ordinary None a >=> (λ x. element_type x.type >=> (λ t.
    when (differs name index && not (resource (kinds env) t))
    (Some (record { index = option_map (index_local env) index; element = element_local env index name t; array = x.term; type = x.type }))))

-- ---- `switch`

-- a value that `==` compares, or an optional, which is compared with nil; never of resource type
abbrev pub may_be_switched : Environment → PureType → Bool
may_be_switched env t = not (resource (kinds env) t) && (is_comparable (kinds env) t || is_optional_type t)

abbrev pub infer_switched : Environment → s.ExprTree → Option Typing
infer_switched env a = infer env ordinary None a >=> (λ x. when (may_be_switched env x.type) (Some x))

abbrev pub nil_case : PureType → Option Typing → Option Typing
nil_case t x = when (is_optional_type t) x

-- a case is compared with the value by `==`; beside the literal nil stands an optional, which isn't of resource type
abbrev pub infer_case : Environment → s.ExprTree → PureType → s.ExprTree → Option Typing
infer_case env a t c = by_forms (is_nil a) (is_nil c)
  where
    by_forms : Bool → Bool → Option Typing
    by_forms value_is_nil true = nil_case t (infer env ordinary None c)
    by_forms true false = infer env ordinary None c >=> (λ y. when (is_optional_type y.type && not (resource (kinds env) y.type)) (Some y))
    by_forms false false = infer env ordinary (Some t) c >=> (λ y. when (may_be_equal (kinds env) t y.type) (Some y))

-- the values of all cases
abbrev pub infer_cases : Environment → s.ExprTree → PureType → s.Cases → Option (List e.TermTree)
infer_cases env a t s.no_cases = Some []
infer_cases env a t (s.cases c body all) =
    infer_case env a t c >=> (λ y. infer_cases env a t all >=> (λ ys. Some (y.term ∷ ys)))

pub record SwitchTyping : Type 0 where
  pub value : e.TermTree
  pub cases : List e.TermTree

abbrev pub switch_typing : Environment → s.ExprTree → s.Cases → Option SwitchTyping
switch_typing env a all = infer_switched env a >=> (λ x. infer_cases env a x.type all >=> (λ ys.
    Some (record { value = x.term; cases = ys })))

-- each value with its block
abbrev pub cases_with : List e.TermTree → List e.BlockTree → e.TypedCases
cases_with [] bodies = e.no_cases
cases_with (x ∷ xs) [] = e.no_cases
cases_with (x ∷ xs) (b ∷ bs) = e.cases x b (cases_with xs bs)

-- ---- assignments

-- By `=` a value is copied. By `<-` a field of `self` is set for the first time in an initializer, or in `prepare`. By `<-!` a
-- place of an optional type is filled.
abbrev pub assignment_to : Environment → ℕ → Transfer → s.ExprTree → Target → Option e.StatementTree
assignment_to env n sign.Copy a p = infer_moved env sign.Copy p.type a >=> (λ x. Some (e.assign n p.place x.term p.type))
assignment_to env n sign.Move a p =
    when p.is_own_field (infer_moved env sign.Move p.type a >=> (λ x. Some (e.assign n p.place x.term p.type)))
assignment_to env n sign.ForceMove a p =
    when (is_optional_type p.type) (infer_moved env sign.ForceMove p.type a >=> (λ x. Some (e.force_assign n p.place x.term p.type)))

abbrev pub assignment : Environment → ℕ → s.ExprTree → Transfer → s.ExprTree → Option e.StatementTree
assignment env n place by a = infer_target env place >=> assignment_to env n by a

-- what stands in each of two places fits the other
abbrev pub swap : Environment → ℕ → s.ExprTree → s.ExprTree → Option e.StatementTree
swap env n a b = infer_target env a >=> (λ p. infer_target env b >=> (λ q.
    when (fits (kinds env) p.type q.type && fits (kinds env) q.type p.type) (Some (e.swap n p.place p.type q.place q.type))))

-- ---- the others

-- the value fits the function's result; without one the result is Void
abbrev pub returned : Environment → PureType → ℕ → Option s.ExprTree → Option e.StatementTree
returned env result n None = when (is_void result) (Some (e.return_nothing n))
returned env result n (Some a) = infer_returned env result a >=> (λ x. Some (e.return_value n x.term result))

-- a value that isn't of resource type
abbrev pub evaluated : Environment → ℕ → s.ExprTree → Option e.StatementTree
evaluated env n a = infer env ordinary None a >=> (λ x. when (not (resource (kinds env) x.type)) (Some (e.expression n x.term)))
