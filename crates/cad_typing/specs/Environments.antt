-- What typing knows where an expression stands, and what it answers.
use Rattle.std.specs.Prelude.{ℕ, Bool, Option, Some, None, List, [], ◌∷◌, find, nat_le, if◌then◌else◌}
use Rattle.std.specs.Option.{option_or}
use Rattle.cad_syntax.specs.Types.{PureType, intersection, declared, nesting}
use Rattle.cad_syntax.specs.declared.text.Name.{Name}
use Rattle.cad_syntax.specs.declared.type_id.TypeId.{TypeId}
use Rattle.cad_types.specs.Declarations.{Declaration, found}
use Rattle.cad_types.specs.Classes.{has_sort}
use Rattle.cad_declarations.specs.Names.{same_name}
use Rattle.cad_declarations.specs.Scopes.{Scope, is_interface_sort, deepest}
use Rattle.cad_declarations.specs.Kinds.{kinds_of, scope_of}
use Rattle.cad_declarations.specs.Tables.{ProgramTables}
use Rattle.cad_declarations.specs.Typed.{TermTree}

infixl 10 ◌>=>◌
-- what is done with a result, where there is one
abbrev pub ◌>=>◌ : {A B : Type 0} → Option A → (A → Option B) → Option B
None >=> f = None
Some a >=> f = f a

-- a result, where a test holds
abbrev pub when : {A : Type 0} → Bool → Option A → Option A
when b o = if b then o else None

-- ---- what is known

-- a variable of the body
pub record Local : Type 0 where
  -- how many were in use when it was declared, hidden ones among them
  pub number : ℕ
  pub name : Name
  pub type : PureType
  -- whether it may be assigned
  pub is_var : Bool

-- the part of a function, initializer or transaction in which an expression stands
pub data Part : Type 0 where
  -- the statements of a function
  function_body : Part
  -- those of an initializer
  initializer_body : Part
  -- those of `prepare` and of `execute`
  prepare_body : Part
  execute_body : Part
  precondition : Part
  -- with the result, where there is one
  postcondition : Option Local → Part
  -- what stands under `before`
  before_value : Part
  -- a default argument of the event `ResourceDestroyed`
  default_argument : Part

pub record Environment : Type 0 where
  pub tables : ProgramTables
  -- the innermost type in which the code stands: a composite, an interface or the contract
  pub within : Option TypeId
  -- in a transaction its fields, which are variables
  pub transaction_fields : Option (List Local)
  pub part : Part
  -- the variables of each scope, the innermost scope first
  pub scopes : List (List Local)
  -- how many variables are in use, hidden ones among them: the number of the next one
  pub in_use : ℕ
  -- how many `before` stand before this expression in the function's postconditions: the number of the next one
  pub befores : ℕ

abbrev pub kinds : Environment → List Declaration
kinds env = kinds_of env.tables

abbrev pub scope : Environment → Scope
scope env = scope_of env.tables

-- the variable of a name in the innermost scope that has it
abbrev pub local_in : List (List Local) → Name → Option Local
local_in [] name = None
local_in (locals ∷ outer) name = option_or (find (λ v. same_name v.name name) locals) (local_in outer name)

-- the result stands in a scope inside that of the parameters
abbrev pub result_in : Part → Name → Option Local
result_in (postcondition (Some v)) name = if same_name v.name name then Some v else None
result_in _ name = None

abbrev pub local_named : Environment → Name → Option Local
local_named env name = option_or (result_in env.part name) (local_in env.scopes name)

-- the type of `self`; an interface stands for all that have it
abbrev pub type_of_self : List Declaration → TypeId → PureType
type_of_self k id = if has_sort is_interface_sort (found k id) then intersection (id ∷ []) else declared id

-- ---- where an expression stands

-- whether a variable of resource type leaves its place there
pub data Position : Type 0 where
  -- its value stays
  ordinary : Position
  -- after the sign of a move, and under `<-` and `destroy`
  moved : Position

-- ---- the answer

-- an elaborated expression and its type
pub record Typing : Type 0 where
  pub term : TermTree
  pub type : PureType

-- a form with its type, which nests at most 128 deep
abbrev pub typed : TermTree → PureType → Option Typing
typed term type = when (nat_le (nesting type) deepest) (Some (record { term = term; type = type }))
