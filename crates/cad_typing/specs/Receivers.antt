-- What stands before `.`, `?.` and `[`: a value or place, a contract, a type, or a transaction.
use Rattle.std.specs.Prelude.{ℕ, ◌+◌, Bool, true, false, not, Option, Some, None}
use Rattle.cad_syntax.specs.Types.{PureType, declared, reference}
use Rattle.cad_syntax.specs.declared.type_id.TypeId.{TypeId}
use Rattle.cad_syntax.specs.declared.types.Authorization.{Authorization}
use Rattle.cad_grammar.specs.Trees as s
use Rattle.cad_types.specs.Declarations.{resource}
use Rattle.cad_declarations.specs.Typed as e
use Rattle.cad_typing.specs.Environments.{Environment, Typing, kinds, when}

-- a hidden variable with this number, and its value
pub record Hidden : Type 0 where
  pub number : ℕ
  pub type : PureType
  pub value : e.TermTree

-- What members and elements are taken of. It isn't copied.
pub record Receiver : Type 0 where
  -- the hidden variable that holds what the place is a part of, where that is no place of the program
  pub hidden : Option Hidden
  pub place : e.PlaceTree
  -- the type of the value there
  pub type : PureType
  -- what the reference grants through which it is met; none where it is owned
  pub grant : Option Authorization

pub data Base : Type 0 where
  value : Receiver → Base
  -- a contract by its name
  contract : TypeId → Base
  -- a type by its name
  type_name : PureType → Base
  -- `self` in a transaction
  transaction : Base
  -- what a chain gives that doesn't meet nil: a field of the content of an optional, and whether it is wrapped in an optional
  chained : Receiver → Bool → Base

-- a form whose parts are taken of a hidden variable
abbrev pub closed : Option Hidden → e.TermTree → e.TermTree
closed None term = term
closed (Some h) term = e.hold h.number h.type h.value term

-- what a reference names
abbrev pub through : e.TermTree → Authorization → PureType → Receiver
through term grant type = record { hidden = None; place = e.target term; type = type; grant = Some grant }

abbrev pub owned : Option Hidden → e.PlaceTree → PureType → Receiver
owned hidden place type = record { hidden = hidden; place = place; type = type; grant = None }

-- A place of a type, and the term that reads it. Of a reference, what it names.
abbrev pub receiver_at : Option Hidden → e.PlaceTree → e.TermTree → PureType → Receiver
receiver_at hidden place term (reference grant type) = through (closed hidden term) grant type
receiver_at hidden place term type = owned hidden place type

-- what a reference names; any other value is held in a hidden variable
abbrev pub held_at : ℕ → e.TermTree → PureType → Receiver
held_at number term (reference grant type) = through term grant type
held_at number term type = owned (Some (record { number = number; type = type; value = term })) (e.variable number) type

-- a value that is no place; one of resource type is no receiver
abbrev pub held : Environment → Typing → Option Base
held env x = when (not (resource (kinds env) x.type)) (Some (value (held_at env.in_use x.term x.type)))

abbrev pub of_contract : TypeId → Receiver
of_contract id = owned None (e.contract id) (declared id)

abbrev pub receiver_in : Base → Option Receiver
receiver_in (value r) = Some r
receiver_in (contract id) = Some (of_contract id)
receiver_in _ = None

-- one more variable is in use while a hidden one holds the receiver
abbrev pub beside : Option Hidden → Environment → Environment
beside None env = env
beside (Some h) env = record env { in_use = env.in_use + 1 }

-- ---- forms of expressions

-- a name, `self`, a member, an index or what is under `!`: it is looked up where it stands
abbrev pub is_path : s.ExprTree → Bool
is_path (s.name n) = true
is_path s.self = true
is_path (s.member a n) = true
is_path (s.index a b) = true
is_path (s.force a) = true
is_path _ = false

-- the same before `?.`, where a chain is looked up too
abbrev pub is_path_of_chain : s.ExprTree → Bool
is_path_of_chain (s.optional_member a n) = true
is_path_of_chain a = is_path a

-- a place: a name, `self`, or a member or index of a place
abbrev pub is_place : s.ExprTree → Bool
is_place (s.name n) = true
is_place s.self = true
is_place (s.member a n) = is_place a
is_place (s.index a b) = is_place a
is_place _ = false

abbrev pub is_self : s.ExprTree → Bool
is_self s.self = true
is_self _ = false

abbrev pub is_nil : s.ExprTree → Bool
is_nil s.nil = true
is_nil _ = false
