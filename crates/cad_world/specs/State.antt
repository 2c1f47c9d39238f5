-- The state of a run, and what an action on it comes to.
use Rattle.std.specs.Prelude.{ℕ, ◌-◌, nat_le, Bool, true, false, List, Option, Some, None}
use Rattle.cad_syntax.specs.Types.{PureType}
use Rattle.cad_syntax.specs.declared.text.Name.{Name}
use Rattle.cad_syntax.specs.declared.type_id.TypeId.{TypeId}
use Rattle.cad_values.specs.Values.{PureValue}
use Rattle.cad_declarations.specs.Tables.{ProgramTables}
use Rattle.cad_declarations.specs.Typed.{ProgramBodies}
use Rattle.cad_world.specs.Rows.{Row}

-- ---- accounts

-- the capability that is published under an identifier: its number in this account, and the type that it lends
pub record Publication : Type 0 where
  pub identifier : Name
  pub number : ℕ
  pub lent : PureType

-- the controller of a capability: its number, the type that may be borrowed, its tag, and the identifier in storage
pub record Controller : Type 0 where
  pub number : ℕ
  pub borrow : PureType
  pub tag : List ℕ
  pub target : Name

pub record Account : Type 0 where
  -- the identifiers in storage in their order, and the values under them, one in each place
  pub identifiers : List Name
  pub stored : Row
  -- in the order of identifiers
  pub published : List Publication
  -- in the order of numbers
  pub controllers : List Controller
  pub next_controller : ℕ

-- ---- contracts

-- a program that was checked
pub record Program : Type 0 where
  pub tables : ProgramTables
  pub bodies : ProgramBodies

pub record Contract : Type 0 where
  pub id : TypeId
  pub code : List ℕ
  pub program : Program
  -- a row of one place
  pub value : Row
  -- whether its initializer runs: fields of its value may be unset then
  pub is_running : Bool

-- Accounts have the addresses from 1 in order. Contracts stand in the order of their addresses and names.
pub record World : Type 0 where
  pub accounts : List Account
  pub contracts : List Contract
  pub next_identity : ℕ

-- ---- calls

-- a call in progress
pub record Frame : Type 0 where
  -- the type whose code runs; none outside of types
  pub within : Option TypeId
  -- the label of the receiver, or of what the initializer makes
  pub self : Option ℕ
  -- whether it is an initializer's call
  pub initializes : Bool
  -- by their numbers, hidden ones among them
  pub variables : Row
  -- the values of `before`, those of the conditions that come next first
  pub before : Row
  -- the result while postconditions run: a row of one place
  pub result : Row

pub record State : Type 0 where
  -- the newest first
  pub frames : List Frame
  -- what initializers make, the newest first; fields that aren't set are empty places
  pub making : Row
  pub accounts : List Account
  -- those that were added stand last
  pub contracts : List Contract
  -- what runs
  pub program : Program
  -- in the order of emission
  pub events : List PureValue
  -- identities, in order
  pub made : List ℕ
  pub destroyed : List ℕ
  -- contracts that were added, in order
  pub added : List TypeId
  pub next_label : ℕ
  pub next_identity : ℕ
  pub units : ℕ
  -- how many calls of functions and initializers are in progress
  pub depth : ℕ

-- ---- outcomes

pub data Outcome (A : Type 0) : Type 0 where
  ok : A → State → Outcome A
  -- an error by its number
  failed : ℕ → Outcome A
  -- a unit is due, and none is left
  limit : Outcome A
  -- a value isn't of the type that it should have
  ill : Outcome A

abbrev pub bind : {A B : Type 0} → Outcome A → (A → State → Outcome B) → Outcome B
bind (ok a s) f = f a s
bind (failed e) f = failed e
bind limit f = limit
bind ill f = ill

abbrev pub Action : Type 0 → Type 0
Action A = State → Outcome A

infixl 10 ◌>>=◌
abbrev pub ◌>>=◌ : {A B : Type 0} → Action A → (A → Action B) → Action B
p >>= f = λ s. bind (p s) (λ a. f a)

infixl 10 ◌>>◌
abbrev pub ◌>>◌ : {A B : Type 0} → Action A → Action B → Action B
p >> q = p >>= (λ _. q)

abbrev pub give : {A : Type 0} → A → Action A
give a = λ s. ok a s

abbrev pub fail : {A : Type 0} → ℕ → Action A
fail e = λ s. failed e

abbrev pub stuck : {A : Type 0} → Action A
stuck = λ s. ill

abbrev pub done : Action (Unit {0})
done = λ s. ok tt s

-- ---- tests

-- IllTyped where the test doesn't hold
abbrev pub guard : {A : Type 0} → Bool → Action A → Action A
guard true p = p
guard false p = λ s. ill

-- the error where the test doesn't hold
abbrev pub require : {A : Type 0} → ℕ → Bool → Action A → Action A
require e true p = p
require e false p = λ s. failed e

abbrev pub choose : {A : Type 0} → Bool → Action A → Action A → Action A
choose true p q = p
choose false p q = q

-- by a truth, IllTyped where there is none
abbrev pub by_truth : {A : Type 0} → Option Bool → Action A → Action A → Action A
by_truth (Some true) p q = p
by_truth (Some false) p q = q
by_truth None p q = λ s. ill

-- with what is there, IllTyped where nothing is
abbrev pub with_some : {A B : Type 0} → Option A → (A → Action B) → Action B
with_some (Some a) f = f a
with_some None f = λ s. ill

-- with what is there, the error where nothing is
abbrev pub or_fail : {A B : Type 0} → ℕ → Option A → (A → Action B) → Action B
or_fail e (Some a) f = f a
or_fail e None f = λ s. failed e

-- ---- units

-- takes n units, where so many are left
abbrev pub paid : ℕ → Bool → Action (Unit {0})
paid n true = λ s. ok tt (record s { units = s.units - n })
paid n false = λ s. limit

abbrev pub spend : ℕ → Action (Unit {0})
spend n = λ s. paid n (nat_le n s.units) s

-- one unit: of a statement, a turn or a call
abbrev pub tick : Action (Unit {0})
tick = spend 1
