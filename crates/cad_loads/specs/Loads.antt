-- Contracts that were deployed one after another.
use Rattle.std.specs.Prelude.{◌≡◌, ℕ, false, Some, List, [], ◌∷◌, ◌++◌, map}
use Rattle.cad_syntax.specs.TypeIds.{has}
use Rattle.cad_syntax.specs.declared.address.Address.{Address}
use Rattle.cad_syntax.specs.declared.type_id.TypeId.{TypeId}
use Rattle.cad_declarations.specs.Imports.{ContractEntry, contract_entry}
use Rattle.cad_acceptance.specs.Acceptance.{CheckedProgram, AcceptsText}
use Rattle.cad_world.specs.State.{Program, Contract}

-- ---- contracts without their values

-- the address and the name under which a contract stands, and its code
pub record Source : Type 0 where
  pub id : TypeId
  pub code : List ℕ

-- with the program that the code is
pub record Loaded : Type 0 where
  pub id : TypeId
  pub code : List ℕ
  pub program : Program

abbrev pub loaded_of : Contract → Loaded
loaded_of c = record { id = c.id; code = c.code; program = c.program }

abbrev pub source_of : Loaded → Source
source_of c = record { id = c.id; code = c.code }

abbrev pub loaded_as : Source → Program → Loaded
loaded_as s program = record { id = s.id; code = s.code; program = program }

-- each with its program, in order
abbrev pub loaded_by : List Source → List Program → List Loaded
loaded_by [] programs = []
loaded_by (s ∷ sources) [] = []
loaded_by (s ∷ sources) (p ∷ programs) = loaded_as s p ∷ loaded_by sources programs

abbrev pub ids_of : List Loaded → List TypeId
ids_of contracts = map (λ c. c.id) contracts

-- what they declare, by which code is checked beside them
abbrev pub entry_of : Loaded → ContractEntry
entry_of c = contract_entry c.id c.program.tables

abbrev pub entries_of : List Loaded → List ContractEntry
entries_of contracts = map entry_of contracts

-- ---- what is deployed

abbrev pub program_in : CheckedProgram → Program
program_in x = record { tables = x.tables; bodies = x.bodies }

-- the code is accepted as this program at an address, beside what contracts declare
pub record Accepted (deployed : List ContractEntry) (address : Address) (code : List ℕ) (program : Program) : Type 0 where
  pub checked : CheckedProgram
  pub accepts : AcceptsText deployed (Some address) code checked
  pub is_program : program ≡ program_in checked

-- Beside these its code is this program: the contract of the name under which it stands.
pub record Stands (deployed : List ContractEntry) (c : Loaded) : Type 0 where
  pub accepted : Accepted deployed c.id.address c.code c.program
  pub is_contract : c.program.tables.contract ≡ Some c.id

-- The contracts were deployed one after another, in some order: each beside those that were there, and none of them twice.
-- The place of a contract in the list is free.
pub data Loads : List Loaded → Type 0 where
  none : Loads []
  one : (before after : List Loaded) (c : Loaded)
      → Loads (before ++ after) → has (ids_of (before ++ after)) c.id ≡ false → Stands (entries_of (before ++ after)) c → Loads (before ++ c ∷ after)
