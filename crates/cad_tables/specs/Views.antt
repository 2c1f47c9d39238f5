-- The contracts of all accounts, and what building tables gives.
use Rattle.std.specs.Prelude.{Result, Ok, Err, List, [], ◌∷◌, map, if◌then◌else◌}
use Rattle.cad_syntax.specs.TypeIds.{same_id}
use Rattle.cad_declarations.specs.Imports.{ContractEntry}
use Rattle.cad_declarations.specs.Tables.{ProgramTables}
use Rattle.cad_declarations.specs.Views.{tables_of}
use Rattle.cad_declarations.specs.declared.program.Deployed.{Deployed}
use Rattle.cad_declarations.specs.declared.stop.Stop.{Stop}
use Rattle.cad_declarations.specs.declared.tables.Tables.{Tables}
use Rattle.cad_contracts.specs.Views.{entry_of}

abbrev pub contracts_of : Deployed → List ContractEntry
contracts_of x = map entry_of x.contracts.items

-- a contract in the place of the one with its address and name, or at the end
abbrev pub with_entry : List ContractEntry → ContractEntry → List ContractEntry
with_entry [] new = new ∷ []
with_entry (c ∷ more) new = if same_id c.id new.id then new ∷ more else c ∷ with_entry more new

abbrev pub outcome_of : Result Tables Stop → Result ProgramTables Stop
outcome_of (Ok tables) = Ok (tables_of tables)
outcome_of (Err stop) = Err stop
