-- Contracts behind which a new one may still have to come.
use Rattle.std.specs.Prelude.{Bool, List, if◌then◌else◌}
use Rattle.cad_declarations.specs.Imports.{ContractEntry}
use Rattle.cad_tables.specs.Views.{with_entry}

-- what is left of contracts, by whether the new one has its place
abbrev pub rest_placed : Bool → List ContractEntry → ContractEntry → List ContractEntry
rest_placed is_placed rest new = if is_placed then rest else with_entry rest new
