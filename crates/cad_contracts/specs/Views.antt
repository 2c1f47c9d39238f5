-- What a deployed contract declares, and the contract that a program is.
use Rattle.std.specs.Prelude.{map}
use Rattle.cad_grammar.specs.Views.{contract_member_of}
use Rattle.cad_declarations.specs.Imports.{ContractEntry, contract_id, contract_entry}
use Rattle.cad_declarations.specs.Own.{OwnContract}
use Rattle.cad_declarations.specs.Views.{tables_of}
use Rattle.cad_declarations.specs.declared.program.Installed.{Installed}
use Rattle.cad_contracts.specs.declared.own.Own.{Own}

-- what a deployed contract declares itself
abbrev pub entry_of : Installed → ContractEntry
entry_of x = contract_entry (contract_id x.address.0 x.name) (tables_of x.checked.value.tables)

abbrev pub own_of : Own → OwnContract
own_of x = record { id = x.id; members = map contract_member_of x.members.now }
