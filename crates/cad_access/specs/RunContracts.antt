-- What the contracts of a run declare. The rest of the state isn't looked at.
use Rattle.std.specs.Prelude.{List, [], Option, map, option_map, find}
use Rattle.std.specs.List.{flat_map}
use Rattle.cad_syntax.specs.TypeIds.{same_id}
use Rattle.cad_syntax.specs.declared.type_id.TypeId.{TypeId}
use Rattle.cad_auth.specs.declared.mapping.Mapping.{Mapping}
use Rattle.cad_types.specs.Declarations.{Declaration}
use Rattle.cad_declarations.specs.Kinds.{declaration_of}
use Rattle.cad_declarations.specs.Tables.{TypeEntry}
use Rattle.cad_declarations.specs.Typed.{TypeBody}
use Rattle.cad_world.specs.Declared as d
use Rattle.cad_world.specs.State as s
use Rattle.cad_state.specs.Views.{contract_of, state_over}
use Rattle.cad_state.specs.declared.state.Contract.{Contract}
use Rattle.cad_state.specs.declared.state.RunState.{RunState}

-- the state over no accounts: what this crate tells of a state doesn't depend on them
abbrev pub run_of : RunState → s.State
run_of x = state_over [] x

abbrev pub contracts_of : List Contract → List s.Contract
contracts_of all = map contract_of all

-- what these contracts declare under an identifier
abbrev pub entry_among : List s.Contract → TypeId → Option TypeEntry
entry_among contracts id = find (λ entry. same_id entry.id id) (d.types_of contracts)

-- the mapping that these contracts declare under an identifier
abbrev pub mapping_among : List s.Contract → TypeId → Option Mapping
mapping_among contracts id = option_map (λ m. m.mapping) (find (λ m. same_id m.id id) (flat_map d.own_mappings contracts))

-- the bodies that these contracts have of a type
abbrev pub bodies_among : List s.Contract → TypeId → Option TypeBody
bodies_among contracts id = find (λ b. same_id b.id id) (d.type_bodies contracts)

-- the declared types by which the types of a run over these contracts are ordered
abbrev pub kinds_among : List s.Contract → List Declaration
kinds_among contracts = map declaration_of (d.types_of contracts)
