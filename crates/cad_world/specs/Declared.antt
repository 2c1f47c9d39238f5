-- What is declared where a program runs: by the contracts of the state, those whose initializer runs among them.
use Rattle.std.specs.Prelude.{Bool, true, false, ◌&&◌, ◌==◌, List, [], ◌∷◌, map, filter, find, Option, option_map, if◌then◌else◌, Some}
use Rattle.std.specs.List.{flat_map}
use Rattle.cad_syntax.specs.TypeIds.{same_id}
use Rattle.cad_syntax.specs.declared.text.Name.{Name}
use Rattle.cad_syntax.specs.declared.type_id.TypeId.{TypeId}
use Rattle.cad_auth.specs.declared.mapping.Mapping.{Mapping}
use Rattle.cad_types.specs.Declarations.{Declaration}
use Rattle.cad_declarations.specs.Kinds.{declaration_of}
use Rattle.cad_declarations.specs.Names.{same_name, identity_mapping}
use Rattle.cad_declarations.specs.Tables.{TypeEntry, MappingEntry}
use Rattle.cad_declarations.specs.Typed.{TypeBody, MemberBody}
use Rattle.cad_world.specs.State.{Contract, State}

abbrev pub begins_with : List Name → List Name → Bool
begins_with [] names = true
begins_with (n ∷ ns) [] = false
begins_with (n ∷ ns) (m ∷ ms) = same_name n m && begins_with ns ms

-- the type itself, or one that is declared in it
abbrev pub is_within : TypeId → TypeId → Bool
is_within outer inner = (outer.address.0 == inner.address.0) && begins_with outer.names inner.names

-- the first name alone
abbrev pub first_name : List Name → List Name
first_name [] = []
first_name (n ∷ ns) = n ∷ []

-- the contract in which a type is declared; a contract is in itself
abbrev pub contract_of : TypeId → TypeId
contract_of id = record id { names = first_name id.names }

-- the contract with this identifier
abbrev pub contract_in : List Contract → TypeId → Option Contract
contract_in contracts id = find (λ c. same_id c.id id) contracts

-- the types that a contract declares, itself among them, and the mappings
abbrev pub own_types : Contract → List TypeEntry
own_types c = filter (λ entry. is_within c.id entry.id) c.program.tables.types

abbrev pub own_mappings : Contract → List MappingEntry
own_mappings c = filter (λ m. is_within c.id m.id) c.program.tables.mappings

abbrev pub types_of : List Contract → List TypeEntry
types_of contracts = flat_map own_types contracts

-- by these the types of a run are ordered
abbrev pub declarations : State → List Declaration
declarations s = map declaration_of (types_of s.contracts)

abbrev pub entry_of : State → TypeId → Option TypeEntry
entry_of s id = find (λ entry. same_id entry.id id) (types_of s.contracts)

abbrev pub identity : Mapping
identity = record { identity = true; pairs = [] }

abbrev pub mapping_of : State → TypeId → Option Mapping
mapping_of s id =
    if same_id id identity_mapping then Some identity
    else option_map (λ m. m.mapping) (find (λ m. same_id m.id id) (flat_map own_mappings s.contracts))

abbrev pub type_bodies : List Contract → List TypeBody
type_bodies contracts = flat_map (λ c. c.program.bodies.types) contracts

-- the bodies of a declared type
abbrev pub bodies_of : State → TypeId → Option TypeBody
bodies_of s id = find (λ b. same_id b.id id) (type_bodies s.contracts)

-- the function of this name
abbrev pub function_in : List MemberBody → Name → Option MemberBody
function_in members name = find (λ m. same_name m.name name) members
