-- What a program's contract declares, and the scope of the program.
use Rattle.std.specs.Prelude.{Option, Some, None, List, [], ◌∷◌, ◌++◌, map, filter_map, flat_map, option_map, option_to_list}
use Rattle.cad_syntax.specs.declared.text.Name.{Name}
use Rattle.cad_syntax.specs.declared.address.Address.{Address}
use Rattle.cad_syntax.specs.declared.type_id.TypeId.{TypeId}
use Rattle.cad_grammar.specs.Trees as t
use Rattle.cad_grammar.specs.declared.declaration.CompositeKind.{CompositeKind}
use Rattle.cad_grammar.specs.declared.declaration.CompositeKind.TheVariants as c
use Rattle.cad_types.specs.Declarations.{Declaration}
use Rattle.cad_types.specs.declared.declared.Sort.{Sort}
use Rattle.cad_types.specs.declared.declared.Sort.TheVariants as s
use Rattle.cad_declarations.specs.Deployed.{parent_links_of}
use Rattle.cad_declarations.specs.Imports.{ContractEntry, all_imported, contract_id}
use Rattle.cad_declarations.specs.declared.link.Link.{Link}
use Rattle.cad_declarations.specs.Scopes.{Scope, inside, resolved_interface}

-- ---- the contract that the program is

pub record OwnContract : Type 0 where
  pub id : TypeId
  pub members : List t.ContractMemberTree

abbrev pub first_contract : List t.DeclTree → Option t.ContractTree
first_contract [] = None
first_contract (t.contract x ∷ more) = Some x
first_contract (t.top_function x ∷ more) = first_contract more
first_contract (t.transaction x ∷ more) = first_contract more

abbrev pub contract_at : Address → t.ContractTree → OwnContract
contract_at place tree = record { id = contract_id place.0 tree.name; members = tree.members }

-- the first contract of a program that has a place
abbrev pub own_contract : Option Address → t.ProgramTree → Option OwnContract
own_contract None program = None
own_contract (Some place) program = option_map (contract_at place) (first_contract program.declarations)

-- ---- what it declares

abbrev pub composite_sort : CompositeKind → Sort
composite_sort c.Struct = s.Struct
composite_sort c.Resource = s.Resource

abbrev pub interface_sort : CompositeKind → Sort
interface_sort c.Struct = s.StructInterface
interface_sort c.Resource = s.ResourceInterface

-- a declared type whose fields and interfaces aren't told yet
abbrev pub named : TypeId → Sort → Declaration
named id sort = record { id = id; sort = sort; fields = []; interfaces = [] }

-- the type that a member of a contract declares
abbrev pub named_by : TypeId → t.ContractMemberTree → List Declaration
named_by contract (t.composite x) = named (inside contract x.name) (composite_sort x.kind) ∷ []
named_by contract (t.interface x) = named (inside contract x.name) (interface_sort x.kind) ∷ []
named_by contract (t.contract_event x) = named (inside contract x.name) s.Event ∷ []
named_by contract (t.enumeration x) = named (inside contract x.name) s.Enum ∷ []
named_by contract _ = []

abbrev pub named_in : OwnContract → List Declaration
named_in own = named own.id s.Contract ∷ flat_map (named_by own.id) own.members

abbrev pub entitlement_by : TypeId → t.ContractMemberTree → List TypeId
entitlement_by contract (t.entitlement x) = inside contract x.name ∷ []
entitlement_by contract _ = []

abbrev pub entitlements_in : OwnContract → List TypeId
entitlements_in own = flat_map (entitlement_by own.id) own.members

abbrev pub mapping_by : TypeId → t.ContractMemberTree → List TypeId
mapping_by contract (t.mapping x) = inside contract x.name ∷ []
mapping_by contract _ = []

abbrev pub mappings_in : OwnContract → List TypeId
mappings_in own = flat_map (mapping_by own.id) own.members

-- ---- the scope

-- what the names of a program are looked up in: the closure of its imports, and its own contract
abbrev pub program_scope : List ContractEntry → t.ProgramTree → Option OwnContract → Scope
program_scope imports program own = record {
  contract = option_map (λ o. o.id) own;
  imports = all_imported program.imports;
  types = flat_map (λ c. map (λ t. named t.id t.sort) c.types) imports ++ flat_map named_in (option_to_list own);
  entitlements = flat_map (λ c. c.entitlements) imports ++ flat_map entitlements_in (option_to_list own);
  mappings = flat_map (λ c. map (λ m. m.id) c.mappings) imports ++ flat_map mappings_in (option_to_list own);
}

-- ---- the interfaces that types name

-- those of the names that are interfaces
abbrev pub parents_of : Scope → List (List Name) → List TypeId
parents_of scope names = filter_map (resolved_interface scope) names

abbrev pub parent_links_by : Scope → TypeId → t.ContractMemberTree → List Link
parent_links_by scope contract (t.composite x) = record { id = inside contract x.name; to = parents_of scope x.conformances } ∷ []
parent_links_by scope contract (t.interface x) = record { id = inside contract x.name; to = parents_of scope x.conformances } ∷ []
parent_links_by scope contract _ = []

abbrev pub parent_links_in : Scope → OwnContract → List Link
parent_links_in scope own = flat_map (parent_links_by scope own.id) own.members

-- to the interfaces that a type names, of all types of a program and its imports
abbrev pub parent_links : List ContractEntry → Scope → Option OwnContract → List Link
parent_links imports scope own = flat_map parent_links_of imports ++ flat_map (parent_links_in scope) (option_to_list own)
