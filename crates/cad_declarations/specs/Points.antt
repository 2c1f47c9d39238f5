-- What is looked at when the names of a program are resolved: its declarations and functions in source order.
use Rattle.std.specs.Prelude.{ℕ, Bool, true, false, ◌&&◌, not, Option, Some, None, List, [], ◌∷◌, ◌++◌, codes, map}
use Rattle.std.specs.List.{list_all}
use Rattle.std.specs.Option.{is_some}
use Rattle.cad_syntax.specs.declared.text.Name.{Name}
use Rattle.cad_syntax.specs.declared.type_id.TypeId.{TypeId}
use Rattle.cad_grammar.specs.Trees as t
use Rattle.cad_grammar.specs.declared.declaration.Access.{Access}
use Rattle.cad_grammar.specs.declared.declaration.CompositeKind.{CompositeKind}
use Rattle.cad_grammar.specs.declared.declaration.CompositeKind.TheVariants as c
use Rattle.cad_grammar.specs.declared.declaration.MappingItem.{MappingItem}
use Rattle.cad_grammar.specs.declared.declaration.MappingItem.TheVariants as item
use Rattle.cad_types.specs.declared.declared.Sort.{Sort}
use Rattle.cad_types.specs.declared.declared.Sort.TheVariants as s
use Rattle.cad_declarations.specs.Names.{is_spelled, has_name}
use Rattle.cad_declarations.specs.Own.{interface_sort}
use Rattle.cad_declarations.specs.Reached.{is_on_circle}
use Rattle.cad_declarations.specs.declared.link.Link.{Link}
use Rattle.cad_declarations.specs.Scopes.{Scope, Meaning, type_meaning, meaning, inside, resolved_access, resolved_entitlement, resolved_type}
use Rattle.cad_declarations.specs.Written.{types_of_option, types_of_parameters, types_of_head, rows_of_block, rows_of_option, rows_of_conditions, rows_of_body}

-- A declaration or function: its names, whether all is right in the declaration itself or in the function's head, and the
-- types of each of its statements.
pub record Point : Type 0 where
  pub inside : List Name
  pub is_right : Bool
  pub rows : List (List t.TypeTree)

-- a declaration without statements
abbrev pub declaration_point : List Name → Bool → Point
declaration_point names is_right = record { inside = names; is_right = is_right; rows = [] }

-- what has no place in a program
abbrev pub misplaced : List Name → Point
misplaced names = declaration_point names false

-- ---- names

abbrev pub word : List ℕ → Name
word text = record { 0 = text }

-- what the words that begin a part of a program are named by
abbrev pub init_name : Name
init_name = word (codes "init")

abbrev pub transaction_name : Name
transaction_name = word (codes "transaction")

-- a name that no declaration before has
abbrev pub is_new : List Name → Name → Bool
is_new before name = not (has_name before name)

-- a name of its own behind those of the declaration in which it stands
abbrev pub below : List Name → Name → List Name
below names name = names ++ name ∷ []

-- the built-in members of declared types, whose names nothing that is declared there has
abbrev pub names_of_any : List Name
names_of_any = word (codes "getType") ∷ word (codes "isInstance") ∷ []

abbrev pub names_of_contract : List Name
names_of_contract = word (codes "account") ∷ names_of_any

abbrev pub names_of_composite : CompositeKind → List Name
names_of_composite c.Struct = names_of_any
names_of_composite c.Resource = word (codes "uuid") ∷ word (codes "owner") ∷ names_of_any

-- ---- what is there

abbrev pub type_is_there : Scope → t.TypeTree → Bool
type_is_there scope written = is_some (resolved_type scope written)

abbrev pub types_are_there : Scope → List t.TypeTree → Bool
types_are_there scope all = list_all (type_is_there scope) all

abbrev pub access_is_there : Scope → Access → Bool
access_is_there scope access = is_some (resolved_access scope access)

abbrev pub entitlement_is_there : Scope → List Name → Bool
entitlement_is_there scope names = is_some (resolved_entitlement scope names)

abbrev pub same_sort : Sort → Sort → Bool
same_sort s.StructInterface s.StructInterface = true
same_sort s.ResourceInterface s.ResourceInterface = true
same_sort _ _ = false

-- an interface of this sort
abbrev pub is_interface : Sort → Option Meaning → Bool
is_interface sort (Some (type_meaning id own)) = same_sort sort own
is_interface sort _ = false

-- structs have interfaces of structs, and resources those of resources
abbrev pub interfaces_are_there : Scope → CompositeKind → List (List Name) → Bool
interfaces_are_there scope kind all = list_all (λ names. is_interface (interface_sort kind) (meaning scope names)) all

-- ---- members

abbrev pub field_is_right : Scope → List Name → t.FieldTree → Bool
field_is_right scope before x = is_new before x.name && (access_is_there scope x.access && type_is_there scope x.annotation.written)

abbrev pub function_point : Scope → List Name → List Name → t.FunctionTree → Point
function_point scope names before x = record {
  inside = below names x.name;
  is_right = is_new before x.name && (access_is_there scope x.access && types_are_there scope (types_of_head x));
  rows = rows_of_option x.block;
}

abbrev pub init_point : Scope → List Name → List Name → t.InitTree → Point
init_point scope names before x = record {
  inside = below names init_name;
  is_right = is_new before init_name && types_are_there scope (types_of_parameters x.parameters);
  rows = rows_of_block x.block;
}

abbrev pub option_access_is_there : Scope → Option Access → Bool
option_access_is_there scope None = true
option_access_is_there scope (Some access) = access_is_there scope access

abbrev pub event_parameter_is_right : Scope → t.EventParameterTree → Bool
event_parameter_is_right scope x = type_is_there scope x.parameter.annotation.written && types_are_there scope (types_of_option x.default_value)

-- an event, by whether it has its place there
abbrev pub event_point : Scope → List Name → List Name → Bool → t.EventTree → Point
event_point scope names before is_placed x =
    declaration_point (below names x.name)
    (is_new before x.name && (is_placed && (option_access_is_there scope x.access && list_all (event_parameter_is_right scope) x.parameters)))

abbrev pub is_destroyed_event : t.EventTree → Bool
is_destroyed_event x = is_spelled (codes "ResourceDestroyed") x.name

-- `ResourceDestroyed` alone stands in a composite, and in resources alone
abbrev pub has_destroyed_event : CompositeKind → Bool
has_destroyed_event c.Struct = false
has_destroyed_event c.Resource = true

-- ---- composites and interfaces

-- the name that a member has among those of its composite
abbrev pub composite_member_name : t.CompositeMemberTree → Name
composite_member_name (t.field x) = x.name
composite_member_name (t.function x) = x.name
composite_member_name (t.init x) = init_name
composite_member_name (t.event x) = x.name

abbrev pub composite_field_is_right : Scope → List Name → t.CompositeMemberTree → Bool
composite_field_is_right scope before (t.field x) = field_is_right scope before x
composite_field_is_right scope before _ = true

-- the fields count to the composite
abbrev pub composite_fields_are_right : Scope → List Name → List t.CompositeMemberTree → Bool
composite_fields_are_right scope before [] = true
composite_fields_are_right scope before (x ∷ more) = composite_field_is_right scope before x && composite_fields_are_right scope (composite_member_name x ∷ before) more

abbrev pub composite_member_points : Scope → CompositeKind → List Name → List Name → t.CompositeMemberTree → List Point
composite_member_points scope kind names before (t.field x) = []
composite_member_points scope kind names before (t.function x) = function_point scope names before x ∷ []
composite_member_points scope kind names before (t.init x) = init_point scope names before x ∷ []
composite_member_points scope kind names before (t.event x) = event_point scope names before (is_destroyed_event x && has_destroyed_event kind) x ∷ []

abbrev pub composite_members_points : Scope → CompositeKind → List Name → List Name → List t.CompositeMemberTree → List Point
composite_members_points scope kind names before [] = []
composite_members_points scope kind names before (x ∷ more) =
    composite_member_points scope kind names before x ++ composite_members_points scope kind names (composite_member_name x ∷ before) more

abbrev pub composite_points : Scope → List Name → List Name → t.CompositeTree → List Point
composite_points scope names before x =
    declaration_point (below names x.name)
    (is_new before x.name && (access_is_there scope x.access && (interfaces_are_there scope x.kind x.conformances
    && composite_fields_are_right scope (names_of_composite x.kind) x.members)))
    ∷ composite_members_points scope x.kind (below names x.name) (names_of_composite x.kind) x.members

abbrev pub interface_member_name : t.InterfaceMemberTree → Name
interface_member_name (t.interface_field x) = x.name
interface_member_name (t.interface_function x) = x.name

abbrev pub interface_field_is_right : Scope → List Name → t.InterfaceMemberTree → Bool
interface_field_is_right scope before (t.interface_field x) = field_is_right scope before x
interface_field_is_right scope before (t.interface_function x) = true

abbrev pub interface_fields_are_right : Scope → List Name → List t.InterfaceMemberTree → Bool
interface_fields_are_right scope before [] = true
interface_fields_are_right scope before (x ∷ more) = interface_field_is_right scope before x && interface_fields_are_right scope (interface_member_name x ∷ before) more

abbrev pub interface_member_points : Scope → List Name → List Name → t.InterfaceMemberTree → List Point
interface_member_points scope names before (t.interface_field x) = []
interface_member_points scope names before (t.interface_function x) = function_point scope names before x ∷ []

abbrev pub interface_members_points : Scope → List Name → List Name → List t.InterfaceMemberTree → List Point
interface_members_points scope names before [] = []
interface_members_points scope names before (x ∷ more) =
    interface_member_points scope names before x ++ interface_members_points scope names (interface_member_name x ∷ before) more

-- an interface, by its identifier; it isn't reached from its own parents
abbrev pub interface_points : Scope → List Link → TypeId → List Name → List Name → t.InterfaceTree → List Point
interface_points scope links id names before x =
    declaration_point (below names x.name)
    (is_new before x.name && (access_is_there scope x.access && (interfaces_are_there scope x.kind x.conformances
    && (not (is_on_circle links id) && interface_fields_are_right scope (names_of_composite x.kind) x.members))))
    ∷ interface_members_points scope (below names x.name) (names_of_composite x.kind) x.members

-- ---- enums and mappings

-- the names differ from those before and from each other
abbrev pub are_new : List Name → List Name → Bool
are_new before [] = true
are_new before (name ∷ more) = is_new before name && are_new (name ∷ before) more

abbrev pub enum_is_right : Scope → t.EnumTree → Bool
enum_is_right scope x =
    access_is_there scope x.access && (type_is_there scope (t.named x.raw t.no_annotations)
    && (are_new [] (map (λ c. c.name) x.cases) && list_all (λ c. access_is_there scope c.access) x.cases))

abbrev pub item_is_right : Scope → MappingItem → Bool
item_is_right scope item.Identity = true
item_is_right scope (item.Pair from to) = entitlement_is_there scope from && entitlement_is_there scope to

-- ---- the contract

abbrev pub contract_member_name : t.ContractMemberTree → Name
contract_member_name (t.contract_field x) = x.name
contract_member_name (t.contract_function x) = x.name
contract_member_name (t.contract_init x) = init_name
contract_member_name (t.composite x) = x.name
contract_member_name (t.interface x) = x.name
contract_member_name (t.contract_event x) = x.name
contract_member_name (t.enumeration x) = x.name
contract_member_name (t.entitlement x) = x.name
contract_member_name (t.mapping x) = x.name

abbrev pub contract_field_is_right : Scope → List Name → t.ContractMemberTree → Bool
contract_field_is_right scope before (t.contract_field x) = field_is_right scope before x
contract_field_is_right scope before _ = true

abbrev pub contract_fields_are_right : Scope → List Name → List t.ContractMemberTree → Bool
contract_fields_are_right scope before [] = true
contract_fields_are_right scope before (x ∷ more) = contract_field_is_right scope before x && contract_fields_are_right scope (contract_member_name x ∷ before) more

abbrev pub contract_member_points : Scope → List Link → TypeId → List Name → t.ContractMemberTree → List Point
contract_member_points scope links id before (t.contract_field x) = []
contract_member_points scope links id before (t.contract_function x) = function_point scope id.names before x ∷ []
contract_member_points scope links id before (t.contract_init x) = init_point scope id.names before x ∷ []
contract_member_points scope links id before (t.composite x) = composite_points scope id.names before x
contract_member_points scope links id before (t.interface x) = interface_points scope links (inside id x.name) id.names before x
contract_member_points scope links id before (t.contract_event x) = event_point scope id.names before (not (is_destroyed_event x)) x ∷ []
contract_member_points scope links id before (t.enumeration x) = declaration_point (below id.names x.name) (is_new before x.name && enum_is_right scope x) ∷ []
contract_member_points scope links id before (t.entitlement x) = declaration_point (below id.names x.name) (is_new before x.name && access_is_there scope x.access) ∷ []
contract_member_points scope links id before (t.mapping x) =
    declaration_point (below id.names x.name) (is_new before x.name && (access_is_there scope x.access && list_all (item_is_right scope) x.items)) ∷ []

abbrev pub contract_members_points : Scope → List Link → TypeId → List Name → List t.ContractMemberTree → List Point
contract_members_points scope links id before [] = []
contract_members_points scope links id before (x ∷ more) =
    contract_member_points scope links id before x ++ contract_members_points scope links id (contract_member_name x ∷ before) more

-- the contract at a place, whose name is new
abbrev pub contract_points : Scope → List Link → TypeId → List Name → t.ContractTree → List Point
contract_points scope links id before x =
    declaration_point id.names
    (is_new before x.name && (access_is_there scope x.access && contract_fields_are_right scope names_of_contract x.members))
    ∷ contract_members_points scope links id names_of_contract x.members

-- ---- transactions

abbrev pub transaction_field_is_right : Scope → t.TransactionFieldTree → Bool
transaction_field_is_right scope x = type_is_there scope x.annotation.written

abbrev pub option_parameters : Option (List t.ParameterTree) → List t.ParameterTree
option_parameters None = []
option_parameters (Some all) = all

abbrev pub prepare_points : Scope → Option t.PrepareTree → List Point
prepare_points scope None = []
prepare_points scope (Some x) = record {
  inside = word (codes "prepare") ∷ [];
  is_right = types_are_there scope (types_of_parameters x.parameters);
  rows = rows_of_body x.body;
} ∷ []

abbrev pub condition_point : List ℕ → Option (List t.ConditionTree) → Point
condition_point text all = record { inside = word text ∷ []; is_right = true; rows = rows_of_conditions all }

abbrev pub option_body : Option (List t.StmtTree) → List t.StmtTree
option_body None = []
option_body (Some all) = all

abbrev pub execute_point : Option (List t.StmtTree) → Point
execute_point body = record { inside = word (codes "execute") ∷ []; is_right = true; rows = rows_of_body (option_body body) }

abbrev pub transaction_points : Scope → List Name → t.TransactionTree → List Point
transaction_points scope before x =
    declaration_point (transaction_name ∷ [])
    (is_new before transaction_name && (types_are_there scope (types_of_parameters (option_parameters x.parameters))
    && (are_new [] (map (λ f. f.name) x.fields) && list_all (transaction_field_is_right scope) x.fields)))
    ∷ prepare_points scope x.prepare
    ++ condition_point (codes "pre") x.pre ∷ execute_point x.execute ∷ condition_point (codes "post") x.post ∷ []
