-- The declared types and members of a program, as its tables have them.
use Rattle.std.specs.Prelude.{Bool, true, false, not, Option, Some, None, List, [], ◌∷◌, codes, map, filter_map, flat_map, unwrap_or, if◌then◌else◌}
use Rattle.std.specs.List.{list_any}
use Rattle.cad_syntax.specs.Types.{PureType, basic}
use Rattle.cad_syntax.specs.declared.text.Name.{Name}
use Rattle.cad_syntax.specs.declared.kind.Kind.{Kind}
use Rattle.cad_syntax.specs.declared.type_id.TypeId.{TypeId}
use Rattle.cad_syntax.specs.declared.types.Basic.TheVariants as b
use Rattle.cad_grammar.specs.Trees as t
use Rattle.cad_grammar.specs.declared.declaration.Access.{Access}
use Rattle.cad_grammar.specs.declared.declaration.MappingItem.{MappingItem}
use Rattle.cad_grammar.specs.declared.declaration.MappingItem.TheVariants as item
use Rattle.cad_grammar.specs.declared.statement.VariableKind.TheVariants as v
use Rattle.cad_types.specs.declared.declared.Sort.{Sort}
use Rattle.cad_types.specs.declared.declared.Sort.TheVariants as s
use Rattle.cad_declarations.specs.BuiltinNames.{is_integer}
use Rattle.cad_declarations.specs.Names.{is_spelled}
use Rattle.cad_declarations.specs.Own.{OwnContract, composite_sort, interface_sort, parents_of}
use Rattle.cad_declarations.specs.Reached.{linearised}
use Rattle.cad_declarations.specs.declared.link.Link.{Link}
use Rattle.cad_declarations.specs.Scopes.{Scope, inside, resolved_access, resolved_entitlement, resolved_type, option_both}
use Rattle.cad_declarations.specs.Tables.{ParameterType, SignatureType, field, function, MemberEntry, TypeEntry, MappingEntry}
use Rattle.cad_declarations.specs.declared.member.MemberAccess.{MemberAccess}
use Rattle.cad_declarations.specs.declared.member.MemberAccess.TheVariants as m

-- ---- heads

-- a written type, access or result; of a name that isn't there nothing is asked
abbrev pub type_entry : Scope → t.TypeTree → PureType
type_entry scope written = unwrap_or (resolved_type scope written) (basic b.Never)

abbrev pub access_entry : Scope → Access → MemberAccess
access_entry scope access = unwrap_or (resolved_access scope access) m.Own

abbrev pub result_entry : Scope → Option t.Annotation → PureType
result_entry scope None = basic b.Void
result_entry scope (Some a) = type_entry scope a.written

-- `_` stands for no label
abbrev pub unless_blank : Name → Option Name
unless_blank name = if is_spelled (codes "_") name then None else Some name

-- the label of an argument: the parameter's own, else its name
abbrev pub argument_label : Option Name → Name → Option Name
argument_label label name = unless_blank (unwrap_or label name)

abbrev pub parameter_entry : Scope → t.ParameterTree → ParameterType
parameter_entry scope p = record { label = argument_label p.label p.name; name = p.name; type = type_entry scope p.annotation.written }

abbrev pub function_signature : Scope → t.FunctionTree → SignatureType
function_signature scope f = record {
  is_view = f.is_view;
  parameters = map (parameter_entry scope) f.parameters;
  result = result_entry scope f.result;
}

abbrev pub init_signature : Scope → t.InitTree → SignatureType
init_signature scope x = record { is_view = x.is_view; parameters = map (parameter_entry scope) x.parameters; result = basic b.Void }

abbrev pub event_signature : Scope → t.EventTree → SignatureType
event_signature scope x = record { is_view = false; parameters = map (λ p. parameter_entry scope p.parameter) x.parameters; result = basic b.Void }

-- ---- members

abbrev pub field_entry : Scope → TypeId → t.FieldTree → MemberEntry
field_entry scope id x = record {
  name = x.name;
  access = access_entry scope x.access;
  declared_by = id;
  form = field x.kind (type_entry scope x.annotation.written);
}

abbrev pub function_entry : Scope → TypeId → Bool → t.FunctionTree → MemberEntry
function_entry scope id has_body x = record {
  name = x.name;
  access = access_entry scope x.access;
  declared_by = id;
  form = function (function_signature scope x) has_body;
}

abbrev pub is_empty : {X : Type 0} → List X → Bool
is_empty [] = true
is_empty (x ∷ xs) = false

-- in an interface a block without statements is conditions alone
abbrev pub has_statements : Option t.FunctionBlockTree → Bool
has_statements None = false
has_statements (Some block) = not (is_empty block.body)

abbrev pub composite_member : Scope → TypeId → t.CompositeMemberTree → Option MemberEntry
composite_member scope id (t.field x) = Some (field_entry scope id x)
composite_member scope id (t.function x) = Some (function_entry scope id true x)
composite_member scope id _ = None

abbrev pub interface_member : Scope → TypeId → t.InterfaceMemberTree → MemberEntry
interface_member scope id (t.interface_field x) = field_entry scope id x
interface_member scope id (t.interface_function x) = function_entry scope id (has_statements x.block) x

abbrev pub contract_member : Scope → TypeId → t.ContractMemberTree → Option MemberEntry
contract_member scope id (t.contract_field x) = Some (field_entry scope id x)
contract_member scope id (t.contract_function x) = Some (function_entry scope id true x)
contract_member scope id _ = None

-- an event has its parameters as fields
abbrev pub event_field : Scope → TypeId → t.EventParameterTree → MemberEntry
event_field scope id p = record {
  name = p.parameter.name;
  access = m.All;
  declared_by = id;
  form = field (Some v.Let) (type_entry scope p.parameter.annotation.written);
}

-- the first initializer that is written
abbrev pub composite_init : Scope → List t.CompositeMemberTree → Option SignatureType
composite_init scope [] = None
composite_init scope (t.init x ∷ more) = Some (init_signature scope x)
composite_init scope (t.field x ∷ more) = composite_init scope more
composite_init scope (t.function x ∷ more) = composite_init scope more
composite_init scope (t.event x ∷ more) = composite_init scope more

abbrev pub contract_init : Scope → List t.ContractMemberTree → Option SignatureType
contract_init scope [] = None
contract_init scope (t.contract_init x ∷ more) = Some (init_signature scope x)
contract_init scope (_ ∷ more) = contract_init scope more

-- ---- types

-- a declared type without cases
abbrev pub plain_type : List Link → TypeId → Sort → List TypeId → List MemberEntry → Option SignatureType → TypeEntry
plain_type links id sort parents members initializer = record {
  id = id;
  sort = sort;
  parents = parents;
  interfaces = linearised links id;
  members = members;
  initializer = initializer;
  cases = [];
  raw = None;
}

abbrev pub event_type : Scope → List Link → TypeId → t.EventTree → TypeEntry
event_type scope links id x = plain_type links id s.Event [] (map (event_field scope id) x.parameters) (Some (event_signature scope x))

-- the events that are declared in a composite
abbrev pub nested_event : Scope → List Link → TypeId → t.CompositeMemberTree → Option TypeEntry
nested_event scope links id (t.event x) = Some (event_type scope links (inside id x.name) x)
nested_event scope links id _ = None

abbrev pub composite_type : Scope → List Link → TypeId → t.CompositeTree → TypeEntry
composite_type scope links id x =
    plain_type links id (composite_sort x.kind) (parents_of scope x.conformances) (filter_map (composite_member scope id) x.members) (composite_init scope x.members)

abbrev pub composite_types : Scope → List Link → TypeId → t.CompositeTree → List TypeEntry
composite_types scope links id x = composite_type scope links id x ∷ filter_map (nested_event scope links id) x.members

abbrev pub interface_type : Scope → List Link → TypeId → t.InterfaceTree → TypeEntry
interface_type scope links id x =
    plain_type links id (interface_sort x.kind) (parents_of scope x.conformances) (map (interface_member scope id) x.members) None

abbrev pub raw_kind : PureType → Option Kind
raw_kind (basic (b.Number kind)) = if is_integer kind then Some kind else None
raw_kind _ = None

abbrev pub enum_type : Scope → List Link → TypeId → t.EnumTree → TypeEntry
enum_type scope links id x = record {
  id = id;
  sort = s.Enum;
  parents = [];
  interfaces = linearised links id;
  members = [];
  initializer = None;
  cases = map (λ c. c.name) x.cases;
  raw = raw_kind (type_entry scope (t.named x.raw t.no_annotations));
}

-- the types that a member of a contract declares
abbrev pub types_by : Scope → List Link → TypeId → t.ContractMemberTree → List TypeEntry
types_by scope links contract (t.composite x) = composite_types scope links (inside contract x.name) x
types_by scope links contract (t.interface x) = interface_type scope links (inside contract x.name) x ∷ []
types_by scope links contract (t.contract_event x) = event_type scope links (inside contract x.name) x ∷ []
types_by scope links contract (t.enumeration x) = enum_type scope links (inside contract x.name) x ∷ []
types_by scope links contract _ = []

-- the contract, and the types that it declares
abbrev pub types_in : Scope → List Link → OwnContract → List TypeEntry
types_in scope links own =
    plain_type links own.id s.Contract [] (filter_map (contract_member scope own.id) own.members) (contract_init scope own.members)
    ∷ flat_map (types_by scope links own.id) own.members

-- ---- mappings

abbrev pub is_identity : MappingItem → Bool
is_identity item.Identity = true
is_identity (item.Pair from to) = false

abbrev pub pair_of : TypeId → TypeId → TypeId × TypeId
pair_of from to = (from, to)

abbrev pub mapping_pair : Scope → MappingItem → Option (TypeId × TypeId)
mapping_pair scope item.Identity = None
mapping_pair scope (item.Pair from to) = option_both pair_of (resolved_entitlement scope from) (resolved_entitlement scope to)

abbrev pub mapping_entry : Scope → TypeId → t.MappingTree → MappingEntry
mapping_entry scope id x = record {
  id = id;
  mapping = record { identity = list_any is_identity x.items; pairs = filter_map (mapping_pair scope) x.items };
}

abbrev pub mappings_by : Scope → TypeId → t.ContractMemberTree → List MappingEntry
mappings_by scope contract (t.mapping x) = mapping_entry scope (inside contract x.name) x ∷ []
mappings_by scope contract _ = []

-- ---- functions outside a contract

-- what declares them has no name
abbrev pub no_id : TypeId
no_id = record { address = record { 0 = 0 }; names = [] }

abbrev pub top_function : Scope → t.DeclTree → Option MemberEntry
top_function scope (t.top_function x) = Some (function_entry scope no_id true x)
top_function scope _ = None
