-- The members of declared types.
use Rattle.std.specs.Prelude.{Bool, true, false, Option, Some, None, List, [], ◌∷◌, find, option_map, option_and_then, if◌then◌else◌}
use Rattle.std.specs.Option.{option_or}
use Rattle.cad_syntax.specs.TypeIds.{same_id}
use Rattle.cad_syntax.specs.Types.{PureType, intersection, declared}
use Rattle.cad_syntax.specs.declared.text.Name.{Name}
use Rattle.cad_syntax.specs.declared.type_id.TypeId.{TypeId}
use Rattle.cad_auth.specs.declared.mapping.Mapping.{Mapping}
use Rattle.cad_declarations.specs.Names.{same_name, identity_mapping}
use Rattle.cad_declarations.specs.Scopes.{is_interface_sort}
use Rattle.cad_declarations.specs.Tables.{MemberForm, field, function, MemberEntry, TypeEntry, MappingEntry, ProgramTables}

-- the first declaration of an identifier
abbrev pub type_in : List TypeEntry → TypeId → Option TypeEntry
type_in types id = find (λ t. same_id t.id id) types

-- the first member of a name
abbrev pub member_in : List MemberEntry → Name → Option MemberEntry
member_in members name = find (λ m. same_name m.name name) members

abbrev pub members_in : Option TypeEntry → List MemberEntry
members_in None = []
members_in (Some t) = t.members

abbrev pub interfaces_in : Option TypeEntry → List TypeId
interfaces_in None = []
interfaces_in (Some t) = t.interfaces

-- what a type declares itself under a name
abbrev pub own_member : List TypeEntry → Name → TypeId → Option MemberEntry
own_member types name id = member_in (members_in (type_in types id)) name

-- the first that is found
abbrev pub first_some : {X Y : Type 0} → (X → Option Y) → List X → Option Y
first_some f [] = None
first_some f (x ∷ xs) = option_or (f x) (first_some f xs)

-- a function with a body
abbrev pub has_body : MemberForm → Bool
has_body (field kind type) = false
has_body (function signature with_body) = with_body

abbrev pub if_default : MemberEntry → Option MemberEntry
if_default m = if has_body m.form then Some m else None

-- the function of this name that an interface has with a body
abbrev pub default_in : List TypeEntry → Name → TypeId → Option MemberEntry
default_in types name id = option_and_then if_default (own_member types name id)

-- of an interface: the first of its name, in itself and then in its parents
abbrev pub interface_member : List TypeEntry → Name → TypeId → Option MemberEntry
interface_member types name id = option_or (own_member types name id) (first_some (own_member types name) (interfaces_in (type_in types id)))

-- of a composite: its own, else the first body in its interfaces
abbrev pub composite_member : List TypeEntry → Name → TypeId → Option MemberEntry
composite_member types name id = option_or (own_member types name id) (first_some (default_in types name) (interfaces_in (type_in types id)))

abbrev pub is_interface_entry : Option TypeEntry → Bool
is_interface_entry None = false
is_interface_entry (Some t) = is_interface_sort t.sort

abbrev pub declared_member : List TypeEntry → Name → TypeId → Option MemberEntry
declared_member types name id =
    if is_interface_entry (type_in types id) then interface_member types name id else composite_member types name id

-- The member of a name that a declared type has, or an intersection, interface by interface. Members of other types are built
-- in.
abbrev pub member : ProgramTables → PureType → Name → Option MemberEntry
member tables (declared id) name = declared_member tables.types name id
member tables (intersection ids) name = first_some (interface_member tables.types name) ids
member tables _ name = None

-- all interfaces that a type has, each before its own parents
abbrev pub interfaces_of_type : ProgramTables → TypeId → List TypeId
interfaces_of_type tables id = interfaces_in (type_in tables.types id)

abbrev pub mapping_in_entries : List MappingEntry → TypeId → Option Mapping
mapping_in_entries all id = option_map (λ m. m.mapping) (find (λ m. same_id m.id id) all)

-- the built-in mapping, or the first of this identifier
abbrev pub mapping_of : ProgramTables → TypeId → Option Mapping
mapping_of tables id =
    if same_id id identity_mapping then Some (record { identity = true; pairs = [] }) else mapping_in_entries tables.mappings id
