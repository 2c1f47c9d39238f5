-- What is read: of an owner a copy, through a reference a reference where the place is of a composite or container.
use Rattle.std.specs.Prelude.{ℕ, zero, Bool, true, false, not, ◌&&◌, ◌==◌, List, [], Option, Some, None, option_map, option_and_then}
use Rattle.cad_syntax.specs.Types.{PureType}
use Rattle.cad_syntax.specs.declared.text.Name.{Name}
use Rattle.cad_syntax.specs.declared.type_id.TypeId.{TypeId}
use Rattle.cad_syntax.specs.declared.types.Authorization.{Authorization}
use Rattle.cad_syntax.specs.declared.types.Authorization.TheVariants.{Unauthorized}
use Rattle.cad_auth.specs.Grants.{sets}
use Rattle.cad_auth.specs.Tests.{covers}
use Rattle.cad_auth.specs.Images.{targets}
use Rattle.cad_auth.specs.declared.mapping.Mapping.{Mapping}
use Rattle.cad_types.specs.Optionals.{gives_reference}
use Rattle.cad_declarations.specs.Tables.{MemberEntry, MemberForm, field, function}
use Rattle.cad_declarations.specs.declared.member.MemberAccess.{MemberAccess}
use Rattle.cad_declarations.specs.declared.member.MemberAccess.TheVariants as access
use Rattle.cad_world.specs.Rows.{NodeShape, Row, stop, plain, link, array, dictionary, composite, Tree, Slot, out, free, full, slot, bare_tree, tree_owns}
use Rattle.cad_world.specs.State.{State, Action, ◌>>=◌, give, stuck, fail, guard, choose, with_some}
use Rattle.cad_world.specs.Trees.{wrapped, nil_tree, value_of}
use Rattle.cad_world.specs.Declared.{mapping_of}
use Rattle.cad_world.specs.Labels.{position_of}
use Rattle.cad_world.specs.Locations.{Location, part, element, entry, name, element_of, key_position, slot_at}
use Rattle.cad_world.specs.Receivers.{Spot}
use Rattle.cad_syntax.specs.declared.kind.Kind.TheVariants.{UInt64}
use Rattle.cad_evaluation.specs.Numbers.{number_of, number_tree, integer_in}
use Rattle.cad_evaluation.specs.Access.{member_of, serves}

-- a value with a resource in it isn't copied
abbrev pub copied : Tree → Action Tree
copied t = guard (not (tree_owns t)) (give (bare_tree t))

-- ---- through references

-- a reference to the node in a place, in the optionals of what stands there; what isn't a composite or container is copied
abbrev pub lent_shape : Authorization → Location → Tree → NodeShape → Action Tree
lent_shape a x t (plain v) = copied t
lent_shape a x t (link b l n) = copied t
lent_shape a x t _ = name x >>= (λ l. give (record { optionals = t.optionals; shape = link a l 0; parts = stop }))

abbrev pub lent : Authorization → Location → Tree → Action Tree
lent a x t = lent_shape a x t t.shape

-- what stands in a place of this declared type, met with these rights
abbrev pub handed : Option Authorization → Authorization → PureType → Location → Tree → Action Tree
handed None a type x t = copied t
handed (Some own) a type x t = choose (gives_reference type) (lent a x t) (copied t)

-- ---- fields

-- the composite that it is, without optionals
abbrev pub composite_in : ℕ → NodeShape → Option TypeId
composite_in zero (composite id i names) = Some id
composite_in n shape = None

abbrev pub composite_id : Tree → Option TypeId
composite_id t = composite_in t.optionals t.shape

abbrev pub field_names : NodeShape → List Name
field_names (composite id i names) = names
field_names _ = []

abbrev pub field_type : MemberForm → Option PureType
field_type (field kind type) = Some type
field_type (function signature with_body) = None

-- the authorization that a mapped field has through a reference is covered by what the mapping makes of the reference's own
abbrev pub is_covered : Option Mapping → Authorization → Authorization → Bool
is_covered None own right = false
is_covered (Some mapping) own right = covers (targets mapping own) (sets right)

abbrev pub may_give : State → MemberAccess → Option Authorization → Authorization → Bool
may_give s (access.Mapped id) (Some own) right = is_covered (mapping_of s id) own right
may_give s _ rights right = true

-- what a reference to the field may do: unauthorized but for a mapped field
abbrev pub right_given : MemberAccess → Authorization → Authorization
right_given (access.Mapped id) right = right
right_given _ right = Unauthorized

abbrev pub read_part : Option Authorization → Authorization → PureType → Location → Slot → Action Tree
read_part rights right type x (full t) = handed rights right type x t
read_part rights right type x free = fail 132
read_part rights right type x out = stuck

abbrev pub read_member : Authorization → Spot → MemberEntry → Action Tree
read_member right spot m =
    with_some (field_type m.form) (λ type.
    with_some (position_of m.name (field_names spot.tree.shape)) (λ i.
    with_some spot.label (λ l.
    read_part spot.rights (right_given m.access right) type (part l i) (slot i spot.tree.parts))))

-- `a.n`: a field of what the receiver is
abbrev pub read_field : Name → Authorization → Spot → Action Tree
read_field name right spot = λ s.
    with_some (composite_id spot.tree) (λ id.
    with_some (member_of s name id) (λ m.
    guard (serves s id m spot.rights && may_give s m.access spot.rights right) (read_member right spot m))) s

-- ---- elements

abbrev pub read_element : Option Authorization → PureType → Location → Slot → Action Tree
read_element rights type x (full t) = handed rights Unauthorized type x t
read_element rights type x _ = fail 113

abbrev pub read_entry : Option Authorization → PureType → Location → Slot → Action Tree
read_entry rights type x (full t) = handed rights Unauthorized type x t >>= (λ v. give (wrapped v))
read_entry rights type x free = fail 113
read_entry rights type x out = give nil_tree

abbrev pub read_index_at : Tree → Option Authorization → ℕ → NodeShape → Row → Action Tree
read_index_at index rights l (array type) r = with_some (integer_in index) (λ i. element_of i (array type) r >>= read_element rights type (element l i))
read_index_at index rights l (dictionary k type ks) r = read_entry rights type (entry l (value_of index)) (slot_at (key_position (value_of index) ks) r)
read_index_at index rights l shape r = stuck

-- `a[e]`: the element, or 104; the value under the key, or nil. The container's own type tells what is read as a reference.
abbrev pub read_index : Tree → Spot → Action Tree
read_index index spot = guard (spot.tree.optionals == 0) (with_some spot.label (λ l. read_index_at index spot.rights l spot.tree.shape spot.tree.parts))

-- ---- what a node tells of itself

abbrev pub unsigned_64 : ℕ → Option Tree
unsigned_64 n = option_map number_tree (number_of UInt64 false n)

abbrev pub identity_in : ℕ → NodeShape → Option ℕ
identity_in zero (composite id i names) = Some i
identity_in n shape = None

-- `uuid` of a resource
abbrev pub read_uuid : Spot → Action Tree
read_uuid spot = with_some (option_and_then unsigned_64 (identity_in spot.tree.optionals spot.tree.shape)) give
