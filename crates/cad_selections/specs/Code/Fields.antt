-- The steps in which a field is read.
use Rattle.std.specs.Prelude.{ℕ, ◌&&◌}
use Rattle.cad_syntax.specs.Types.{PureType}
use Rattle.cad_syntax.specs.declared.text.Name.{Name}
use Rattle.cad_syntax.specs.declared.type_id.TypeId.{TypeId}
use Rattle.cad_syntax.specs.declared.types.Authorization.{Authorization}
use Rattle.cad_declarations.specs.Tables.{MemberEntry}
use Rattle.cad_world.specs.Labels.{position_of}
use Rattle.cad_world.specs.Locations.{part}
use Rattle.cad_world.specs.Receivers.{Spot}
use Rattle.cad_world.specs.Rows.{Tree, slot}
use Rattle.cad_world.specs.State.{Action, guard, with_some}
use Rattle.cad_evaluation.specs.Access.{member_of, serves}
use Rattle.cad_evaluation.specs.Reading.{field_names, may_give, right_given, read_part, read_member}

-- a field of this type in the place i of its node
abbrev pub read_at : Authorization → Spot → MemberEntry → PureType → ℕ → Action Tree
read_at right spot m type i = with_some spot.label (λ l. read_part spot.rights (right_given m.access right) type (part l i) (slot i spot.tree.parts))

-- a field of this type
abbrev pub read_of_type : Authorization → Spot → MemberEntry → PureType → Action Tree
read_of_type right spot m type = with_some (position_of m.name (field_names spot.tree.shape)) (λ i. read_at right spot m type i)

-- a member, where it is served
abbrev pub read_if_served : Authorization → Spot → TypeId → MemberEntry → Action Tree
read_if_served right spot id m = λ s. guard (serves s id m spot.rights && may_give s m.access spot.rights right) (read_member right spot m) s

-- a member of a composite of this type
abbrev pub read_in_composite : Name → Authorization → Spot → TypeId → Action Tree
read_in_composite name right spot id = λ s. with_some (member_of s name id) (λ m. guard (serves s id m spot.rights && may_give s m.access spot.rights right) (read_member right spot m)) s
