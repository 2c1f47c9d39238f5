use Rattle.std.proofs.Common.{◌&&◌, refl}
use Rattle.cad_declarations.specs.Tables.{MemberEntry}
use Rattle.cad_syntax.specs.declared.type_id.TypeId.{TypeId}
use Rattle.cad_evaluation.specs.Access.{member_of, serves}
use Rattle.cad_evaluation.specs.Reading.{composite_id, may_give, read_field, read_member}
use Rattle.cad_selections.proofs.Passing.{here_leaves, some_leaves}
use Rattle.cad_selections.specs.Code.Fields.{read_in_composite}
use Rattle.cad_selections.specs.Code.Readings.{reading_of}
use Rattle.cad_receivers.specs.Views.{spot_of}
use Rattle.cad_state.specs.Views.{state_over}
use Rattle.cad_world.specs.Rows.{Tree}
use Rattle.cad_world.specs.State.{guard, with_some}
use Rattle.cad_selections.proofs.fields.read_field.Goals as goal

pub returns-in-Some : goal.returns-in-Some
returns-in-Some c = λ w.
    let s = state_over w c.args.state.now in
    let spot = spot_of c.args.spot in
    let name = c.args.name.now in
    let right = c.args.right.now in
    let here = λ (id : TypeId). with_some {B = Tree} (member_of s name id) (λ (m : MemberEntry). guard (serves s id m spot.rights && may_give s m.access spot.rights right) (read_member right spot m)) in
    here_leaves reading_of (read_field name right spot) (with_some (composite_id spot.tree) here) s c.read_in.result refl
    (some_leaves reading_of (composite_id spot.tree) c.in-Some.id.now here s c.read_in.result c.in-Some.ensures
    (here_leaves reading_of (here c.in-Some.id.now) (read_in_composite name right spot c.in-Some.id.now) s c.read_in.result refl (c.read_in.ensures w)))
