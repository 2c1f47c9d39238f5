use Rattle.std.proofs.Common.{◌&&◌, refl}
use Rattle.cad_declarations.specs.Tables.{MemberEntry}
use Rattle.cad_declarations.specs.Views as views
use Rattle.cad_evaluation.specs.Access.{member_of, serves}
use Rattle.cad_evaluation.specs.Reading.{may_give, read_member}
use Rattle.cad_selections.proofs.Passing.{here_leaves, some_leaves}
use Rattle.cad_selections.specs.Code.Fields.{read_if_served}
use Rattle.cad_selections.specs.Code.Readings.{reading_of}
use Rattle.cad_receivers.specs.Views.{spot_of}
use Rattle.cad_state.specs.Views.{state_over}
use Rattle.cad_world.specs.State.{guard}
use Rattle.cad_selections.proofs.fields.read_in.Goals as goal

pub returns-in-Some : goal.returns-in-Some
returns-in-Some c = λ w.
    let s = state_over w c.args.state.now in
    let spot = spot_of c.args.spot in
    let id = c.args.id.now in
    let right = c.args.right.now in
    let one = views.member_of c.in-Some.member.now in
    some_leaves reading_of (member_of s c.args.name.now id) one (λ (m : MemberEntry). guard (serves s id m spot.rights && may_give s m.access spot.rights right) (read_member right spot m))
    s c.read_served.result c.in-Some.ensures
    (here_leaves reading_of (guard (serves s id one spot.rights && may_give s one.access spot.rights right) (read_member right spot one)) (read_if_served right spot id one) s c.read_served.result refl
    (c.read_served.ensures w))
