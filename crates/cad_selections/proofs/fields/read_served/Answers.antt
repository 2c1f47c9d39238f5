use Rattle.std.proofs.Common.{sym, ◌∙◌}
use Rattle.cad_declarations.specs.Views.{member_of}
use Rattle.cad_evaluation.specs.Access.{serves}
use Rattle.cad_evaluation.specs.Reading.{may_give, read_member}
use Rattle.cad_selections.proofs.Passing.{guard_leaves}
use Rattle.cad_selections.specs.Code.Readings.{reading_of}
use Rattle.cad_receivers.specs.Views.{spot_of}
use Rattle.cad_state.specs.Views.{state_over}
use Rattle.cad_selections.proofs.fields.read_served.Goals as goal

pub returns-then-may_give : goal.returns-then-may_give
returns-then-may_give c = λ w.
    let s = state_over w c.args.state.now in
    let spot = spot_of c.args.spot in
    let m = member_of c.args.member.now in
    guard_leaves reading_of (serves s c.args.id.now m spot.rights) (may_give s m.access spot.rights c.args.right.now) (read_member c.args.right.now spot m) s c.read_member.result
    (sym c.serves.ensures ∙ c.if-serves.true) (sym c.may_give.ensures ∙ c.if-may_give.true) (c.read_member.ensures s)
