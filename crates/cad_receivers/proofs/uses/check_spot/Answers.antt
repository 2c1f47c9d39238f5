use Rattle.std.proofs.Common.{◌&&◌, refl}
use Rattle.cad_declarations.specs.Tables.{MemberEntry}
use Rattle.cad_syntax.specs.declared.type_id.TypeId.{TypeId}
use Rattle.cad_evaluation.specs.Access.{member_of, serves}
use Rattle.cad_evaluation.specs.Reading.{composite_id}
use Rattle.cad_evaluation.specs.Uses.{callable, is_function}
use Rattle.cad_outcomes.proofs.Steps.{does_same}
use Rattle.cad_outcomes.specs.Outcomes.{no_value}
use Rattle.cad_receivers.proofs.Passing.{some_does}
use Rattle.cad_receivers.specs.Code.Calls.{callable_in_composite}
use Rattle.cad_receivers.specs.Views.{spot_of}
use Rattle.cad_state.specs.Views.{state_over}
use Rattle.cad_world.specs.State.{done, guard, with_some}
use Rattle.cad_receivers.proofs.uses.check_spot.Goals as goal

pub returns-in-Some : goal.returns-in-Some
returns-in-Some c = λ w.
    let s = state_over w c.args.state.now in
    let spot = spot_of c.args.spot in
    let name = c.args.name.now in
    let here = λ (id : TypeId). with_some {B = Unit {0}} (member_of s name id) (λ (m : MemberEntry). guard (is_function m.form && serves s id m spot.rights) done) in
    does_same no_value (callable name spot) (with_some (composite_id spot.tree) here) s s c.check_composite.result refl
    (some_does no_value (composite_id spot.tree) c.in-Some.id.now here s s c.check_composite.result c.in-Some.ensures
    (does_same no_value (here c.in-Some.id.now) (callable_in_composite spot.rights name c.in-Some.id.now) s s c.check_composite.result refl (c.check_composite.ensures w)))
