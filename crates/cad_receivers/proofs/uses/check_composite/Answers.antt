use Rattle.std.proofs.Common.{◌&&◌, option_map, refl}
use Rattle.cad_declarations.specs.Tables.{MemberEntry}
use Rattle.cad_declarations.specs.Views as views
use Rattle.cad_evaluation.specs.Access.{member_of, serves}
use Rattle.cad_evaluation.specs.Uses.{is_function}
use Rattle.cad_outcomes.proofs.Steps.{does_same}
use Rattle.cad_outcomes.specs.Outcomes.{no_value}
use Rattle.cad_receivers.proofs.Passing.{some_does}
use Rattle.cad_receivers.specs.Code.Calls.{callable_if_served, callable_in_composite}
use Rattle.cad_state.specs.Views.{state_over}
use Rattle.cad_world.specs.State.{done, guard, with_some}
use Rattle.cad_receivers.proofs.uses.check_composite.Goals as goal

pub returns-in-Some : goal.returns-in-Some
returns-in-Some c = λ w.
    let s = state_over w c.args.state.now in
    let rights = option_map (λ own. own.now) c.args.rights in
    let name = c.args.name.now in
    let id = c.args.id.now in
    let here = λ (m : MemberEntry). guard (is_function m.form && serves s id m rights) done in
    let one = views.member_of c.in-Some.member.now in
    does_same no_value (callable_in_composite rights name id) (with_some (member_of s name id) here) s s c.check_member.result refl
    (some_does no_value (member_of s name id) one here s s c.check_member.result c.in-Some.ensures
    (does_same no_value (here one) (callable_if_served rights id one) s s c.check_member.result refl (c.check_member.ensures w)))
