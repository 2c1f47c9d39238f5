use Rattle.std.proofs.Common.{Bool, List, false, subst, sym}
use Rattle.std.specs.Prelude.{IfOk}
use Rattle.cad_access.specs.OwnTypes.{LeadsThere}
use Rattle.cad_casts.proofs.References.{reference_is}
use Rattle.cad_casts.proofs.Settles.{controller_leads, other_leads}
use Rattle.cad_state.specs.Views.{state_over}
use Rattle.cad_syntax.specs.Types.{pure_type}
use Rattle.cad_values.specs.Values.{PureValue}
use Rattle.cad_world.specs.State.{Account}
use Rattle.cad_casts.proofs.own_types.reference_leads.Goals as goal

pub returns-in-Controller : goal.returns-in-Controller
returns-in-Controller c =
    let reference = c.args.reference.now in
    subst (λ (x : PureValue). IfOk c.is_controller.result (λ (is : Bool). (w : List Account) → LeadsThere (state_over w c.args.state.now) x is)) (sym (reference_is reference))
    (controller_leads c.args.state.now reference.authorization (pure_type reference.target) reference.to c.in-Controller.address c.in-Controller.id c.is_controller.result c.in-Controller.is c.is_controller.ensures)

pub returns-in_default : goal.returns-in_default
returns-in_default c = λ w.
    let reference = c.args.reference.now in
    subst (λ (x : PureValue). LeadsThere (state_over w c.args.state.now) x false) (sym (reference_is reference))
    (other_leads (state_over w c.args.state.now) reference.authorization (pure_type reference.target) reference.to c.in_default.not-Controller)
