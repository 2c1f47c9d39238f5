-- What is done with what leads to no controller.
use Rattle.std.proofs.Common.{◌≡◌, ap}
use Rattle.std.specs.Prelude.{Option, None}
use Rattle.cad_evaluation.specs.Capabilities as capabilities
use Rattle.cad_evaluation.specs.Texts.{in_tree}
use Rattle.cad_services.specs.Code.Services.{controller_member}
use Rattle.cad_services.specs.declared.groups.ControllerMember.{ControllerMember}
use Rattle.cad_services.specs.declared.groups.ControllerMember.TheVariants as k
use Rattle.cad_world.specs.Receivers.{Spot}
use Rattle.cad_world.specs.Rows.{Row, Tree}
use Rattle.cad_world.specs.State.{State, Controller, Action, ill, or_fail, with_some}
use Rattle.cad_world.specs.OwnTypes.{controller_at}

none_ill : (o : Option capabilities.ControllerId) (f : capabilities.ControllerId → Controller → Action Tree) (s : State) → o ≡ None
    → with_some o (λ i s. or_fail 113 (controller_at s i.address.0 i.number) (f i) s) s ≡ ill
none_ill o f s e = ap (λ (p : Option capabilities.ControllerId). with_some p (λ i s. or_fail 113 (controller_at s i.address.0 i.number) (f i) s) s) e

pub no_controller : (member : ControllerMember) (r : Row) (spot : Spot) (s : State) → in_tree capabilities.controller_in_value spot.tree ≡ None → controller_member member r spot s ≡ ill
no_controller k.Number r spot s e = none_ill (in_tree capabilities.controller_in_value spot.tree) _ s e
no_controller k.BorrowType r spot s e = none_ill (in_tree capabilities.controller_in_value spot.tree) _ s e
no_controller k.Tag r spot s e = none_ill (in_tree capabilities.controller_in_value spot.tree) _ s e
no_controller k.SetTag r spot s e = none_ill (in_tree capabilities.controller_in_value spot.tree) _ s e
no_controller k.Target r spot s e = none_ill (in_tree capabilities.controller_in_value spot.tree) _ s e
no_controller k.Retarget r spot s e = none_ill (in_tree capabilities.controller_in_value spot.tree) _ s e
no_controller k.Delete r spot s e = none_ill (in_tree capabilities.controller_in_value spot.tree) _ s e
