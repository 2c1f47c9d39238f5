use Rattle.std.proofs.Common.{subst, sym}
use Rattle.cad_evaluation.specs.Standing.{receiver_from}
use Rattle.cad_receivers.specs.Views.{receiver_of}
use Rattle.cad_rows.specs.Views.{pure_tree}
use Rattle.cad_state.proofs.Finding.{find_given}
use Rattle.cad_evaluation.specs.Standing as place
use Rattle.cad_state.specs.Views.{FindsAndCarriesOut}
use Rattle.cad_standing.specs.Views.{standing_of}
use Rattle.cad_standing.specs.declared.standing.Standing.{Standing}
use Rattle.cad_standing.proofs.receivers.receiver.Goals as goal

pub returns-in-Here : goal.returns-in-Here
returns-in-Here c =
    subst (λ (p : Standing). FindsAndCarriesOut receiver_of (receiver_from (standing_of p)) c.args.state.now c.receive-found.new.state c.receive-found.result) (sym c.in-Here.is) c.receive-found.ensures

pub returns-in-LedBy : goal.returns-in-LedBy
returns-in-LedBy c =
    subst (λ (p : Standing). FindsAndCarriesOut receiver_of (receiver_from (standing_of p)) c.args.state.now c.args.state.now c.receiver_led.result) (sym c.in-LedBy.is)
    (find_given receiver_of (receiver_from (place.led_by (pure_tree c.in-LedBy.reference))) c.args.state.now c.receiver_led.result c.receiver_led.ensures)
