use Rattle.cad_capabilities.specs.Views.{capability_of, lent_of}
use Rattle.cad_evaluation.specs.Capabilities.{lent_by}
use Rattle.cad_storage.proofs.Steps.{stays_then}
use Rattle.cad_capabilities.proofs.lending.lend_if.Goals as goal

pub returns-in-Ok : goal.returns-in-Ok
returns-in-Ok c =
    stays_then lent_of (lent_by (capability_of c.args.cap.now)) c.args.state.now c.know.new.state c.lend_known.new.state c.lend_known.result (λ w ready. c.know.ensures.same w) c.lend_known.ensures
