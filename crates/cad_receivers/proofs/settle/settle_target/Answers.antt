use Rattle.cad_receivers.proofs.Passing.{after_ready}
use Rattle.cad_receivers.specs.Settled.{settled_target}
use Rattle.cad_receivers.specs.Views.{settled_of}
use Rattle.cad_syntax.specs.Types.{pure_type}
use Rattle.cad_receivers.proofs.settle.settle_target.Goals as goal

pub returns-in-Ok : goal.returns-in-Ok
returns-in-Ok c =
    after_ready settled_of (settled_target c.args.reference.now.authorization (pure_type c.args.reference.now.target) c.args.reference.now.to) c.args.state.now c.know_target.new.state c.settle_known.new.state c.settle_known.result
    (λ w ready. c.know_target.ensures w) c.settle_known.ensures
