use Rattle.std.proofs.Common.{sym, ◌∙◌}
use Rattle.cad_receivers.specs.Views.{receiver_of}
use Rattle.cad_standing.specs.Views.{standing_of}
use Rattle.cad_standing.proofs.ReceiverLaws.{chained, unchained}
use Rattle.cad_standing.proofs.receivers.chain_receiver.Goals as goal

pub returns-in-Ok : goal.returns-in-Ok
returns-in-Ok c = chained receiver_of (standing_of c.args.place) c.in-Ok.found c.args.state.now c.receiver.new.state (sym c.is_nowhere.ensures ∙ c.if-is_nowhere.false) c.in-Ok.ensures

pub returns-in-Err : goal.returns-in-Err
returns-in-Err c = unchained receiver_of (standing_of c.args.place) c.args.state.now c.receiver.new.state c.in-Err.stop (sym c.is_nowhere.ensures ∙ c.if-is_nowhere.false) c.in-Err.ensures
