use Rattle.std.proofs.Common.{rules}
use Rattle.cad_host.proofs.Replayed.{replay_step}
use Rattle.cad_host.proofs.replay.image_of.Goals as goal

pub loop-call-preserved : goal.loop-call-preserved
loop-call-preserved c = replay_step c.args.fill c.args.tape c.args.calls.now c.loop-call.call-index c.call-item.result _ _ (search rules) c.call-item.is (c.in_ok-replay_call.ensures _ c.loop-call.invariant)
