use Rattle.std.proofs.Common.{◌-◌, vec_len}
use Rattle.cad_state.proofs.hints.Hints.make_room.Given as goal

abbrev pub decreases-loop-alloc : goal.decreases-loop-alloc
decreases-loop-alloc l = 4096 - vec_len l.self.ways
