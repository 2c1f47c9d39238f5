use Rattle.std.proofs.Common.{◌+◌, ◌*◌, length}
use Rattle.cad_rows.proofs.found.+down.Given as goal

abbrev pub decreases-node_at : goal.decreases-node_at
decreases-node_at l = 2 * length l.way.now

abbrev pub decreases-node_from : goal.decreases-node_from
decreases-node_from l = 1 + 2 * length l.rest.now
