use Rattle.std.proofs.Common.{◌%◌, length}
use Rattle.cad_values.specs.Values.{pure_value}
use Rattle.cad_keys.specs.Code.Found.{IsWalk}
use Rattle.cad_keys.specs.Code.Hashes.{key_hash}
use Rattle.cad_keys.proofs.keys.walk.Given as goal

abbrev pub invariant-loop-next : goal.invariant-loop-next
invariant-loop-next l = IsWalk (length l.index.heads.items) (key_hash (pure_value l.key) % length l.index.heads.items) (pure_value l.key) l.rows l.next l.found

abbrev pub decreases-loop-next : goal.decreases-loop-next
decreases-loop-next l = l.next
