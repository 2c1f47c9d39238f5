use Rattle.std.proofs.Common.{◌≡◌, ◌+◌, ◌++◌, map, length, drop}
use Rattle.std.specs.Vec.Iter.{into_iter_items, into_iter_len}
use Rattle.cad_state.specs.Views.{contract_of}
use Rattle.cad_world_reading.proofs.Joined.{left_from}
use Rattle.cad_world_reading.proofs.contracts.contracts_from.Given as goal

abbrev pub invariant-loop-checked : goal.invariant-loop-checked
invariant-loop-checked l = record {
  counted : length l.contracts.items + into_iter_len l.left ≡ length l.sources;
  so_far : map contract_of l.contracts.items ++ left_from (drop (length l.contracts.items) l.sources) (into_iter_items l.left) (drop (length l.contracts.items) l.values) ≡ left_from l.sources l.fn.programs.items l.values;
}

abbrev pub decreases-loop-checked : goal.decreases-loop-checked
decreases-loop-checked l = into_iter_len l.left
