use Rattle.std.proofs.Common.{◌≡◌, map, drop}
use Rattle.cad_loading.specs.Slots.{some_gap}
use Rattle.cad_loading.specs.Views.{slot_of}
use Rattle.cad_loading.proofs.progress.is_any_empty.Given as goal

abbrev pub invariant-loop-slot : goal.invariant-loop-slot
invariant-loop-slot l = some_gap (map slot_of (drop l.slot-index l.slots)) ≡ some_gap (map slot_of l.slots)
