use Rattle.std.proofs.Common.{◌≡◌, map, drop}
use Rattle.cad_loading.specs.Slots.{gathered}
use Rattle.cad_loading.specs.Views.{programs_of, slot_of}
use Rattle.cad_loading.proofs.progress.push_programs.Given as goal

abbrev pub invariant-loop-slot : goal.invariant-loop-slot
invariant-loop-slot l = gathered (programs_of l.all) (map slot_of (drop l.slot-index l.slots)) ≡ gathered (programs_of l.fn.all) (map slot_of l.slots)
