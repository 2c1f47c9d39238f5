use Rattle.std.proofs.Common.{◌≡◌, ◌++◌, drop}
use Rattle.cad_loading.specs.Slots.{no_programs}
use Rattle.cad_loading.specs.Views.{slots_of}
use Rattle.cad_loading.proofs.progress.push_slots.Given as goal

abbrev pub invariant-loop-source : goal.invariant-loop-source
invariant-loop-source l = slots_of l.slots ++ no_programs (drop l._source-index l.sources) ≡ slots_of l.fn.slots ++ no_programs l.sources
