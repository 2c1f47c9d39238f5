use Rattle.std.proofs.Common.{map}
use Rattle.cad_loading.specs.Slots.{IsLoaded, gaps}
use Rattle.cad_loading.specs.Views.{slots_of}
use Rattle.cad_loads.specs.Views.{source_of}
use Rattle.cad_tables.specs.Views.{contracts_of}
use Rattle.cad_loading.proofs.passes.settle.Given as goal

abbrev pub invariant-loop-is_any : goal.invariant-loop-is_any
invariant-loop-is_any l = IsLoaded (map source_of l.sources) (slots_of l.state.slots) (contracts_of l.state.deployed)

abbrev pub decreases-loop-is_any : goal.decreases-loop-is_any
decreases-loop-is_any l = gaps (slots_of l.state.slots)
