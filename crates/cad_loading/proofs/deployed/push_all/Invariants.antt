use Rattle.std.proofs.Common.{◌≡◌, ◌++◌, map, drop}
use Rattle.cad_contracts.specs.Views.{entry_of}
use Rattle.cad_loads.specs.Loads.{entries_of}
use Rattle.cad_loading.specs.Views.{held_of}
use Rattle.cad_loading.proofs.deployed.push_all.Given as goal

abbrev pub invariant-loop-it : goal.invariant-loop-it
invariant-loop-it l = map entry_of l.all.items ++ entries_of (map held_of (drop l.it-index l.held)) ≡ map entry_of l.fn.all.items ++ entries_of (map held_of l.held)
