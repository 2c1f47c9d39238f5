use Rattle.std.proofs.Common.{◌≡◌, ◌++◌, map, drop}
use Rattle.cad_contracts.specs.Views.{entry_of}
use Rattle.cad_loads.specs.Loads.{entries_of, loaded_by}
use Rattle.cad_loading.specs.Views.{shared_program}
use Rattle.cad_loads.specs.Views.{source_of}
use Rattle.cad_loading.proofs.deployed.push_sources.Given as goal

abbrev pub invariant-loop-source : goal.invariant-loop-source
invariant-loop-source l =
    map entry_of l.all.items ++ entries_of (loaded_by (map source_of (drop l.source-index l.sources)) (map shared_program l.left))
    ≡ map entry_of l.fn.all.items ++ entries_of (loaded_by (map source_of l.sources) (map shared_program l.programs))
