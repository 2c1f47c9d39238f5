use Rattle.std.proofs.Common.{◌≡◌, ◌++◌, map, drop}
use Rattle.cad_loads.specs.Loads.{loaded_by}
use Rattle.cad_loading.specs.Views.{held_of, shared_program}
use Rattle.cad_loads.specs.Views.{source_of}
use Rattle.cad_loading.proofs.held.push_all_held.Given as goal

abbrev pub invariant-loop-source : goal.invariant-loop-source
invariant-loop-source l =
    map held_of l.all.items ++ loaded_by (map source_of (drop l.source-index l.sources)) (map shared_program l.left)
    ≡ map held_of l.fn.all.items ++ loaded_by (map source_of l.sources) (map shared_program l.programs)
