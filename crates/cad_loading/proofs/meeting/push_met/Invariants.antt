use Rattle.std.proofs.Common.{◌≡◌, ◌++◌, map, drop}
use Rattle.cad_loading.specs.Again.{all_met, slots_by}
use Rattle.cad_loading.specs.Views.{held_of, slots_of}
use Rattle.cad_loads.specs.Views.{source_of}
use Rattle.cad_loading.proofs.meeting.push_met.Given as goal

abbrev pub invariant-loop-source : goal.invariant-loop-source
invariant-loop-source l =
    (slots_of l.slots ++ slots_by (map source_of (drop l.source-index l.sources)) (map held_of l.left) ≡ slots_of l.fn.slots ++ slots_by (map source_of l.sources) (map held_of l.kept))
    × (all_met (map source_of (drop l.source-index l.sources)) (map held_of l.left) ≡ all_met (map source_of l.sources) (map held_of l.kept))
