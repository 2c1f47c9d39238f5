use Rattle.std.proofs.Common.{◌≡◌, map, drop}
use Rattle.std.specs.Cmp.Lexicographic.{pointwise}
use Rattle.cad_evaluation.specs.Adding.{standing}
use Rattle.cad_loading.specs.Again.{same_source}
use Rattle.cad_loads.specs.Fronts.{sources_of}
use Rattle.cad_loads.specs.Views.{source_of}
use Rattle.cad_state.specs.Views.{contract_of}
use Rattle.cad_fronts.proofs.asking.are_sources.Given as goal

abbrev pub invariant-loop-contract : goal.invariant-loop-contract
invariant-loop-contract l =
    pointwise same_source (map source_of l.left) (sources_of (standing (map contract_of (drop l.contract-index l.contracts))))
    ≡ pointwise same_source (map source_of l.sources) (sources_of (standing (map contract_of l.contracts)))
