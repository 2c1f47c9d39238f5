use Rattle.std.proofs.Common.{◌≡◌, ◌++◌, map, drop}
use Rattle.cad_evaluation.specs.Adding.{standing}
use Rattle.cad_loads.specs.Fronts.{sources_of}
use Rattle.cad_loads.specs.Views.{source_of}
use Rattle.cad_state.specs.Views.{contract_of}
use Rattle.cad_fronts.proofs.learning.standing_sources.Given as goal

abbrev pub invariant-loop-contract : goal.invariant-loop-contract
invariant-loop-contract l =
    map source_of l.all.items ++ sources_of (standing (map contract_of (drop l.contract-index l.contracts))) ≡ sources_of (standing (map contract_of l.contracts))
