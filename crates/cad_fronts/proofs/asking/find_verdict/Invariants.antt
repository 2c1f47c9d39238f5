use Rattle.std.proofs.Common.{◌≡◌, map, drop}
use Rattle.cad_evaluation.specs.Adding.{standing}
use Rattle.cad_fronts.specs.Views.{find_known, known_of}
use Rattle.cad_loads.specs.Fronts.{sources_of}
use Rattle.cad_state.specs.Views.{contract_of}
use Rattle.cad_fronts.proofs.asking.find_verdict.Given as goal

abbrev pub invariant-loop-verdict : goal.invariant-loop-verdict
invariant-loop-verdict l =
    find_known (map known_of (drop l.verdict-index l.all)) (sources_of (standing (map contract_of l.contracts))) l.address l.code
    ≡ find_known (map known_of l.all) (sources_of (standing (map contract_of l.contracts))) l.address l.code
