use Rattle.std.proofs.Common.{◌≡◌, map, drop}
use Rattle.cad_evaluation.specs.Builtins as spec
use Rattle.cad_state.specs.Views.{contract_of}
use Rattle.cad_run_accounts.proofs.home_search.home_in_contracts.Given as goal

abbrev pub invariant-loop-i : goal.invariant-loop-i
invariant-loop-i l = spec.home_in_contracts l.label (map contract_of (drop l.i l.all)) ≡ spec.home_in_contracts l.label (map contract_of l.all)
