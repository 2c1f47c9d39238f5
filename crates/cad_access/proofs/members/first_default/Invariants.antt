use Rattle.std.proofs.Common.{◌≡◌, drop}
use Rattle.cad_evaluation.specs.Access as spec
use Rattle.cad_access.specs.RunContracts.{run_of}
use Rattle.cad_access.proofs.members.first_default.Given as goal

abbrev pub invariant-loop-id : goal.invariant-loop-id
invariant-loop-id l = spec.first_default (run_of l.state) l.name (drop l.id-index l.ids) ≡ spec.first_default (run_of l.state) l.name l.ids
