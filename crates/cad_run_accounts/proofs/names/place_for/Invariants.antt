use Rattle.std.proofs.Common.{◌≡◌, ◌+◌, drop}
use Rattle.cad_evaluation.specs.Storage as storage
use Rattle.cad_run_accounts.proofs.names.place_for.Given as goal

abbrev pub invariant-loop-i : goal.invariant-loop-i
invariant-loop-i l = l.i + storage.place_for l.name (drop l.i l.names) ≡ storage.place_for l.name l.names
