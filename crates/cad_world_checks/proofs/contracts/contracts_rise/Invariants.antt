use Rattle.std.proofs.Common.{◌≡◌, ◌-◌, drop}
use Rattle.cad_world_checks.proofs.Pairs.{named_rise}
use Rattle.cad_world_checks.proofs.contracts.contracts_rise.Given as goal

abbrev pub invariant-loop-i : goal.invariant-loop-i
invariant-loop-i l = named_rise (drop (l.i - 1) l.contracts) ≡ named_rise l.contracts
