use Rattle.std.proofs.Common.{◌≡◌, ◌++◌, drop}
use Rattle.cad_pure.proofs.initialisation.copies_of.Given as goal

abbrev pub invariant-loop-rule : goal.invariant-loop-rule
invariant-loop-rule l = l.all.items ++ drop l.rule-index l.rules ≡ l.rules
