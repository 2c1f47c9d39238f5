use Rattle.std.proofs.Common.{◌≡◌}
use Rattle.cad_accounts.specs.Registers.{Map, applied}
use Rattle.cad_accounts.proofs.folding.take_all.Given as goal

abbrev pub invariant-loop-entry : goal.invariant-loop-entry
invariant-loop-entry l = (m : Map) → applied l.sifted m ≡ applied l.yielded (applied l.fn.sifted m)
