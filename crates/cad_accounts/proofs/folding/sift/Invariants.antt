use Rattle.std.proofs.Common.{◌≡◌}
use Rattle.cad_accounts.specs.Registers.{Map, applied, folded}
use Rattle.cad_accounts.proofs.folding.sift.Given as goal

abbrev pub invariant-loop-record : goal.invariant-loop-record
invariant-loop-record l = (m : Map) → applied l.sifted m ≡ folded l.yielded m
