use Rattle.std.proofs.Common.{◌≡◌, ◌++◌, drop}
use Rattle.cad_contracts.proofs.copies.copied_pairs.Given as goal

abbrev pub invariant-loop-pair : goal.invariant-loop-pair
invariant-loop-pair l =
    l.copies ++ drop l.pair-index l.pairs ≡ l.pairs
