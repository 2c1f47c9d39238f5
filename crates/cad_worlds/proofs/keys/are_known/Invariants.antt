use Rattle.std.proofs.Common.{◌≡◌, ◌<◌, ◌≤◌, ℕ, true}
use Rattle.cad_worlds.specs.Code.KnownRegisters.{has_index}
use Rattle.cad_worlds.proofs.keys.are_known.Given as goal

abbrev pub invariant-loop-index : goal.invariant-loop-index
invariant-loop-index l = (j : ℕ) → l.from ≤ j → j < l.index → has_index l.known j ≡ true
