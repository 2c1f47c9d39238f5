use Rattle.std.proofs.Common.{◌≡◌, ◌+◌, drop}
use Rattle.cad_store.specs.Code.Sizes.{added}
use Rattle.cad_store.proofs.sizes.size_added.Given as goal

abbrev pub invariant-loop-change : goal.invariant-loop-change
invariant-loop-change l = l.sum + added (drop l.change-index l.changes) ≡ added l.changes
