use Rattle.std.proofs.Common.{◌≡◌, ◌<◌, ℕ, None}
use Rattle.cad_state.specs.Ways.{found_in, index_in, row_at}
use Rattle.cad_state.specs.declared.hints.Root.TheVariants as root
use Rattle.cad_state.proofs.state.RunState.way_in_accounts.Given as goal

abbrev pub invariant-loop-n : goal.invariant-loop-n
invariant-loop-n l = (k : ℕ) → k < l.n → found_in l.label (row_at (root.Stored (index_in l.self.accounts k)) l.self) ≡ None
