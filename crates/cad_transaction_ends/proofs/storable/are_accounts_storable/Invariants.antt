use Rattle.std.proofs.Common.{◌≡◌, ◌<◌, ℕ, true}
use Rattle.cad_state.specs.Ways.{account_in, index_in}
use Rattle.cad_world.specs.Storable.{is_storable}
use Rattle.cad_transaction_ends.specs.Code.AccountTests.{passes}
use Rattle.cad_transaction_ends.proofs.storable.are_accounts_storable.Given as goal

abbrev pub invariant-loop-n : goal.invariant-loop-n
invariant-loop-n l = (k : ℕ) → k < l.n → passes is_storable (account_in l.state.accounts (index_in l.state.accounts k)) ≡ true
