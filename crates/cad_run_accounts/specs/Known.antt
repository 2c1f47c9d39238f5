-- Accounts that a run has.
use Rattle.std.specs.Prelude.{◌≡◌, ◌<◌, ℕ, suc, true, List, length}
use Rattle.cad_state.specs.Views.{state_over}
use Rattle.cad_state.specs.Ways.{is_there, account_in}
use Rattle.cad_state.specs.declared.state.RunState.{RunState}
use Rattle.cad_world.specs.State.{Account}

-- the account of an address is one that the run has, if there is one
abbrev pub IsKnown : ℕ → RunState → Type 0
IsKnown address x = (accounts : List Account) (i : ℕ) → address ≡ suc i → i < length (state_over accounts x).accounts → is_there (account_in x.accounts i) ≡ true
