-- What is tested of what was known of a World before a run and is known after it.
use Rattle.std.specs.Prelude.{◌≡◌, ◌≤◌, ℕ, Bool, true, ◌||◌, nat_le, List}
use Rattle.std.specs.List.{list_all}
use Rattle.cad_state.specs.Views.{account_of}
use Rattle.cad_state.specs.declared.state.Known.{Known}
use Rattle.cad_world.specs.State.{Account}
use Rattle.cad_world_checks.specs.Identities.{AreOwn, has_number}
use Rattle.cad_world_checks.specs.declared.part_summary.PartSummary.{PartSummary}

abbrev pub account_in : Known → Account
account_in k = account_of k.account

-- each number is among these or at least the next one
abbrev pub are_among_or_new : List ℕ → ℕ → List ℕ → Bool
are_among_or_new known next numbers = list_all (λ n. has_number known n || nat_le next n) numbers

-- What is known after a run is of the accounts that were known before it and perhaps others; its identities were there or are new.
pub record Follows (before after : PartSummary) : Type 0 where
  pub indexes_before : AreOwn before.count before.indexes
  pub indexes_after : AreOwn after.count after.indexes
  pub still_known : are_among_or_new after.indexes before.count before.indexes ≡ true
  pub identities : AreOwn after.next_identity after.identities
  pub among_or_new : are_among_or_new before.identities before.next_identity after.identities ≡ true
  pub next_rises : before.next_identity ≤ after.next_identity
