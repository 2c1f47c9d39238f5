-- The identities in a World, and what a command makes and destroys of them.
use Rattle.std.specs.Prelude.{◌≡◌, ℕ, ◌-◌, ◌≤◌, List, ◌++◌, IsPermutation}
use Rattle.std.specs.List.{flat_map, range_with_len}
use Rattle.cad_values.specs.Keys.{Distinct}
use Rattle.cad_world.specs.Rows.{identities}
use Rattle.cad_world.specs.State.{World}

-- the identities in all stored values, and in the values of all contracts
abbrev pub live : World → List ℕ
live w = flat_map (λ a. identities a.stored) w.accounts ++ flat_map (λ c. identities c.value) w.contracts

-- the numbers from the one up to the other, without that one
abbrev pub from_up_to : ℕ → ℕ → List ℕ
from_up_to n m = range_with_len n (m - n)

-- What was made has the identities that were next, in order; what lived or was made lives or was destroyed, and nothing twice.
pub record Balance (old : World) (made destroyed : List ℕ) (new : World) : Type 0 where
  pub next_rises : old.next_identity ≤ new.next_identity
  pub are_next : made ≡ from_up_to old.next_identity new.next_identity
  pub stay_or_end : IsPermutation (live old ++ made) (live new ++ destroyed)
  pub differ : Distinct (live old ++ made)
