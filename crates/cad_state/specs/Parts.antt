-- Accounts of which some are known: the others are as they are.
use Rattle.std.specs.Prelude.{ℕ, zero, suc, ◌==◌, if◌then◌else◌, List, [], ◌∷◌, Option, Some, None}
use Rattle.cad_world.specs.Begin.{new_account}
use Rattle.cad_world.specs.State as s
use Rattle.cad_state.specs.Accounts.{account_of}
use Rattle.cad_state.specs.declared.state.Known.{Known}

-- the account at a place, where it is known
abbrev pub known_in : List Known → ℕ → Option s.Account
known_in [] i = None
known_in (k ∷ ks) i = if k.index == i then Some (account_of k.account) else known_in ks i

-- the account at a place among these; one in which nothing is where there is none
abbrev pub among : List s.Account → ℕ → s.Account
among [] i = new_account
among (a ∷ all) zero = a
among (a ∷ all) (suc i) = among all i

abbrev pub known_or : s.Account → Option s.Account → s.Account
known_or a None = a
known_or a (Some k) = k

-- so many accounts, from a place on: each as it is known, or as it is among these
abbrev pub accounts_from : List s.Account → List Known → ℕ → ℕ → List s.Account
accounts_from base known i zero = []
accounts_from base known i (suc n) = known_or (among base i) (known_in known i) ∷ accounts_from base known (suc i) n

-- as many accounts
abbrev pub with_known : List s.Account → ℕ → List Known → List s.Account
with_known base count known = accounts_from base known 0 count
