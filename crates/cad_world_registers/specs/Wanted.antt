-- Which accounts of a World are wanted.
use Rattle.std.specs.Prelude.{ℕ, suc, ◌==◌, Bool, List, Option, None, if◌then◌else◌}
use Rattle.std.specs.List.{list_any}
use Rattle.cad_world.specs.Labels.{account_at}
use Rattle.cad_world.specs.State.{Account}

-- whether the account of an index is wanted
abbrev pub is_wanted : List ℕ → ℕ → Bool
is_wanted wanted i = list_any (λ j. j == i) wanted

-- the account of an index, where it is wanted and there
abbrev pub wanted_account : List ℕ → List Account → ℕ → Option Account
wanted_account wanted all i = if is_wanted wanted i then account_at all (suc i) else None
