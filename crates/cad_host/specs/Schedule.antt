-- Calls that are to fail.
use Rattle.std.specs.Prelude.{◌≡◌, ℕ, ◌+◌, ◌-◌, ◌^◌, min, Bool, List, ◌==◌}
use Rattle.std.specs.List.{list_any}
use Rattle.cad_host.specs.declared.schedule.Schedule.{Schedule}

-- the next call, of which there were so many before, is one of those that fail
abbrev pub fails_next : List ℕ → ℕ → Bool
fails_next failing calls = list_any (λ number. number == calls) failing

-- a call was counted; a count at its end stays
pub record Counted (old new : Schedule) : Type 0 where
  pub failing : new.failing.items ≡ old.failing.items
  pub calls : new.calls ≡ min (old.calls + 1) (2 ^ 64 - 1)

-- no call was
pub record Kept (old new : Schedule) : Type 0 where
  pub failing : new.failing.items ≡ old.failing.items
  pub calls : new.calls ≡ old.calls
