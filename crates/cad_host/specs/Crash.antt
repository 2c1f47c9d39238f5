-- Moments of a trace, and the image of one in which each byte that may be anything is the same.
use Rattle.std.specs.Prelude.{◌≡◌, ℕ, ◌-◌, ◌<◌, ◌≤◌, List, length, drop, slice_index}
use Rattle.cad_host.specs.declared.host.Tape.{Tape}
use Rattle.cad_host.specs.Disk.{Event, TapeState, state, reads, Outside}

-- the trace as it was after so many events
abbrev pub at_moment : List Event → ℕ → List Event
at_moment m moment = drop (length m - moment) m

-- as long as what reads; a byte that may be anything is this one
pub record IsFilledImage (fill : ℕ) (s : TapeState) (c : List ℕ) : Type 0 where
  pub long : length c ≡ length s.reads
  pub stays : (i : ℕ) → i < s.settled → Outside s.loose i → slice_index c i ≡ slice_index s.reads i
  pub loose : (i : ℕ) → i < length s.reads → ¬ ((i < s.settled) × Outside s.loose i) → slice_index c i ≡ fill

-- no tape is shorter than at its last sync
abbrev pub IsSettled : List Event → Type 0
IsSettled m = (t : Tape) → (state t m).settled ≤ length (reads m t)
