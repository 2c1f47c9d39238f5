-- What a host did, as a list of events, the newest first; and what a crash may leave of its tapes.
use Rattle.std.specs.Prelude.{◌≡◌, ◌⊎◌, ℕ, ◌+◌, ◌<◌, ◌≤◌, Bool, true, false, List, [], ◌∷◌, ◌++◌, length, take, drop, slice_index, Result, Ok, Err, if◌then◌else◌}
use Rattle.cad_host.specs.declared.host.Tape.{Tape}
use Rattle.cad_host.specs.declared.host.Tape.TheVariants.{A, B, Pick}

-- A call that changed something or may have, a take, or a call that failed. A write or a sync that failed wrote any bytes in
-- a range, and the tape then reads so; a put that failed put some bytes; a take or a look at a tape that failed did nothing.
pub data Event : Type 0 where
  wrote : Tape → ℕ → List ℕ → Event
  synced : Tape → Event
  broke : Tape → ℕ → ℕ → List ℕ → Event
  filled : Tape → List ℕ → Event
  put : List ℕ → Event
  put_part : List ℕ → Event
  took : List ℕ → Event
  take_failed : Event
  look_failed : Tape → Event

abbrev pub same_tape : Tape → Tape → Bool
same_tape A A = true
same_tape A _ = false
same_tape B B = true
same_tape B _ = false
same_tape Pick Pick = true
same_tape Pick _ = false

-- what a tape reads, its length at its last sync, and the ranges written since
pub record TapeState : Type 0 where
  pub reads : List ℕ
  pub settled : ℕ
  pub loose : List (ℕ × ℕ)

-- the bytes put there
abbrev pub overwritten : List ℕ → ℕ → List ℕ → List ℕ
overwritten old at bytes = take at old ++ bytes ++ drop (at + length bytes) old

abbrev pub after : Tape → Event → TapeState → TapeState
after t (wrote u at bytes) s = if same_tape u t then record { reads = overwritten s.reads at bytes; settled = s.settled; loose = (at, length bytes) ∷ s.loose } else s
after t (synced u) s = if same_tape u t then record { reads = s.reads; settled = length s.reads; loose = [] } else s
after t (broke u at n now) s = if same_tape u t then record { reads = now; settled = s.settled; loose = (at, n) ∷ s.loose } else s
after t (filled u bytes) s = if same_tape u t then record { reads = bytes; settled = length bytes; loose = [] } else s
after t _ s = s

abbrev pub state : Tape → List Event → TapeState
state t [] = record { reads = []; settled = 0; loose = [] }
state t (e ∷ es) = after t e (state t es)

abbrev pub reads : List Event → Tape → List ℕ
reads m t = (state t m).reads

-- outside each of these ranges
abbrev pub Outside : List (ℕ × ℕ) → ℕ → Type 0
Outside [] i = Unit {0}
Outside (r ∷ rs) i = ((i < r.0) ⊎ (r.0 + r.1 ≤ i)) × Outside rs i

-- what a crash may leave of a tape
pub record IsImage (s : TapeState) (c : List ℕ) : Type 0 where
  pub no_shorter : s.settled ≤ length c
  pub no_longer : length c ≤ length s.reads
  pub same : (i : ℕ) → i < s.settled → Outside s.loose i → slice_index c i ≡ slice_index s.reads i

-- of all three
abbrev pub IsDisk : List Event → (Tape → List ℕ) → Type 0
IsDisk m disk = (t : Tape) → IsImage (state t m) (disk t)

-- nothing is pending: each image is what a read gives
pub record IsClean (s : TapeState) : Type 0 where
  pub settled : s.settled ≡ length s.reads
  pub loose : s.loose ≡ []

-- the output
abbrev pub output : List Event → List ℕ
output [] = []
output (put bytes ∷ es) = output es ++ bytes
output (put_part bytes ∷ es) = output es ++ bytes
output (_ ∷ es) = output es

-- the input that was taken
abbrev pub taken : List Event → List ℕ
taken [] = []
taken (took bytes ∷ es) = taken es ++ bytes
taken (_ ∷ es) = taken es

-- P holds at each moment from old on, the first and the last included
abbrev pub Each : (List Event → Type 0) → List Event → List Event → Type 0
Each P [] old = P old
Each P (e ∷ es) old = P (e ∷ (es ++ old)) × Each P es old

pub record Ran (old new : List Event) (P : List Event → Type 0) : Type 0 where
  pub since : List Event
  pub is : new ≡ since ++ old
  pub each : Each P since old

-- what a call that failed adds: nothing, where no memory was found for it; or the tape reads as some image of the call
abbrev pub BreaksWrite : Tape → ℕ → List ℕ → List Event → List Event → Type 0
BreaksWrite t at bytes old new = (new ≡ old) ⊎ ((now : List ℕ) × IsImage (state t (wrote t at bytes ∷ old)) now × (new ≡ broke t at (length bytes) now ∷ old))

abbrev pub BreaksSync : Tape → List Event → List Event → Type 0
BreaksSync t old new = (new ≡ old) ⊎ ((now : List ℕ) × IsImage (state t old) now × (new ≡ broke t 0 0 now ∷ old))

-- or a prefix of the bytes
abbrev pub BreaksPut : List ℕ → List Event → List Event → Type 0
BreaksPut bytes old new = (new ≡ old) ⊎ ((n : ℕ) × (n ≤ length bytes) × (new ≡ put_part (take n bytes) ∷ old))

-- or that it failed, and no more
abbrev pub FailsTake : List Event → List Event → Type 0
FailsTake old new = (new ≡ old) ⊎ (new ≡ take_failed ∷ old)

abbrev pub FailsLook : Tape → List Event → List Event → Type 0
FailsLook t old new = (new ≡ old) ⊎ (new ≡ look_failed t ∷ old)

-- what the calls add
abbrev pub Writes : {T E : Type 0} → Tape → ℕ → List ℕ → Result T E → List Event → List Event → Type 0
Writes t at bytes (Ok _) old new = new ≡ wrote t at bytes ∷ old
Writes t at bytes (Err _) old new = BreaksWrite t at bytes old new

abbrev pub Syncs : {T E : Type 0} → Tape → Result T E → List Event → List Event → Type 0
Syncs t (Ok _) old new = new ≡ synced t ∷ old
Syncs t (Err _) old new = BreaksSync t old new

abbrev pub Puts : {T E : Type 0} → List ℕ → Result T E → List Event → List Event → Type 0
Puts bytes (Ok _) old new = new ≡ put bytes ∷ old
Puts bytes (Err _) old new = BreaksPut bytes old new

abbrev pub Takes : {E : Type 0} → Result ℕ E → List ℕ → List Event → List Event → Type 0
Takes (Ok n) into old new = new ≡ took (take n into) ∷ old
Takes (Err _) into old new = FailsTake old new

-- a look that didn't fail adds nothing
abbrev pub Looks : {T E : Type 0} → Tape → Result T E → List Event → List Event → Type 0
Looks t (Ok _) old new = new ≡ old
Looks t (Err _) old new = FailsLook t old new
