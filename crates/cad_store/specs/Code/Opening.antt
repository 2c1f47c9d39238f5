-- The steps of an opening.
use Rattle.std.specs.Prelude.{◌≡◌, ◌⊎◌, ℕ, ◌==◌, List, ◌∷◌, Result, Ok, Err, if◌then◌else◌}
use Rattle.cad_host.specs.declared.host.Tape.{Tape}
use Rattle.cad_host.specs.declared.host.Tape.TheVariants.{Pick}
use Rattle.cad_host.specs.Disk.{Event, synced, FailsLook, BreaksSync}
use Rattle.cad_store.specs.declared.place.Place.{Place}
use Rattle.cad_store.specs.declared.place.Place.TheVariants.{Behind, Onto}
use Rattle.cad_store.specs.declared.stops.OpenStop.{OpenStop}
use Rattle.cad_store.specs.declared.stops.OpenStop.TheVariants.{Failed, BadStore, Memory}
use Rattle.cad_store.specs.Opening.{in_use}
use Rattle.cad_store.specs.Stores.{other}

-- where the next record goes, where the tape in use has this length and its records end there
abbrev pub place_behind : Tape → ℕ → ℕ → Place
place_behind tape length ending = if length == 0 then Onto (other tape) else Behind tape ending

-- what reading a store adds
abbrev pub ReadsStore : {T : Type 0} → Result T OpenStop → List Event → List Event → Type 0
ReadsStore (Ok _) old new = new ≡ old
ReadsStore (Err Failed) old new = FailsLook (in_use old) old new
ReadsStore (Err BadStore) old new = new ≡ old
ReadsStore (Err Memory) old new = new ≡ old

-- what the two syncs of an opening add
abbrev pub SyncsBoth : {T E : Type 0} → Tape → Result T E → List Event → List Event → Type 0
SyncsBoth t (Ok _) old new = new ≡ synced t ∷ synced Pick ∷ old
SyncsBoth t (Err _) old new = BreaksSync Pick old new ⊎ BreaksSync t (synced Pick ∷ old) new
