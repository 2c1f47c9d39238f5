-- A run on accounts that the tapes stand for.
use Rattle.std.proofs.Common.{◌≡◌, inr, ℕ, List, [], ◌∷◌, Err, refl, sym, subst}
use Rattle.cad_host.specs.declared.host.Tape.{Tape}
use Rattle.cad_host.specs.declared.host.Tape.TheVariants.{Pick}
use Rattle.cad_host.specs.Disk.{Event, synced, output, reads, Ran}
use Rattle.cad_host.proofs.Kept.{sync_output, look_output}
use Rattle.cad_world.specs.State.{World}
use Rattle.cad_worlds.specs.Standing.{StandsFor}
use Rattle.cad_serve_parts.specs.Passed.{OneWorld}
use Rattle.cad_store.specs.declared.store.Store.{Store}
use Rattle.cad_store.specs.declared.stops.OpenStop.{OpenStop}
use Rattle.cad_store.specs.declared.stops.OpenStop.TheVariants as stop
use Rattle.cad_store.specs.Stops.{BlamesDisk}
use Rattle.cad_store.specs.Opening.{in_use, opened, Opens, BreaksOpening, at_pick, at_tape, at_sync, at_second_sync, IsOpening}
use Rattle.cad_store.specs.Stores.{DiskHolds, held}
use Rattle.cad_store.proofs.Holding.{one_map}
use Rattle.cad_serve_parts.specs.Lines.{commands}
use Rattle.cad_serve.specs.Served.{Begun}
use Rattle.cad_serve.specs.Crashes.{DiskStands, KeepsPrefix, Survives, in_opening, after_opening}
use Rattle.cad_serve.specs.declared.status.Status.{Status}
use Rattle.cad_serve.specs.declared.status.Status.TheVariants.{Done, Usage, ReadFault, WriteFault, DiskFault, Memory, BadStore, InputBound}
use Rattle.cad_serve.specs.Ending.{HasRun}
use Rattle.cad_serve.specs.Code.Ending.{Ends, EndsOpening, HasCause, IsCausedBy, status_of}
use Rattle.cad_serve.proofs.Batches.{begun_none}
use Rattle.cad_serve.proofs.Runs.{cause_as}

-- the accounts that the tapes stand for are those that the store holds
pub store_stands : (m : List Event) (store : Store) (w : World) → DiskHolds (reads m) (held store) → DiskStands (reads m) w → StandsFor (held store) w
store_stands m store w holds h = subst (λ n. StandsFor n w) (λ i key. one_map (reads m) h.map (held store) h.holds holds key i) h.stands

-- tapes stand for one state of the accounts
pub stands_both : OneWorld → (disk : Tape → List ℕ) (v w : World) → DiskStands disk v → DiskStands disk w → v ≡ w
stands_both one_world disk v w h k = one_world k.map v w (subst (λ n. StandsFor n v) (λ i key. one_map disk h.map k.map h.holds k.holds key i) h.stands) k.stands

-- a run behind an opening
pub ends_from : (s : Status) (w : World) (input input2 left : List ℕ) (begun begun2 new : List Event) → input2 ≡ input → begun2 ≡ begun → Ends s w input2 left begun2 new → Ends s w input left begun new
ends_from s w input input2 left begun begun2 new same story h = subst (λ i. Ends s w i left begun new) same (subst (λ m. Ends s w input2 left m new) story h)

pub survives_from : (w : World) (commands : List (List ℕ)) (old begun new : List Event) → begun ≡ opened old → Ran old begun (IsOpening old) → KeepsPrefix w commands (opened old) new → Survives w commands old new
survives_from w commands old begun new story ran h = after_opening (subst (λ m. Ran old m (IsOpening old)) story ran) h

-- a run that isn't one
pub survives_idle : (w : World) (commands : List (List ℕ)) (m : List Event) → Survives w commands m m
survives_idle w commands m = in_opening (record { since = []; is = refl; each = record { output = refl; disk = λ disk image. image } })

-- the store could not be opened
pub stop_ends : (T : Type 0) (s : OpenStop) (input left : List ℕ) (old new : List Event) → left ≡ input → Opens {T = T} (Err s) old new → (s ≡ stop.BadStore → ⊥) → EndsOpening (status_of s) input left old new
stop_ends T stop.Failed input left old new stays story good = (stays, story)
stop_ends T stop.BadStore input left old new stays story good = absurd (good refl)
stop_ends T stop.Memory input left old new stays story good = (stays, story)

pub bad_stop : (s : OpenStop) → status_of s ≡ BadStore → s ≡ stop.BadStore
bad_stop stop.Failed e = cc e
bad_stop stop.BadStore e = refl
bad_stop stop.Memory e = cc e

pub stop_runs : (s : OpenStop) → HasRun (status_of s) → ⊥
stop_runs stop.Failed h = h
stop_runs stop.BadStore h = h
stop_runs stop.Memory h = h

pub stop_is_no_usage : (s : OpenStop) → status_of s ≡ Usage → ⊥
stop_is_no_usage stop.Failed e = cc e
stop_is_no_usage stop.BadStore e = cc e
stop_is_no_usage stop.Memory e = cc e

pub run_cause : (s : Status) (i i2 j o o2 p d d2 e : ℕ) → i2 ≡ i → o2 ≡ o → d2 ≡ d → HasCause s i2 j o2 p d2 e → IsCausedBy s i j o p d e
run_cause s i i2 j o o2 p d d2 e a b c h = by s (cause_as s i i2 j o o2 p d d2 e a b c h)
  where
    by : (s : Status) → HasCause s i j o p d e → IsCausedBy s i j o p d e
    by Done h = h
    by Usage h = absurd h
    by ReadFault h = h
    by WriteFault h = h
    by DiskFault h = h
    by Memory h = h
    by BadStore h = absurd h
    by InputBound h = h

-- a count rose only where its fault is told
pub no_input_fault : (s : Status) (i j o p d e : ℕ) → IsCausedBy s i j o p d e → (s ≡ ReadFault → ⊥) → j ≡ i
no_input_fault Done i j o p d e h other = h.0
no_input_fault Usage i j o p d e h other = h.0
no_input_fault ReadFault i j o p d e h other = absurd (other refl)
no_input_fault WriteFault i j o p d e h other = h.0
no_input_fault DiskFault i j o p d e h other = h.0
no_input_fault Memory i j o p d e h other = h.0
no_input_fault BadStore i j o p d e h other = h.0
no_input_fault InputBound i j o p d e h other = h.0

pub no_output_fault : (s : Status) (i j o p d e : ℕ) → IsCausedBy s i j o p d e → (s ≡ WriteFault → ⊥) → p ≡ o
no_output_fault Done i j o p d e h other = h.1
no_output_fault Usage i j o p d e h other = h.1
no_output_fault ReadFault i j o p d e h other = h.1
no_output_fault WriteFault i j o p d e h other = absurd (other refl)
no_output_fault DiskFault i j o p d e h other = h.1
no_output_fault Memory i j o p d e h other = h.1
no_output_fault BadStore i j o p d e h other = h.1
no_output_fault InputBound i j o p d e h other = h.1

pub no_disk_fault : (s : Status) (i j o p d e : ℕ) → IsCausedBy s i j o p d e → (s ≡ DiskFault → ⊥) → e ≡ d
no_disk_fault Done i j o p d e h other = h.2
no_disk_fault Usage i j o p d e h other = h.2
no_disk_fault ReadFault i j o p d e h other = h.2
no_disk_fault WriteFault i j o p d e h other = h.2
no_disk_fault DiskFault i j o p d e h other = absurd (other refl)
no_disk_fault Memory i j o p d e h other = h.2
no_disk_fault BadStore i j o p d e h other = h.2
no_disk_fault InputBound i j o p d e h other = h.2

pub no_bad_store : (s : Status) (i j o p d e : ℕ) → HasCause s i j o p d e → s ≡ BadStore → ⊥
no_bad_store s i j o p d e h is = subst (λ x. HasCause x i j o p d e) is h

pub no_usage : (s : Status) (i j o p d e : ℕ) → HasCause s i j o p d e → s ≡ Usage → ⊥
no_usage s i j o p d e h is = subst (λ x. HasCause x i j o p d e) is h

pub open_cause : (T : Type 0) (s : OpenStop) (i j o p d e : ℕ) → j ≡ i → p ≡ o → BlamesDisk {T = T} (Err s) d e → IsCausedBy (status_of s) i j o p d e
open_cause T stop.Failed i j o p d e a b h = (a, b, h.1)
open_cause T stop.BadStore i j o p d e a b h = (a, b, h)
open_cause T stop.Memory i j o p d e a b h = (a, b, h)

-- nothing was put in the opening
broke_output : (old new : List Event) → BreaksOpening old new → output new ≡ output old
broke_output old new (at_pick h) = look_output Pick old new h
broke_output old new (at_tape h) = look_output (in_use old) old new h
broke_output old new (at_sync h) = sync_output Pick old new (inr h)
broke_output old new (at_second_sync h) = sync_output (in_use old) (synced Pick ∷ old) new (inr h)

pub opening_begins : (s : Status) (w : World) (input left : List ℕ) (old new : List Event) → EndsOpening s input left old new → Begun w (commands input) (output old) (output new)
opening_begins Done w input left old new e = absurd e
opening_begins Usage w input left old new e = absurd e
opening_begins ReadFault w input left old new e = absurd e
opening_begins WriteFault w input left old new e = absurd e
opening_begins DiskFault w input left old new e = subst (λ o. Begun w (commands input) (output old) o) (sym (broke_output old new e.1)) (begun_none w (commands input) (output old))
opening_begins Memory w input left old new e = subst (λ m. Begun w (commands input) (output old) (output m)) (sym e.1) (begun_none w (commands input) (output old))
opening_begins BadStore w input left old new e = absurd e
opening_begins InputBound w input left old new e = absurd e
