-- An opening: its moments, and what it leaves.
use Rattle.std.proofs.Common.{◌≡◌, ◌⊎◌, inl, inr, ⊎_elim, ℕ, ◌<◌, ◌^◌, false, Some, Result, Ok, Err, List, [], ◌∷◌, length, refl, sym, ◌∙◌, ap, subst}
use Rattle.cad_host.specs.declared.host.Tape.{Tape}
use Rattle.cad_host.specs.declared.host.Tape.TheVariants.{Pick}
use Rattle.cad_host.specs.Disk.{Event, synced, broke, look_failed, state, reads, output, same_tape, IsImage, IsDisk, IsClean, Ran, FailsLook, BreaksSync}
use Rattle.cad_host.specs.Crash.{IsSettled}
use Rattle.cad_host.proofs.Images.{each_tape, state_synced, other_synced, clean_synced, broke_sync}
use Rattle.cad_host.proofs.Kept.{synced_image, settled_synced}
use Rattle.cad_tape.specs.Framing.{Ends}
use Rattle.cad_tape.specs.Reading.{chosen, reading, stored, or_none, IsPlaced, IsFree, IsQuiet}
use Rattle.cad_tape.proofs.Read.{chosen_other}
use Rattle.cad_accounts.specs.Registers.{Map}
use Rattle.cad_store.specs.declared.place.Place.{Place}
use Rattle.cad_store.specs.declared.place.Place.TheVariants.{Behind, Onto}
use Rattle.cad_store.specs.Stores.{DiskHolds, IsAt}
use Rattle.cad_store.specs.declared.stops.OpenStop.{OpenStop}
use Rattle.cad_store.specs.declared.stops.OpenStop.TheVariants.{Failed, BadStore, Memory}
use Rattle.cad_store.specs.Opening.{in_use, opened, Opens, BreaksOpening, at_pick, at_tape, at_sync, at_second_sync, IsOpening}
use Rattle.cad_store.specs.Code.Opening.{ReadsStore}

-- a sync leaves what is read
synced_reads : (u : Tape) (m : List Event) (t : Tape) → reads (synced u ∷ m) t ≡ reads m t
synced_reads u m = each_tape u (λ t. reads (synced u ∷ m) t ≡ reads m t) (ap (λ s. s.reads) (state_synced u m)) (λ t other. ap (λ s. s.reads) (other_synced t u m other))

pub opened_reads : (m : List Event) → reads (opened m) ≡ reads m
opened_reads m = λ i t. (synced_reads (in_use m) (synced Pick ∷ m) t ∙ synced_reads Pick m t) i

-- where the next record goes is told by what is read
at_same : (m n : List Event) (place : Place) → reads m ≡ reads n → IsAt m place → IsAt n place
at_same m n (Behind tape at) same h = record {
  used = subst (λ (r : Tape → List ℕ). chosen (r Pick) ≡ tape) same h.used;
  ends = subst (λ (r : Tape → List ℕ). Ends (r tape) (or_none (reading r)) at) same h.ends;
  fits = subst (λ (r : Tape → List ℕ). length (r tape) < 2 ^ 64) same h.fits;
}
at_same m n (Onto tape) same h = (
  record {
    not_used = subst (λ (r : Tape → List ℕ). same_tape tape (chosen (r Pick)) ≡ false) same h.0.not_used;
    not_pick = h.0.not_pick;
    whole = subst (λ (r : Tape → List ℕ). reading r ≡ Some (or_none (reading r))) same h.0.whole;
  },
  subst (λ (r : Tape → List ℕ). length (r (chosen (r Pick))) ≡ 0) same h.1,
)

pub at_opened : (m : List Event) (place : Place) → IsAt m place → IsAt (opened m) place
at_opened m place h = at_same m (opened m) place (sym (opened_reads m)) h

pub holds_opened : (m : List Event) (map : Map) → DiskHolds (reads m) map → DiskHolds (reads (opened m)) map
holds_opened m map h = subst (λ (r : Tape → List ℕ). DiskHolds r map) (sym (opened_reads m)) h

-- nothing is pending on it
pub quiet_opened : (m : List Event) → IsQuiet (opened m)
quiet_opened m =
    let used = in_use m in
    let same : used ≡ chosen (reads (opened m) Pick) = ap (λ (r : Tape → List ℕ). chosen (r Pick)) (sym (opened_reads m)) in
    record {
      clean = subst (λ (t : Tape). IsClean (state t (opened m))) same (clean_synced used (synced Pick ∷ m));
      clean_pick = subst IsClean (sym (other_synced Pick used (synced Pick ∷ m) (chosen_other (reads m Pick)))) (clean_synced Pick m);
    }

-- ---- what a crash leaves

begin : (m : List Event) → IsOpening m m
begin m = record { output = refl; disk = λ disk image. image }

module _ (m : List Event) (settled : IsSettled m) where
  first : IsOpening m (synced Pick ∷ m)
  first = record { output = refl; disk = λ disk image. synced_image Pick m disk settled image }

  second : IsOpening m (opened m)
  second = record { output = refl; disk = λ disk image. synced_image Pick m disk settled (synced_image (in_use m) (synced Pick ∷ m) disk (settled_synced Pick m settled) image) }

  pub open_ran : Ran m (opened m) (IsOpening m)
  open_ran = record { since = synced (in_use m) ∷ synced Pick ∷ []; is = refl; each = (second, (first, begin m)) }

  broke_first : (new : List Event) → BreaksSync Pick m new → Ran m new (IsOpening m)
  broke_first new broken = ⊎_elim
      (λ same. record { since = []; is = same; each = begin m })
      (λ story. record {
        since = broke Pick 0 0 story.0 ∷ [];
        is = story.2;
        each = (record { output = refl; disk = λ disk image. broke_sync Pick story.0 m disk story.1 image }, begin m);
      }) broken

  broke_second : (new : List Event) → BreaksSync (in_use m) (synced Pick ∷ m) new → Ran m new (IsOpening m)
  broke_second new broken = ⊎_elim
      (λ same. record { since = synced Pick ∷ []; is = same; each = (first, begin m) })
      (λ story. record {
        since = broke (in_use m) 0 0 story.0 ∷ synced Pick ∷ [];
        is = story.2;
        each = (record { output = refl; disk = λ disk image. first.disk disk (broke_sync (in_use m) story.0 (synced Pick ∷ m) disk story.1 image) }, (first, begin m));
      }) broken

  looked : (t : Tape) (new : List Event) → FailsLook t m new → Ran m new (IsOpening m)
  looked t new failed = ⊎_elim
      (λ same. record { since = []; is = same; each = begin m })
      (λ is. record { since = look_failed t ∷ []; is = is; each = (record { output = refl; disk = λ disk image. image }, begin m) })
      failed

  pub open_broke : (new : List Event) → BreaksOpening m new → Ran m new (IsOpening m)
  open_broke new (at_pick h) = looked Pick new h
  open_broke new (at_tape h) = looked (in_use m) new h
  open_broke new (at_sync h) = broke_first new h
  open_broke new (at_second_sync h) = broke_second new h

-- a failed opening, by the call that failed
opens_err : (T : Type 0) (s : OpenStop) (m new : List Event) → IsSettled m → Opens {T = T} (Err s) m new → Ran m new (IsOpening m)
opens_err T Failed m new settled h = open_broke m settled new h
opens_err T BadStore m new settled h = record { since = []; is = h; each = begin m }
opens_err T Memory m new settled h = record { since = []; is = h; each = begin m }

pub opens_moments : {T : Type 0} (r : Result T OpenStop) (m new : List Event) → IsSettled m → Opens r m new → Ran m new (IsOpening m)
opens_moments (Ok t) m new settled h = subst (λ n. Ran m n (IsOpening m)) (sym h) (open_ran m settled)
opens_moments {T = T} (Err s) m new settled h = opens_err T s m new settled h

-- reading, and then two syncs
pub reads_opens : (T U : Type 0) (s : OpenStop) (m mid new : List Event) → mid ≡ m → ReadsStore {T = T} (Err s) mid new → Opens {T = U} (Err s) m new
reads_opens T U Failed m mid new same h = at_tape (subst (λ n. FailsLook (in_use n) n new) same h)
reads_opens T U BadStore m mid new same h = h ∙ same
reads_opens T U Memory m mid new same h = h ∙ same

pub reads_looked : (T : Type 0) (s : OpenStop) (m mid new : List Event) → mid ≡ m → ReadsStore {T = T} (Err s) mid new → FailsLook Pick m new ⊎ FailsLook (in_use m) m new
reads_looked T Failed m mid new same h = inr (subst (λ n. FailsLook (in_use n) n new) same h)
reads_looked T BadStore m mid new same h = inl (inl (h ∙ same))
reads_looked T Memory m mid new same h = inl (inl (h ∙ same))

pub sync_broke : (m mid new : List Event) (tape : Tape) → mid ≡ m → tape ≡ in_use m → BreaksSync Pick mid new ⊎ BreaksSync tape (synced Pick ∷ mid) new → BreaksOpening m new
sync_broke m mid new tape same used (inl h) = at_sync (subst (λ n. BreaksSync Pick n new) same h)
sync_broke m mid new tape same used (inr h) = at_second_sync (subst (λ n. BreaksSync (in_use m) (synced Pick ∷ n) new) same (subst (λ t. BreaksSync t (synced Pick ∷ mid) new) used h))

pub both_synced : (m mid new : List Event) (tape : Tape) → mid ≡ m → tape ≡ in_use m → new ≡ synced tape ∷ synced Pick ∷ mid → new ≡ opened m
both_synced m mid new tape same used is = is ∙ (λ i. synced (used i) ∷ synced Pick ∷ same i)
