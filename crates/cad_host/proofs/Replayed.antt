-- A replay of a record of calls on what a tape reads and on the image of a crash.
use Rattle.std.proofs.Common.{◌≡◌, inl, inr, ⊎_elim, ℕ, ◌+◌, ◌-◌, ◌<◌, ◌≤◌, true, List, [], ◌∷◌, ◌++◌, length, get_or, take, drop, min, replicate, refl, sym, ◌∙◌, ap, subst, arith, if◌then◌else◌, length-append, length-drop, append_assoc, take-append-drop}
use Rattle.std.proofs.lemmas.List.{take_all, get_or-replicate, length-replicate, drop_at}
use Rattle.std.proofs.lemmas.Bool.{cases_lt}
use Rattle.std.proofs.lemmas.Grind.{take_at_read}
use Rattle.cad_host.specs.declared.host.Tape.{Tape}
use Rattle.cad_host.specs.declared.host.Tape.TheVariants.{A, B, Pick}
use Rattle.cad_host.specs.declared.call.Call.{Call}
use Rattle.cad_host.specs.Disk.{Event, wrote, broke, filled, TapeState, state, reads, after, same_tape, overwritten, Outside, IsImage, IsDisk, IsClean}
use Rattle.cad_host.specs.Crash.{IsFilledImage, IsSettled, at_moment}
use Rattle.cad_host.specs.Code.Replay.{IsReplayed}
use Rattle.cad_host.specs.Record.{event_of, onto, trace_of}
use Rattle.cad_host.proofs.Recorded.{trace_push}
use Rattle.cad_host.proofs.Images.{each_tape, state_broke, other_broke}
use Rattle.cad_host.proofs.Lists.{get_or_over, get_or_within, length_over, long_over, over_past}

-- the image of a crash is one
pub filled_image : (fill : ℕ) (s : TapeState) (c : List ℕ) → s.settled ≤ length s.reads → IsFilledImage fill s c → IsImage s c
filled_image fill s c settled image = record { no_shorter = omega (arith, image.long); no_longer = omega (arith, image.long); same = image.stays }

pub filled_disk : (m : List Event) (fill : ℕ) (disk : Tape → List ℕ) → IsSettled m → ((t : Tape) → IsFilledImage fill (state t m) (disk t)) → IsDisk m disk
filled_disk m fill disk settled exact t = filled_image fill (state t m) (disk t) (settled t) (exact t)

-- a write that stands within the tape
module _ (fill at : ℕ) (bytes filling : List ℕ) (s : TapeState) (image : List ℕ) (settled : s.settled ≤ length s.reads) (old : IsFilledImage fill s image) (filling_is : filling ≡ replicate (length bytes) fill) where
  long_filling : length filling ≡ length bytes
  long_filling = ap length filling_is ∙ length-replicate (length bytes) fill

  long : length (overwritten image (min at (length image)) filling) ≡ length (overwritten s.reads at bytes)
  long = omega (arith, length_over image filling (min at (length image)), length_over s.reads bytes at, long_filling, old.long)

  stays : (i : ℕ) → i < s.settled → Outside ((at, length bytes) ∷ s.loose) i → get_or (overwritten image (min at (length image)) filling) i 0 ≡ get_or (overwritten s.reads at bytes) i 0
  stays i below outside =
      get_or_over image filling (min at (length image)) i (omega (arith, old.long, settled, below))
      (⊎_elim (λ h. inl (omega (arith, h, old.long, settled, below))) (λ h. inr (omega (arith, h, long_filling, old.long, settled, below))) outside.0)
      ∙ old.stays i below outside.1
      ∙ sym (get_or_over s.reads bytes at i (omega (arith, settled, below)) outside.0)

  loose : (i : ℕ) → i < length (overwritten s.reads at bytes) → ¬ ((i < s.settled) × Outside ((at, length bytes) ∷ s.loose) i) → get_or (overwritten image (min at (length image)) filling) i 0 ≡ fill
  loose i inside not_kept = ⊎_elim
      (λ before. get_or_over image filling (min at (length image)) i (omega (arith, before)) (inl before)
      ∙ old.loose i (omega (arith, before, old.long)) (λ kept. not_kept (kept.0, (inl (omega (arith, before)), kept.1))))
      (λ from. ⊎_elim
      (λ within. get_or_within image filling (min at (length image)) i (omega arith) from (omega (arith, within, long_filling))
      ∙ ap (λ (l : List ℕ). get_or l (i - min at (length image)) 0) filling_is
      ∙ get_or-replicate (length bytes) (i - min at (length image)) fill 0 (omega (arith, within, from)))
      (λ behind. let in_old : i < length s.reads = omega (arith, behind, inside, length_over s.reads bytes at, old.long) in
      let past : at + length bytes ≤ i = omega (arith, behind, in_old, old.long) in
      get_or_over image filling (min at (length image)) i (omega (arith, in_old, old.long)) (inr (omega (arith, behind, long_filling)))
      ∙ old.loose i in_old (λ kept. not_kept (kept.0, (inr past, kept.1))))
      (cases_lt i (min at (length image) + length bytes)))
      (cases_lt i (min at (length image)))

  pub write_filled : IsFilledImage fill (record { reads = overwritten s.reads at bytes; settled = s.settled; loose = (at, length bytes) ∷ s.loose }) (overwritten image (min at (length image)) filling)
  write_filled = record { long = long; stays = stays; loose = loose }

-- one more write replayed
pub replay_wrote : (fill : ℕ) (tape t : Tape) (at : ℕ) (bytes filling : List ℕ) (s : TapeState) (now image now2 image2 : List ℕ) → same_tape tape t ≡ true → IsReplayed fill s now image → filling ≡ replicate (length bytes) fill
    → now2 ≡ overwritten now (min at (length now)) bytes → image2 ≡ overwritten image (min at (length image)) filling → IsReplayed fill (after t (wrote tape at bytes) s) now2 image2
replay_wrote fill tape t at bytes filling s now image now2 image2 is_same r filling_is is_now is_image =
    subst (λ b. IsReplayed fill (if b then record { reads = overwritten s.reads at bytes; settled = s.settled; loose = (at, length bytes) ∷ s.loose } else s) now2 image2) (sym is_same) (record {
      reads_so = is_now ∙ sym (over_past now bytes at) ∙ ap (λ (l : List ℕ). overwritten l at bytes) r.reads_so;
      settled_so = omega (arith, r.settled_so, long_over s.reads bytes at);
      image_so = subst (λ (l : List ℕ). IsFilledImage fill (record { reads = overwritten s.reads at bytes; settled = s.settled; loose = (at, length bytes) ∷ s.loose }) l) (sym is_image) (write_filled fill at bytes filling s image r.settled_so r.image_so filling_is);
    })

-- a sync or a fill replayed
pub replay_exact : (fill : ℕ) (bytes now image : List ℕ) → now ≡ bytes → image ≡ bytes → IsReplayed fill (record { reads = bytes; settled = length bytes; loose = [] }) now image
replay_exact fill bytes now image is_now is_image = record {
  reads_so = is_now;
  settled_so = omega arith;
  image_so = record { long = ap length is_image; stays = λ i below outside. ap (λ (l : List ℕ). get_or l i 0) is_image; loose = λ i inside not_kept. absurd (not_kept (inside, tt)) };
}

pub replay_none : (fill : ℕ) (tape : Tape) → IsReplayed fill (state tape []) [] []
replay_none fill tape = record { reads_so = refl; settled_so = omega arith; image_so = record { long = refl; stays = λ i below outside. refl; loose = λ i inside not_kept. absurd (omega (arith, inside)) } }

-- a write of the front of these bytes that failed, within the tape
module _ (fill at : ℕ) (bytes front filling : List ℕ) (s : TapeState) (image : List ℕ) (settled : s.settled ≤ length s.reads) (old : IsFilledImage fill s image) (few : length front ≤ length bytes)
    (filling_is : filling ≡ replicate (min (length bytes) (length (overwritten s.reads at front) - min at (length s.reads))) fill) where
  long_part : length filling ≡ min (length bytes) (length (overwritten s.reads at front) - min at (length s.reads))
  long_part = ap length filling_is ∙ length-replicate (min (length bytes) (length (overwritten s.reads at front) - min at (length s.reads))) fill

  part_long : length (overwritten image (min at (length image)) filling) ≡ length (overwritten s.reads at front)
  part_long = omega (arith, length_over image filling (min at (length image)), length_over s.reads front at, long_part, old.long, few)

  part_stays : (i : ℕ) → i < s.settled → Outside ((at, length bytes) ∷ s.loose) i → get_or (overwritten image (min at (length image)) filling) i 0 ≡ get_or (overwritten s.reads at front) i 0
  part_stays i below outside =
      get_or_over image filling (min at (length image)) i (omega (arith, old.long, settled, below))
      (⊎_elim (λ h. inl (omega (arith, h, old.long, settled, below))) (λ h. inr (omega (arith, h, long_part, old.long, settled, below))) outside.0)
      ∙ old.stays i below outside.1
      ∙ sym (get_or_over s.reads front at i (omega (arith, settled, below)) (⊎_elim (λ h. inl h) (λ h. inr (omega (arith, h, few))) outside.0))

  part_loose : (i : ℕ) → i < length (overwritten s.reads at front) → ¬ ((i < s.settled) × Outside ((at, length bytes) ∷ s.loose) i) → get_or (overwritten image (min at (length image)) filling) i 0 ≡ fill
  part_loose i inside not_kept = ⊎_elim
      (λ before. get_or_over image filling (min at (length image)) i (omega (arith, before)) (inl before)
      ∙ old.loose i (omega (arith, before, old.long)) (λ kept. not_kept (kept.0, (inl (omega (arith, before)), kept.1))))
      (λ from. ⊎_elim
      (λ within. get_or_within image filling (min at (length image)) i (omega arith) from (omega (arith, within, long_part))
      ∙ ap (λ (l : List ℕ). get_or l (i - min at (length image)) 0) filling_is
      ∙ get_or-replicate (min (length bytes) (length (overwritten s.reads at front) - min at (length s.reads))) (i - min at (length image)) fill 0 (omega (arith, within, from, long_part)))
      (λ behind. let in_old : i < length s.reads = omega (arith, behind, inside, length_over s.reads front at, old.long, long_part, few) in
      let past : at + length bytes ≤ i = omega (arith, behind, inside, length_over s.reads front at, old.long, long_part, few) in
      get_or_over image filling (min at (length image)) i (omega (arith, in_old, old.long)) (inr behind)
      ∙ old.loose i in_old (λ kept. not_kept (kept.0, (inr past, kept.1))))
      (cases_lt i (min at (length image) + length filling)))
      (cases_lt i (min at (length image)))

  pub part_filled : IsFilledImage fill (record { reads = overwritten s.reads at front; settled = s.settled; loose = (at, length bytes) ∷ s.loose }) (overwritten image (min at (length image)) filling)
  part_filled = record { long = part_long; stays = part_stays; loose = part_loose }

pub replay_broke : (fill : ℕ) (tape t : Tape) (at : ℕ) (bytes front filling : List ℕ) (s : TapeState) (now image now2 image2 : List ℕ) → same_tape tape t ≡ true → length front ≤ length bytes → IsReplayed fill s now image
    → now2 ≡ overwritten now (min at (length now)) front → filling ≡ replicate (min (length bytes) (length now2 - min at (length now))) fill → image2 ≡ overwritten image (min at (length image)) filling
    → IsReplayed fill (after t (broke tape at (length bytes) (overwritten s.reads at front)) s) now2 image2
replay_broke fill tape t at bytes front filling s now image now2 image2 is_same few r is_now filling_is is_image =
    let there : now2 ≡ overwritten s.reads at front = is_now ∙ sym (over_past now front at) ∙ ap (λ (l : List ℕ). overwritten l at front) r.reads_so in
    let count : min (length bytes) (length now2 - min at (length now)) ≡ min (length bytes) (length (overwritten s.reads at front) - min at (length s.reads)) = λ i. min (length bytes) (length (there i) - min at (length (r.reads_so i))) in
    subst (λ b. IsReplayed fill (if b then record { reads = overwritten s.reads at front; settled = s.settled; loose = (at, length bytes) ∷ s.loose } else s) now2 image2) (sym is_same) (record {
      reads_so = there;
      settled_so = omega (arith, r.settled_so, long_over s.reads front at);
      image_so = subst (λ (l : List ℕ). IsFilledImage fill (record { reads = overwritten s.reads at front; settled = s.settled; loose = (at, length bytes) ∷ s.loose }) l) (sym is_image)
          (part_filled fill at bytes front filling s image r.settled_so r.image_so few (filling_is ∙ ap (λ (n : ℕ). replicate n fill) count));
    })

-- a sync that failed changes nothing
still : (fill : ℕ) (s : TapeState) (now image : List ℕ) → IsReplayed fill s now image → IsReplayed fill (record { reads = s.reads; settled = s.settled; loose = (0, 0) ∷ s.loose }) now image
still fill s now image r = record {
  reads_so = r.reads_so;
  settled_so = r.settled_so;
  image_so = record {
    long = r.image_so.long;
    stays = λ i below outside. r.image_so.stays i below outside.1;
    loose = λ i inside not_kept. r.image_so.loose i inside (λ kept. not_kept (kept.0, (inr (omega arith), kept.1)));
  };
}

pub replay_still : (fill : ℕ) (tape t : Tape) (m : List Event) (now image : List ℕ) → IsReplayed fill (state t m) now image → IsReplayed fill (state t (broke tape 0 0 (reads m tape) ∷ m)) now image
replay_still fill tape t m now image r = each_tape tape (λ t. IsReplayed fill (state t m) now image → IsReplayed fill (state t (broke tape 0 0 (reads m tape) ∷ m)) now image)
    (λ r. subst (λ s. IsReplayed fill s now image) (sym (state_broke tape 0 0 (reads m tape) m)) (still fill (state tape m) now image r))
    (λ t other r. subst (λ s. IsReplayed fill s now image) (sym (other_broke t tape 0 0 (reads m tape) m other)) r)
    t r

-- one more call of a record
trace-step : (calls : List Call) (i : ℕ) (call : Call) → i < length calls → call ≡ get_or calls i call → trace_of (take (i + 1) calls) ≡ event_of call (trace_of (take i calls)) ∷ trace_of (take i calls)
trace-step calls i call inside is = trace_push (take i calls) (take (i + 1) calls) call ((take_at_read calls i call inside).1 ∙ ap (λ (x : Call). take i calls ++ x ∷ []) (sym is))

pub replay_step : (fill : ℕ) (tape : Tape) (calls : List Call) (i : ℕ) (call : Call) (now image : List ℕ) → i < length calls → call ≡ get_or calls i call → IsReplayed fill (state tape (event_of call (trace_of (take i calls)) ∷ trace_of (take i calls))) now image → IsReplayed fill (state tape (trace_of (take (i + 1) calls))) now image
replay_step fill tape calls i call now image inside is r = subst (λ m. IsReplayed fill (state tape m) now image) (sym (trace-step calls i call inside is)) r

-- the events of calls, the newest first
events_of : List Call → List Event → List Event
events_of [] m = []
events_of (call ∷ calls) m = events_of calls (event_of call m ∷ m) ++ event_of call m ∷ []

onto-events : (calls : List Call) (m : List Event) → onto calls m ≡ events_of calls m ++ m
unfolding events_of
onto-events [] m = refl
onto-events (call ∷ calls) m = onto-events calls (event_of call m ∷ m) ∙ sym (append_assoc (events_of calls (event_of call m ∷ m)) (event_of call m ∷ []) m)

length-events : (calls : List Call) (m : List Event) → length (events_of calls m) ≡ length calls
unfolding events_of
length-events [] m = refl
length-events (call ∷ calls) m = omega (arith, length-append (events_of calls (event_of call m ∷ m)) (event_of call m ∷ []), length-events calls (event_of call m ∷ m))

onto-append : (xs ys : List Call) (m : List Event) → onto (xs ++ ys) m ≡ onto ys (onto xs m)
onto-append [] ys m = refl
onto-append (x ∷ xs) ys m = onto-append xs ys (event_of x m ∷ m)

-- a record has an event for each call
pub length_trace : (calls : List Call) → length (trace_of calls) ≡ length calls
length_trace calls = omega (arith, ap length (onto-events calls []), length-append (events_of calls []) [], length-events calls [])

-- the front of a record is an earlier moment
pub trace_moment : (calls : List Call) (k : ℕ) → k ≤ length calls → at_moment (trace_of calls) k ≡ trace_of (take k calls)
trace_moment calls k inside =
    let before : List Event = trace_of (take k calls) in
    let later : List Event = events_of (drop k calls) before in
    let whole : trace_of calls ≡ later ++ before = ap trace_of (sym (take-append-drop k calls)) ∙ onto-append (take k calls) (drop k calls) [] ∙ onto-events (drop k calls) (trace_of (take k calls)) in
    let count : length (trace_of calls) - k ≡ length later = omega (arith, length_trace calls, length-events (drop k calls) before, length-drop k calls) in
    (λ i. drop (count i) (whole i)) ∙ drop_at later before (length later) refl

-- a host over three images, and nothing else
abbrev pub three : List ℕ → List ℕ → List ℕ → List Event
three a b pick = filled Pick pick ∷ filled B b ∷ filled A a ∷ []

abbrev Exact : ℕ → List Event → List Event → Type 0
Exact fill m n = (t : Tape) → IsFilledImage fill (state t m) (reads n t)

pub three_exact : (fill : ℕ) (m n : List Event) (a b pick : List ℕ) → n ≡ three a b pick → IsFilledImage fill (state A m) a → IsFilledImage fill (state B m) b → IsFilledImage fill (state Pick m) pick → (t : Tape) → IsFilledImage fill (state t m) (reads n t)
three_exact fill m n a b pick is in_a in_b in_pick = subst (Exact fill m) (sym is) by_tape
  where
    by_tape : Exact fill m (three a b pick)
    by_tape A = in_a
    by_tape B = in_b
    by_tape Pick = in_pick

pub three_images : (m n : List Event) (a b pick : List ℕ) → n ≡ three a b pick → IsImage (state A m) a → IsImage (state B m) b → IsImage (state Pick m) pick → IsDisk m (reads n)
three_images m n a b pick is in_a in_b in_pick = subst (λ n. IsDisk m (reads n)) (sym is) by_tape
  where
    by_tape : IsDisk m (reads (three a b pick))
    by_tape A = in_a
    by_tape B = in_b
    by_tape Pick = in_pick

abbrev Clean : List Event → Type 0
Clean n = (t : Tape) → IsClean (state t n)

pub three_clean : (n : List Event) (a b pick : List ℕ) → n ≡ three a b pick → (t : Tape) → IsClean (state t n)
three_clean n a b pick is = subst Clean (sym is) by_tape
  where
    by_tape : Clean (three a b pick)
    by_tape A = record { settled = refl; loose = refl }
    by_tape B = record { settled = refl; loose = refl }
    by_tape Pick = record { settled = refl; loose = refl }

-- the image at the end of a replay
pub replay_all : (fill : ℕ) (tape : Tape) (calls : List Call) (i : ℕ) (now image : List ℕ) → length calls ≤ i → IsReplayed fill (state tape (trace_of (take i calls))) now image
    → IsFilledImage fill (state tape (trace_of calls)) image × IsImage (state tape (trace_of calls)) image
replay_all fill tape calls i now image is r =
    let whole : take i calls ≡ calls = take_all i calls is in
    let exact : IsFilledImage fill (state tape (trace_of calls)) image = subst (λ (l : List Call). IsFilledImage fill (state tape (trace_of l)) image) whole r.image_so in
    let settled : (state tape (trace_of calls)).settled ≤ length (reads (trace_of calls) tape) = subst (λ (l : List Call). (state tape (trace_of l)).settled ≤ length (reads (trace_of l) tape)) whole r.settled_so in
    (exact, filled_image fill (state tape (trace_of calls)) image settled exact)

-- a host over the images of the front of a record is one over those of that moment
module _ (calls past : List Call) (k : ℕ) (inside : k ≤ length calls) (front : past ≡ take k calls) (n : List Event) (a b pick : List ℕ) (is : n ≡ three a b pick) where
  moment : trace_of past ≡ at_moment (trace_of calls) k
  moment = ap trace_of front ∙ sym (trace_moment calls k inside)

  pub crash_exact : (fill : ℕ) → IsFilledImage fill (state A (trace_of past)) a → IsFilledImage fill (state B (trace_of past)) b → IsFilledImage fill (state Pick (trace_of past)) pick → (t : Tape) → IsFilledImage fill (state t (at_moment (trace_of calls) k)) (reads n t)
  crash_exact fill in_a in_b in_pick = subst (λ m. Exact fill m n) moment (three_exact fill (trace_of past) n a b pick is in_a in_b in_pick)

  pub crash_image : IsImage (state A (trace_of past)) a → IsImage (state B (trace_of past)) b → IsImage (state Pick (trace_of past)) pick → IsDisk (at_moment (trace_of calls) k) (reads n)
  crash_image in_a in_b in_pick = subst (λ m. IsDisk m (reads n)) moment (three_images (trace_of past) n a b pick is in_a in_b in_pick)
