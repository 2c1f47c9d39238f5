-- The four disk calls of an append, and what a crash leaves at each.
use Rattle.std.proofs.Common.{◌≡◌, ◌⊎◌, inl, inr, ⊎_elim, ℕ, ◌+◌, ◌-◌, ◌<◌, ◌≤◌, ◌^◌, false, Some, List, [], ◌∷◌, ◌++◌, length, min, get_or, take, drop, refl, sym, ◌∙◌, ap, subst, arith, append_assoc, length-append, take-append-drop}
use Rattle.std.proofs.lemmas.List.{take_at, drop_at}
use Rattle.std.proofs.lemmas.Bool.{cases_eq}
use Rattle.cad_host.specs.declared.host.Tape.{Tape}
use Rattle.cad_host.specs.declared.host.Tape.TheVariants.{Pick}
use Rattle.cad_host.specs.Disk.{Event, wrote, synced, state, reads, same_tape, overwritten, Outside, IsImage, IsDisk, IsClean}
use Rattle.cad_wire.specs.Fields.{number_field}
use Rattle.cad_tape.specs.Framing.{framing, spelled, framed}
use Rattle.cad_tape.specs.Reading.{chosen, reading, stored, or_none, IsPlaced, IsQuiet, Leaves}
use Rattle.cad_host.proofs.Lists.{same_front, same_back, parts, drop_past}
use Rattle.cad_tape.proofs.Read.{AreShort, short_of, short_push, read_spelled, spelled-push, chosen_other}
use Rattle.cad_tape.proofs.Four.{Steps}
use Rattle.cad_host.proofs.Images.{clean_only, state_wrote, state_synced, other_wrote, other_synced, clean_synced}

-- bytes over the middle of a tape
over_middle : (front middle bytes back : List ℕ) (at : ℕ) → length front ≡ at → length middle ≡ length bytes → overwritten (front ++ (middle ++ back)) at bytes ≡ front ++ (bytes ++ back)
over_middle front middle bytes back at place long =
    ap (λ (l : List ℕ). l ++ bytes ++ drop (at + length bytes) (front ++ (middle ++ back))) (take_at front (middle ++ back) at place)
    ∙ ap (λ (l : List ℕ). front ++ bytes ++ l) (ap (λ (l : List ℕ). drop (at + length bytes) l) (sym (append_assoc front middle back)) ∙ drop_at (front ++ middle) back (at + length bytes) (omega (arith, length-append front middle, place, long)))
    ∙ append_assoc front bytes back

-- a body whose frame is a slice
pub short_body : (body bytes : List ℕ) → bytes ≡ framed body → length bytes < 2 ^ 64 → length body < 2 ^ 64
short_body body bytes form lt = omega (arith, ap length form, length-append body (0 ∷ []))

module _ (m0 : List Event) (tape : Tape) (at : ℕ) (body : List ℕ) (placed : IsPlaced m0 tape at) (short : length body < 2 ^ 64) where
  abbrev bytes : List ℕ
  bytes = framed body

  abbrev pub m1 : List Event
  m1 = wrote tape (at + 1) bytes ∷ m0

  abbrev pub m2 : List Event
  m2 = synced tape ∷ m1

  abbrev pub m3 : List Event
  m3 = wrote tape at (1 ∷ []) ∷ m2

  abbrev pub m4 : List Event
  m4 = synced tape ∷ m3

  abbrev bodies : List (List ℕ)
  bodies = stored m0

  abbrev front : List ℕ
  front = spelled bodies

  abbrev gate : ℕ
  gate = placed.ends.gate

  abbrev rest : List ℕ
  rest = placed.ends.rest

  -- what stands behind the gate after the first write
  abbrev tail : List ℕ
  tail = bytes ++ drop (length bytes) rest

  abbrev P : List Event → Type 0
  P = Leaves m0 bodies (bodies ++ body ∷ [])

  place : length front ≡ at
  place = sym placed.ends.place

  r0 : reads m0 tape ≡ front ++ gate ∷ rest
  r0 = placed.ends.is

  all_short : AreShort bodies
  all_short = short_of bodies (omega (arith, ap length r0, length-append front (gate ∷ rest), placed.fits))

  not_pick : same_tape tape Pick ≡ false
  not_pick = subst (λ t. same_tape t Pick ≡ false) placed.used (chosen_other (reads m0 Pick))

  -- the pick byte stays
  pick1 : state Pick m1 ≡ state Pick m0
  pick1 = other_wrote Pick tape (at + 1) bytes m0 not_pick

  pick2 : state Pick m2 ≡ state Pick m0
  pick2 = other_synced Pick tape m1 not_pick ∙ pick1

  pick3 : state Pick m3 ≡ state Pick m0
  pick3 = other_wrote Pick tape at (1 ∷ []) m2 not_pick ∙ pick2

  pick4 : state Pick m4 ≡ state Pick m0
  pick4 = other_synced Pick tape m3 not_pick ∙ pick3

  -- what the tape reads after each
  r1 : reads m1 tape ≡ front ++ gate ∷ tail
  r1 = ap (λ s. s.reads) (state_wrote tape (at + 1) bytes m0)
      ∙ ap (λ (l : List ℕ). overwritten l (at + 1) bytes) (r0 ∙ sym (append_assoc front (gate ∷ []) rest))
      ∙ over_end
      ∙ append_assoc front (gate ∷ []) tail
    where
      long : length (front ++ gate ∷ []) ≡ at + 1
      long = omega (arith, length-append front (gate ∷ []), place)

      over_end : overwritten ((front ++ gate ∷ []) ++ rest) (at + 1) bytes ≡ (front ++ gate ∷ []) ++ tail
      over_end = ap (λ (l : List ℕ). l ++ bytes ++ drop (at + 1 + length bytes) ((front ++ gate ∷ []) ++ rest)) (take_at (front ++ gate ∷ []) rest (at + 1) long)
          ∙ ap (λ (l : List ℕ). (front ++ gate ∷ []) ++ bytes ++ l) (drop_past (front ++ gate ∷ []) rest (at + 1 + length bytes) (length bytes) (omega (arith, long)))
          ∙ append_assoc (front ++ gate ∷ []) bytes (drop (length bytes) rest)

  r2 : reads m2 tape ≡ front ++ gate ∷ tail
  r2 = ap (λ s. s.reads) (state_synced tape m1) ∙ r1

  r3 : reads m3 tape ≡ front ++ 1 ∷ tail
  r3 = ap (λ s. s.reads) (state_wrote tape at (1 ∷ []) m2)
      ∙ ap (λ (l : List ℕ). overwritten l at (1 ∷ [])) r2
      ∙ over_middle front (gate ∷ []) (1 ∷ []) tail at place refl

  r4 : reads m4 tape ≡ front ++ 1 ∷ tail
  r4 = ap (λ s. s.reads) (state_synced tape m3) ∙ r3

  stale : List ℕ
  stale = drop (length bytes) rest

  tail_is : tail ≡ number_field (length body) ++ (body ++ 0 ∷ drop (length bytes) rest)
  tail_is = ap (λ (l : List ℕ). number_field (length body) ++ l) (append_assoc body (0 ∷ []) (drop (length bytes) rest))

  -- an open gate before the record
  opened : front ++ 1 ∷ tail ≡ spelled (bodies ++ body ∷ []) ++ 0 ∷ drop (length bytes) rest
  opened = ap (λ (l : List ℕ). front ++ 1 ∷ l) tail_is ∙ spelled-push bodies body (0 ∷ drop (length bytes) rest)

  reads_opened : framing (front ++ 1 ∷ tail) ≡ Some (bodies ++ body ∷ [])
  reads_opened = ap framing opened ∙ read_spelled (bodies ++ body ∷ []) 0 (drop (length bytes) rest) (short_push bodies body all_short short) (λ is. omega (arith, is))

  reads_closed : (behind : List ℕ) → framing (front ++ gate ∷ behind) ≡ Some bodies
  reads_closed behind = read_spelled bodies gate behind all_short placed.ends.closed

  stored4 : stored m4 ≡ bodies ++ body ∷ []
  stored4 = ap or_none (ap (λ (l : List ℕ). framing (reads m4 (chosen l))) (ap (λ s. s.reads) pick4) ∙ ap (λ t. framing (reads m4 t)) placed.used ∙ ap framing r4 ∙ reads_opened)

  used4 : chosen (reads m4 Pick) ≡ tape
  used4 = ap chosen (ap (λ s. s.reads) pick4) ∙ placed.used

  -- the next gate
  placed4 : (next : ℕ) → next ≡ at + length bytes → length (reads m3 tape) < 2 ^ 64 → IsPlaced m4 tape next × (stored m4 ≡ bodies ++ body ∷ [])
  placed4 next is fits = (
    record {
      used = used4;
      ends = record {
        gate = 0;
        rest = drop (length bytes) rest;
        closed = λ is. omega (arith, is);
        is = r4 ∙ opened ∙ ap (λ bs. spelled bs ++ 0 ∷ drop (length bytes) rest) (sym stored4);
        place = is ∙ next_place ∙ ap (λ bs. length (spelled bs)) (sym stored4);
      };
      fits = subst (λ (l : List ℕ). length l < 2 ^ 64) (r3 ∙ sym r4) fits;
    },
    stored4,
  )
    where
      next_place : at + length bytes ≡ length (spelled (bodies ++ body ∷ []))
      next_place = omega (arith, place, ap length (spelled-push bodies body []), length-append (spelled (bodies ++ body ∷ [])) [], length-append front (1 ∷ (number_field (length body) ++ (body ++ []))), length-append body [], length-append body (0 ∷ []))

  pub length3 : at + length bytes ≤ length (reads m3 tape)
  length3 = omega (arith, ap length r3, length-append front (1 ∷ tail), length-append bytes (drop (length bytes) rest), place)

  -- a place that fits, so that no sum is cut
  pub inside : at + 1 ≤ length (reads m0 tape)
  inside = omega (arith, ap length r0, length-append front (gate ∷ rest), place)

  pub placed_at : (next : ℕ) (bytes1 : List ℕ) (t new : List Event) → bytes1 ≡ framed body → next ≡ min (at + length bytes1) (2 ^ 64 - 1) → t ≡ m3 → new ≡ m4 → length (reads t tape) < 2 ^ 64
      → IsPlaced new tape next × (stored new ≡ stored m0 ++ body ∷ [])
  placed_at next bytes1 t new form is is3 is4 fits =
      let fits3 : length (reads m3 tape) < 2 ^ 64 = subst (λ m. length (reads m tape) < 2 ^ 64) is3 fits in
      let place3 : next ≡ at + length (framed body) = omega (arith, is, ap length form, fits3, length3) in
      subst (λ m. IsPlaced m tape next × (stored m ≡ stored m0 ++ body ∷ [])) (sym is4) (placed4 next place3 fits3)

  -- where nothing was pending
  module _ (quiet : IsQuiet m0) where
    tape_clean : IsClean (state tape m0)
    tape_clean = subst (λ t. IsClean (state t m0)) placed.used quiet.clean

    pub quiet_at : (new : List Event) → new ≡ m4 → IsQuiet new
    quiet_at new is = subst IsQuiet (sym is) (record { clean = subst (λ t. IsClean (state t m4)) (sym used4) (clean_synced tape m3); clean_pick = subst IsClean (sym pick4) quiet.clean_pick })

    reads_by : (m : List Event) (disk : Tape → List ℕ) → state Pick m ≡ state Pick m0 → IsDisk m disk → reading disk ≡ framing (disk tape)
    reads_by m disk pick left =
        let same : disk Pick ≡ reads m0 Pick = clean_only (state Pick m0) (disk Pick) quiet.clean_pick (subst (λ s. IsImage s (disk Pick)) pick (left Pick)) in
        ap (λ (l : List ℕ). framing (disk (chosen l))) same ∙ ap (λ t. framing (disk t)) placed.used

    -- before the first call
    settled : (disk : Tape → List ℕ) → IsDisk m0 disk → reading disk ≡ Some bodies
    settled disk left = reads_by m0 disk refl left ∙ ap framing (clean_only (state tape m0) (disk tape) tape_clean (left tape) ∙ r0) ∙ reads_closed rest

    p0 : P m0
    p0 = record { output = refl; disk = λ disk left. inl (settled disk left) }

    -- the closed gate stands in each image of the first write
    first : (c : List ℕ) → IsImage (state tape m1) c → framing c ≡ Some bodies
    first c image =
        let now : IsImage (record { reads = overwritten (reads m0 tape) (at + 1) bytes; settled = (state tape m0).settled; loose = (at + 1, length bytes) ∷ (state tape m0).loose }) c =
        subst (λ s. IsImage s c) (state_wrote tape (at + 1) bytes m0) image in
        let r1_is : overwritten (reads m0 tape) (at + 1) bytes ≡ front ++ gate ∷ tail = sym (ap (λ s. s.reads) (state_wrote tape (at + 1) bytes m0)) ∙ r1 in
        let long : length (reads m0 tape) ≡ at + 1 + length rest = omega (arith, ap length r0, length-append front (gate ∷ rest), place) in
        let long1 : length (overwritten (reads m0 tape) (at + 1) bytes) ≡ at + 1 + length tail = omega (arith, ap length r1_is, length-append front (gate ∷ tail), place) in
        let kept : take (at + 1) c ≡ take (at + 1) (overwritten (reads m0 tape) (at + 1) bytes) =
        same_front (at + 1) c (overwritten (reads m0 tape) (at + 1) bytes) (omega (arith, now.no_shorter, tape_clean.settled, long)) (omega (arith, long1))
        (λ i below. now.same i (omega (arith, tape_clean.settled, long, below)) (inl below, subst (λ (l : List (ℕ × ℕ)). Outside l i) (sym tape_clean.loose) tt)) in
        let front_is : take (at + 1) c ≡ front ++ gate ∷ [] =
        kept ∙ ap (take (at + 1)) (r1_is ∙ sym (append_assoc front (gate ∷ []) tail)) ∙ take_at (front ++ gate ∷ []) tail (at + 1) (omega (arith, length-append front (gate ∷ []), place)) in
        let c_is : c ≡ front ++ gate ∷ drop (at + 1) c =
        sym (take-append-drop (at + 1) c) ∙ ap (λ (l : List ℕ). l ++ drop (at + 1) c) front_is ∙ append_assoc front (gate ∷ []) (drop (at + 1) c) in
        ap framing c_is ∙ reads_closed (drop (at + 1) c)

    p1 : P m1
    p1 = record { output = refl; disk = λ disk left. inl (reads_by m1 disk pick1 left ∙ first (disk tape) (left tape)) }

    p2 : P m2
    p2 = record { output = refl; disk = λ disk left. inl (reads_by m2 disk pick2 left ∙ ap framing (clean_only (state tape m2) (disk tape) (clean_synced tape m1) (left tape) ∙ r2) ∙ reads_closed tail) }

    -- the record stands whole in each image of the second write, behind some gate
    second : (c : List ℕ) → IsImage (state tape m3) c → (framing c ≡ Some bodies) ⊎ (framing c ≡ Some (bodies ++ body ∷ []))
    second c image =
        let over = overwritten (reads m2 tape) at (1 ∷ []) in
        let now : IsImage (record { reads = over; settled = (state tape m2).settled; loose = (at, 1) ∷ (state tape m2).loose }) c =
        subst (λ s. IsImage s c) (state_wrote tape at (1 ∷ []) m2) image in
        let over_is : over ≡ front ++ 1 ∷ tail = sym (ap (λ s. s.reads) (state_wrote tape at (1 ∷ []) m2)) ∙ r3 in
        let clean = clean_synced tape m1 in
        let long2 : length (reads m2 tape) ≡ at + 1 + length tail = omega (arith, ap length r2, length-append front (gate ∷ tail), place) in
        let long3 : length over ≡ at + 1 + length tail = omega (arith, ap length over_is, length-append front (1 ∷ tail), place) in
        let long : length c ≡ at + 1 + length tail = omega (arith, now.no_shorter, now.no_longer, clean.settled, long2, long3) in
        let outside : (i : ℕ) → Outside (state tape m2).loose i = λ i. subst (λ (l : List (ℕ × ℕ)). Outside l i) (sym clean.loose) tt in
        let front_is : take at c ≡ front =
        same_front at c over (omega (arith, long)) (omega (arith, long3)) (λ i below. now.same i (omega (arith, clean.settled, long2, below)) (inl below, outside i))
        ∙ ap (take at) over_is ∙ take_at front (1 ∷ tail) at place in
        let tail_is : drop (at + 1) c ≡ tail =
        same_back (at + 1) c over (omega (arith, long, long3)) (λ i from below. now.same i (omega (arith, clean.settled, long2, long3, below)) (inr from, outside i))
        ∙ ap (drop (at + 1)) (over_is ∙ sym (append_assoc front (1 ∷ []) tail)) ∙ drop_at (front ++ 1 ∷ []) tail (at + 1) (omega (arith, length-append front (1 ∷ []), place)) in
        let whole : c ≡ front ++ get_or c at 0 ∷ tail = parts at c front tail (omega (arith, long)) front_is tail_is in
        ⊎_elim
        (λ is. inr (ap framing (whole ∙ ap (λ g. front ++ g ∷ tail) is) ∙ reads_opened))
        (λ shut. inl (ap framing whole ∙ read_spelled bodies (get_or c at 0) tail all_short shut))
        (cases_eq (get_or c at 0) 1)

    p3 : P m3
    p3 = record { output = refl; disk = λ disk left. ⊎_elim (λ is. inl (reads_by m3 disk pick3 left ∙ is)) (λ is. inr (reads_by m3 disk pick3 left ∙ is)) (second (disk tape) (left tape)) }

    p4 : P m4
    p4 = record { output = refl; disk = λ disk left. inr (reads_by m4 disk pick4 left ∙ ap framing (clean_only (state tape m4) (disk tape) (clean_synced tape m3) (left tape) ∙ r4) ∙ reads_opened) }

    pub steps : Steps m0 bodies (bodies ++ body ∷ []) tape (at + 1) (framed body) tape at (1 ∷ [])
    steps = record { s0 = p0; s1 = p1; s2 = p2; s3 = p3; s4 = p4 }
