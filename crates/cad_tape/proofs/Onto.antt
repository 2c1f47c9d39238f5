-- The four disk calls of a checkpoint, and what a crash leaves at each.
use Rattle.std.proofs.Common.{◌≡◌, ◌⊎◌, inl, inr, ⊎_elim, ℕ, ◌+◌, ◌-◌, ◌<◌, ◌^◌, false, Some, List, [], ◌∷◌, ◌++◌, length, drop, refl, sym, ◌∙◌, ap, subst, arith, append_assoc, length-append}
use Rattle.cad_host.specs.declared.host.Tape.{Tape}
use Rattle.cad_host.specs.declared.host.Tape.TheVariants.{A, B, Pick}
use Rattle.cad_host.specs.Disk.{Event, wrote, synced, state, reads, same_tape, IsImage, IsDisk, IsClean}
use Rattle.cad_wire.specs.Fields.{number_field}
use Rattle.cad_tape.specs.Framing.{framing, spelled, framed}
use Rattle.cad_tape.specs.Reading.{chosen, reading, stored, or_none, IsPlaced, IsFree, IsQuiet, pick_of, Leaves}
use Rattle.cad_tape.proofs.Read.{read_spelled, chosen_other}
use Rattle.cad_tape.proofs.Four.{Steps}
use Rattle.cad_host.proofs.Images.{clean_only, state_wrote, state_synced, other_wrote, other_synced, clean_synced}

-- of three tapes, one that isn't `pick` is the one or the other
either : (t used onto : Tape) → same_tape used Pick ≡ false → same_tape onto Pick ≡ false → same_tape onto used ≡ false → same_tape t Pick ≡ false → (t ≡ used) ⊎ (t ≡ onto)
either Pick u o up op ou tp = absurd (cc tp)
either A Pick o up op ou tp = absurd (cc up)
either B Pick o up op ou tp = absurd (cc up)
either A A o up op ou tp = inl refl
either B B o up op ou tp = inl refl
either A B A up op ou tp = inr refl
either A B B up op ou tp = absurd (cc ou)
either A B Pick up op ou tp = absurd (cc op)
either B A A up op ou tp = absurd (cc ou)
either B A B up op ou tp = inr refl
either B A Pick up op ou tp = absurd (cc op)

pick_chooses : (onto : Tape) (rest : List ℕ) → same_tape onto Pick ≡ false → chosen (pick_of onto ∷ rest) ≡ onto
pick_chooses A rest other = refl
pick_chooses B rest other = refl
pick_chooses Pick rest other = absurd (cc other)

other_pick : (onto : Tape) → same_tape onto Pick ≡ false → same_tape Pick onto ≡ false
other_pick A other = refl
other_pick B other = refl
other_pick Pick other = other

-- a body whose record is a slice
pub short_body : (body bytes : List ℕ) → bytes ≡ 1 ∷ framed body → length bytes < 2 ^ 64 → length body < 2 ^ 64
short_body body bytes form lt = omega (arith, ap length form, length-append body (0 ∷ []))

module _ (m0 : List Event) (onto : Tape) (body : List ℕ) (free : IsFree m0 onto) (short : length body < 2 ^ 64) where
  abbrev bytes : List ℕ
  bytes = 1 ∷ framed body

  abbrev used : Tape
  used = chosen (reads m0 Pick)

  abbrev m1 : List Event
  m1 = wrote onto 0 bytes ∷ m0

  abbrev m2 : List Event
  m2 = synced onto ∷ m1

  abbrev m3 : List Event
  m3 = wrote Pick 0 (pick_of onto ∷ []) ∷ m2

  abbrev m4 : List Event
  m4 = synced Pick ∷ m3

  abbrev bodies : List (List ℕ)
  bodies = stored m0

  abbrev P : List Event → Type 0
  P = Leaves m0 bodies (body ∷ [])

  used_pick : same_tape used Pick ≡ false
  used_pick = chosen_other (reads m0 Pick)

  pick_used : same_tape Pick used ≡ false
  pick_used = other_pick used used_pick

  pick_onto : same_tape Pick onto ≡ false
  pick_onto = other_pick onto free.not_pick

  -- the tape in use stays
  used1 : state used m1 ≡ state used m0
  used1 = other_wrote used onto 0 bytes m0 free.not_used

  used2 : state used m2 ≡ state used m0
  used2 = other_synced used onto m1 free.not_used ∙ used1

  used3 : state used m3 ≡ state used m0
  used3 = other_wrote used Pick 0 (pick_of onto ∷ []) m2 pick_used ∙ used2

  -- and the pick byte until the last write
  pick1 : state Pick m1 ≡ state Pick m0
  pick1 = other_wrote Pick onto 0 bytes m0 free.not_pick

  pick2 : state Pick m2 ≡ state Pick m0
  pick2 = other_synced Pick onto m1 free.not_pick ∙ pick1

  abbrev stale : List ℕ
  stale = drop (0 + length bytes) (reads m0 onto)

  onto2 : reads m2 onto ≡ spelled (body ∷ []) ++ 0 ∷ stale
  onto2 = ap (λ s. s.reads) (state_synced onto m1) ∙ ap (λ s. s.reads) (state_wrote onto 0 bytes m0)
      ∙ ap (λ (l : List ℕ). 1 ∷ (number_field (length body) ++ l)) (append_assoc body (0 ∷ []) stale ∙ sym (ap (λ (l : List ℕ). l ++ 0 ∷ stale) (nil body)))
    where
      nil : (l : List ℕ) → l ++ [] ≡ l
      nil [] = refl
      nil (x ∷ l) = ap (λ (k : List ℕ). x ∷ k) (nil l)

  reads_new : framing (spelled (body ∷ []) ++ 0 ∷ stale) ≡ Some (body ∷ [])
  reads_new = read_spelled (body ∷ []) 0 stale (short, tt) (λ is. omega (arith, is))

  onto3 : state onto m3 ≡ state onto m2
  onto3 = other_wrote onto Pick 0 (pick_of onto ∷ []) m2 pick_onto

  onto4 : state onto m4 ≡ state onto m2
  onto4 = other_synced onto Pick m3 pick_onto ∙ onto3

  of_onto : (m : List Event) (disk : Tape → List ℕ) → state onto m ≡ state onto m2 → IsDisk m disk → framing (disk onto) ≡ Some (body ∷ [])
  of_onto m disk same left = ap framing (clean_only (state onto m2) (disk onto) (clean_synced onto m1) (subst (λ s. IsImage s (disk onto)) same (left onto)) ∙ onto2) ∙ reads_new

  used4 : chosen (reads m4 Pick) ≡ onto
  used4 = pick_chooses onto (drop (0 + 1) (reads m2 Pick)) free.not_pick

  stored4 : stored m4 ≡ body ∷ []
  stored4 = ap or_none (ap (λ t. framing (reads m4 t)) used4 ∙ ap framing (ap (λ s. s.reads) onto4 ∙ onto2) ∙ reads_new)

  pub placed_at : (next : ℕ) (bytes1 : List ℕ) (t new : List Event) → next ≡ length bytes1 - 1 → bytes1 ≡ bytes → t ≡ m1 → new ≡ m4 → length (reads t onto) < 2 ^ 64
      → IsPlaced new onto next × (stored new ≡ body ∷ [])
  placed_at next bytes1 t new is form is1 is4 fits =
      let fits1 : length (reads m1 onto) < 2 ^ 64 = subst (λ m. length (reads m onto) < 2 ^ 64) is1 fits in
      let place : next ≡ length (spelled (body ∷ [])) = omega (arith, is, ap length form, length-append body (0 ∷ []), length-append body []) in
      subst (λ m. IsPlaced m onto next × (stored m ≡ body ∷ [])) (sym is4) (
        record {
          used = used4;
          ends = record {
            gate = 0;
            rest = stale;
            closed = λ is. omega (arith, is);
            is = ap (λ s. s.reads) onto4 ∙ onto2 ∙ ap (λ bs. spelled bs ++ 0 ∷ stale) (sym stored4);
            place = place ∙ ap (λ bs. length (spelled bs)) (sym stored4);
          };
          fits = subst (λ (l : List ℕ). length l < 2 ^ 64) (sym (ap (λ s. s.reads) (state_synced onto m1)) ∙ sym (ap (λ s. s.reads) onto4)) fits1;
        },
        stored4,
      )

  pub quiet_at : (new : List Event) → new ≡ m4 → IsQuiet new
  quiet_at new is = subst IsQuiet (sym is) (record { clean = subst (λ t. IsClean (state t m4)) (sym used4) (subst IsClean (sym onto4) (clean_synced onto m1)); clean_pick = clean_synced Pick m3 })

  -- where nothing was pending
  module _ (quiet : IsQuiet m0) where
    -- what is read of a disk where the tape in use is as it was
    of_used : (m : List Event) (disk : Tape → List ℕ) → state used m ≡ state used m0 → IsDisk m disk → framing (disk used) ≡ Some bodies
    of_used m disk same left = ap framing (clean_only (state used m0) (disk used) quiet.clean (subst (λ s. IsImage s (disk used)) same (left used))) ∙ free.whole

    before_pick : (m : List Event) (disk : Tape → List ℕ) → state Pick m ≡ state Pick m0 → state used m ≡ state used m0 → IsDisk m disk → reading disk ≡ Some bodies
    before_pick m disk pick same left =
        let is : disk Pick ≡ reads m0 Pick = clean_only (state Pick m0) (disk Pick) quiet.clean_pick (subst (λ s. IsImage s (disk Pick)) pick (left Pick)) in
        ap (λ (l : List ℕ). framing (disk (chosen l))) is ∙ of_used m disk same left

    pub steps : Steps m0 bodies (body ∷ []) onto 0 bytes Pick 0 (pick_of onto ∷ [])
    steps = record {
      s0 = record { output = refl; disk = λ disk left. inl (before_pick m0 disk refl refl left) };
      s1 = record { output = refl; disk = λ disk left. inl (before_pick m1 disk pick1 used1 left) };
      s2 = record { output = refl; disk = λ disk left. inl (before_pick m2 disk pick2 used2 left) };
      s3 = record {
        output = refl;
        disk = λ disk left. ⊎_elim
            (λ is. inl (ap (λ t. framing (disk t)) is ∙ of_used m3 disk used3 left))
            (λ is. inr (ap (λ t. framing (disk t)) is ∙ of_onto m3 disk onto3 left))
            (either (chosen (disk Pick)) used onto used_pick free.not_pick free.not_used (chosen_other (disk Pick)));
      };
      s4 = record {
        output = refl;
        disk = λ disk left.
            let is : disk Pick ≡ reads m4 Pick = clean_only (state Pick m4) (disk Pick) (clean_synced Pick m3) (left Pick) in
            inr (ap (λ (l : List ℕ). framing (disk (chosen l))) is ∙ ap (λ t. framing (disk t)) used4 ∙ of_onto m4 disk onto4 left);
      };
    }
