-- Calls in the wrong order, and an image that reads as no records.
use Rattle.std.proofs.Common.{◌≡◌, ◌⊎◌, inl, inr, ⊎_elim, ℕ, Option, Some, None, List, [], ◌∷◌, ◌++◌, refl, sym, ◌∙◌, arith}
use Rattle.cad_host.specs.declared.host.Tape.{Tape}
use Rattle.cad_host.specs.declared.host.Tape.TheVariants.{A, B, Pick}
use Rattle.cad_host.specs.Disk.{Event, wrote, filled, overwritten, IsImage, IsDisk, Ran}
use Rattle.cad_host.proofs.Lists.{long_over, length_over}
use Rattle.cad_host.proofs.Ran.{ran_inside}
use Rattle.cad_tape.specs.Framing.{framed, framing, bodies_in, body_at}
use Rattle.cad_tape.specs.Reading.{reading, pick_of, Leaves}

-- an open gate with nothing behind it
gate_alone : framing (1 ∷ []) ≡ None
unfolding framing bodies_in body_at
gate_alone = refl

neither : (o : Option (List (List ℕ))) (a b : List (List ℕ)) → o ≡ None → (o ≡ Some a) ⊎ (o ≡ Some b) → ⊥
neither o a b none (inl is) = let wrong = sym none ∙ is in cc wrong
neither o a b none (inr is) = let wrong = sym none ∙ is in cc wrong

-- nothing was written to a tape that was never synced
untouched : IsImage (record { reads = []; settled = 0; loose = [] }) []
untouched = record { no_shorter = omega arith; no_longer = omega arith; same = λ i below outside. absurd (omega (arith, below)) }

abbrev old : List Event
old = filled B (0 ∷ []) ∷ []

-- ---- the gate

abbrev gate_disk : Tape → List ℕ
gate_disk A = []
gate_disk B = 1 ∷ []
gate_disk Pick = []

gate_image : IsDisk (wrote B 0 (1 ∷ []) ∷ wrote B 1 (framed []) ∷ old) gate_disk
gate_image A = untouched
gate_image B = record {
  no_shorter = omega arith;
  no_longer = omega (arith, long_over (0 ∷ []) (framed []) 1, long_over (overwritten (0 ∷ []) 1 (framed [])) (1 ∷ []) 0);
  same = λ i below outside. absurd (⊎_elim (λ h. omega (arith, h)) (λ h. omega (arith, h, below)) outside.0);
}
gate_image Pick = untouched

pub gate_too_early : (later : List Event) → Ran old (later ++ wrote B 0 (1 ∷ []) ∷ wrote B 1 (framed []) ∷ old) (Leaves old [] ([] ∷ [])) → ⊥
gate_too_early later ran =
    let left = ran_inside (Leaves old [] ([] ∷ [])) old (wrote B 0 (1 ∷ []) ∷ wrote B 1 (framed []) ∷ []) later ran in
    neither (reading gate_disk) [] ([] ∷ []) gate_alone (left.disk gate_disk gate_image)

-- ---- `pick`

abbrev pick_disk : Tape → List ℕ
pick_disk A = 1 ∷ []
pick_disk B = 0 ∷ []
pick_disk Pick = 1 ∷ []

pick_image : IsDisk (wrote Pick 0 (pick_of A ∷ []) ∷ wrote A 0 (1 ∷ framed []) ∷ old) pick_disk
pick_image A = record {
  no_shorter = omega arith;
  no_longer = omega (arith, length_over [] (1 ∷ framed []) 0);
  same = λ i below outside. absurd (omega (arith, below));
}
pick_image B = record { no_shorter = omega arith; no_longer = omega arith; same = λ i below outside. refl }
pick_image Pick = record { no_shorter = omega arith; no_longer = omega arith; same = λ i below outside. absurd (omega (arith, below)) }

pub pick_too_early : (later : List Event) → Ran old (later ++ wrote Pick 0 (pick_of A ∷ []) ∷ wrote A 0 (1 ∷ framed []) ∷ old) (Leaves old [] ([] ∷ [])) → ⊥
pick_too_early later ran =
    let left = ran_inside (Leaves old [] ([] ∷ [])) old (wrote Pick 0 (pick_of A ∷ []) ∷ wrote A 0 (1 ∷ framed []) ∷ []) later ran in
    neither (reading pick_disk) [] ([] ∷ []) gate_alone (left.disk pick_disk pick_image)
