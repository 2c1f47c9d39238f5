-- What a crash leaves after each call.
use Rattle.std.proofs.Common.{◌≡◌, inr, ℕ, Bool, true, false, List, [], ◌∷◌, length, refl, sym, ◌∙◌, ap, subst, arith, if◌then◌else◌}
use Rattle.std.proofs.lemmas.Grind.{same_number_lists}
use Rattle.cad_host.specs.declared.host.Tape.{Tape}
use Rattle.cad_host.specs.declared.host.Tape.TheVariants.{A, B, Pick}
use Rattle.cad_host.specs.Disk.{Event, wrote, synced, broke, filled, TapeState, state, same_tape, overwritten, Outside, IsImage, IsDisk, IsClean}

-- a tape is the same as itself
pub same_refl : (t : Tape) → same_tape t t ≡ true
same_refl A = refl
same_refl B = refl
same_refl Pick = refl

-- and only it is the same
pub same_is : (u t : Tape) → same_tape u t ≡ true → u ≡ t
same_is A A is = refl
same_is B B is = refl
same_is Pick Pick is = refl
same_is A B is = absurd (cc is)
same_is A Pick is = absurd (cc is)
same_is B A is = absurd (cc is)
same_is B Pick is = absurd (cc is)
same_is Pick A is = absurd (cc is)
same_is Pick B is = absurd (cc is)

-- with nothing pending, each image is what reads
pub clean_only : (s : TapeState) (c : List ℕ) → IsClean s → IsImage s c → c ≡ s.reads
clean_only s c clean image = same_number_lists c s.reads (omega (arith, image.no_shorter, image.no_longer, clean.settled))
    (λ k below. image.same k (omega (arith, image.no_longer, clean.settled, below)) (subst (λ (l : List (ℕ × ℕ)). Outside l k) (sym clean.loose) tt))

-- an image of what reads as an image, with the same bytes loose, is one too
pub within : (s : TapeState) (now c : List ℕ) (loose : List (ℕ × ℕ)) → IsImage s now → IsImage (record { reads = now; settled = s.settled; loose = loose }) c → ((i : ℕ) → Outside s.loose i → Outside loose i) → IsImage s c
within s now c loose first second keeps = record {
  no_shorter = second.no_shorter;
  no_longer = omega (arith, second.no_longer, first.no_longer);
  same = λ i below outside. second.same i below (keeps i outside) ∙ first.same i below outside;
}

-- how each call changes the tape that it is for
at_tape : (t u : Tape) (b : Bool) (x y z : TapeState) → same_tape u t ≡ b → (if b then x else y) ≡ z → (if same_tape u t then x else y) ≡ z
at_tape t u b x y z is chosen_so = ap (λ b. if b then x else y) is ∙ chosen_so

pub state_wrote : (t : Tape) (at : ℕ) (bytes : List ℕ) (m : List Event) → state t (wrote t at bytes ∷ m) ≡ record { reads = overwritten (state t m).reads at bytes; settled = (state t m).settled; loose = (at, length bytes) ∷ (state t m).loose }
state_wrote t at bytes m = at_tape t t true _ _ _ (same_refl t) refl

pub state_synced : (t : Tape) (m : List Event) → state t (synced t ∷ m) ≡ record { reads = (state t m).reads; settled = length (state t m).reads; loose = [] }
state_synced t m = at_tape t t true _ _ _ (same_refl t) refl

pub state_broke : (t : Tape) (at n : ℕ) (now : List ℕ) (m : List Event) → state t (broke t at n now ∷ m) ≡ record { reads = now; settled = (state t m).settled; loose = (at, n) ∷ (state t m).loose }
state_broke t at n now m = at_tape t t true _ _ _ (same_refl t) refl

pub state_filled : (t : Tape) (bytes : List ℕ) (m : List Event) → state t (filled t bytes ∷ m) ≡ record { reads = bytes; settled = length bytes; loose = [] }
state_filled t bytes m = at_tape t t true _ _ _ (same_refl t) refl

-- and leaves the others
pub other_wrote : (t u : Tape) (at : ℕ) (bytes : List ℕ) (m : List Event) → same_tape u t ≡ false → state t (wrote u at bytes ∷ m) ≡ state t m
other_wrote t u at bytes m other = at_tape t u false _ _ _ other refl

pub other_broke : (t u : Tape) (at n : ℕ) (now : List ℕ) (m : List Event) → same_tape u t ≡ false → state t (broke u at n now ∷ m) ≡ state t m
other_broke t u at n now m other = at_tape t u false _ _ _ other refl

pub other_synced : (t u : Tape) (m : List Event) → same_tape u t ≡ false → state t (synced u ∷ m) ≡ state t m
other_synced t u m other = at_tape t u false _ _ _ other refl

pub other_filled : (t u : Tape) (bytes : List ℕ) (m : List Event) → same_tape u t ≡ false → state t (filled u bytes ∷ m) ≡ state t m
other_filled t u bytes m other = at_tape t u false _ _ _ other refl

-- one tape, and then the others
pub each_tape : (u : Tape) (P : Tape → Type 0) → P u → ((t : Tape) → same_tape u t ≡ false → P t) → (t : Tape) → P t
each_tape A P here others A = here
each_tape A P here others B = others B refl
each_tape A P here others Pick = others Pick refl
each_tape B P here others A = others A refl
each_tape B P here others B = here
each_tape B P here others Pick = others Pick refl
each_tape Pick P here others A = others A refl
each_tape Pick P here others B = others B refl
each_tape Pick P here others Pick = here

-- a write that broke leaves what one that ended may leave
pub broke_write : (u : Tape) (at : ℕ) (bytes now : List ℕ) (m : List Event) (disk : Tape → List ℕ) → IsImage (state u (wrote u at bytes ∷ m)) now → IsDisk (broke u at (length bytes) now ∷ m) disk → IsDisk (wrote u at bytes ∷ m) disk
broke_write u at bytes now m disk image left = each_tape u (λ t. IsImage (state t (wrote u at bytes ∷ m)) (disk t))
    (let here = subst (λ s. IsImage s now) (state_wrote u at bytes m) image in
    let there = subst (λ s. IsImage s (disk u)) (state_broke u at (length bytes) now m) (left u) in
    subst (λ s. IsImage s (disk u)) (sym (state_wrote u at bytes m)) (within _ now (disk u) _ here there (λ i outside. outside)))
    (λ t other. subst (λ s. IsImage s (disk t)) (other_broke t u at (length bytes) now m other ∙ sym (other_wrote t u at bytes m other)) (left t))

-- and a sync that broke what was there before
pub broke_sync : (u : Tape) (now : List ℕ) (m : List Event) (disk : Tape → List ℕ) → IsImage (state u m) now → IsDisk (broke u 0 0 now ∷ m) disk → IsDisk m disk
broke_sync u now m disk image left = each_tape u (λ t. IsImage (state t m) (disk t))
    (let there = subst (λ s. IsImage s (disk u)) (state_broke u 0 0 now m) (left u) in
    within _ now (disk u) _ image there (λ i outside. (inr (omega arith), outside)))
    (λ t other. subst (λ s. IsImage s (disk t)) (other_broke t u 0 0 now m other) (left t))

pub clean_synced : (t : Tape) (m : List Event) → IsClean (state t (synced t ∷ m))
clean_synced t m = subst IsClean (sym (state_synced t m)) (record { settled = refl; loose = refl })

pub same_refl_of : (u t : Tape) → u ≡ t → same_tape u t ≡ true
same_refl_of u t is = subst (λ x. same_tape u x ≡ true) is (same_refl u)
