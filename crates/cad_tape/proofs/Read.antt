-- What spelled records stand for.
use Rattle.std.proofs.Common.{◌≡◌, ℕ, zero, suc, ◌%◌, ◌==◌, ◌<◌, ◌≤◌, ◌^◌, Bool, true, false, Option, Some, List, [], ◌∷◌, ◌++◌, length, refl, sym, ◌∙◌, ap, arith, append_assoc, length-append, if◌then◌else◌, ltb}
use Rattle.std.specs.List.{AllByRecursion}
use Rattle.std.proofs.lemmas.List.{take_at, drop_at}
use Rattle.std.proofs.lemmas.Bool.{le-ltb}
use Rattle.std.proofs.lemmas.Bool.Decides.{nat_tests}
use Rattle.cad_host.specs.declared.host.Tape.TheVariants.{A, B, Pick}
use Rattle.cad_host.specs.Disk.{same_tape}
use Rattle.cad_wire.specs.Fields.{◌>>=◌, number_field}
use Rattle.cad_wire.proofs.FieldLaws.{number_again}
use Rattle.cad_tape.specs.Framing.{body_at, bodies_in, framing, spelled}
use Rattle.cad_tape.specs.Reading.{chosen}

-- bodies whose lengths are numbers
abbrev pub AreShort : List (List ℕ) → Type 0
AreShort bodies = AllByRecursion (λ (b : List ℕ). length b < 2 ^ 64) bodies

pub short_of : (bodies : List (List ℕ)) → length (spelled bodies) < 2 ^ 64 → AreShort bodies
short_of [] lt = tt
short_of (body ∷ bodies) lt = (omega (arith, length-append body (spelled bodies)), short_of bodies (omega (arith, length-append body (spelled bodies))))

pub short_push : (bodies : List (List ℕ)) (body : List ℕ) → AreShort bodies → length body < 2 ^ 64 → AreShort (bodies ++ body ∷ [])
short_push [] body fits lt = (lt, tt)
short_push (b ∷ bodies) body fits lt = (fits.0, short_push bodies body fits.1 lt)

pub body_again : (body rest : List ℕ) → length body < 2 ^ 64 → body_at (number_field (length body) ++ (body ++ rest)) ≡ Some (body, rest)
unfolding body_at
body_again body rest lt =
    let long : ltb (length (body ++ rest)) (length body) ≡ false = le-ltb _ _ (omega (arith, length-append body rest)) in
    rw (number_again (length body) (body ++ rest) lt, long, take_at body rest (length body) refl, drop_at body rest (length body) refl) refl

pub shut_gate : (gate : ℕ) (o : Option (List (List ℕ))) → (gate ≡ 1 → ⊥) → (if gate == 1 then o else Some []) ≡ Some []
shut_gate gate o shut = grind (arith, nat_tests)

pub closed : (n gate : ℕ) (rest : List ℕ) → (gate ≡ 1 → ⊥) → bodies_in (suc n) (gate ∷ rest) ≡ Some []
unfolding bodies_in
closed n gate rest shut = shut_gate gate _ shut

pub whole : (n : ℕ) (body rest : List ℕ) → length body < 2 ^ 64 → bodies_in (suc n) (1 ∷ (number_field (length body) ++ (body ++ rest))) ≡ (bodies_in n rest >>= λ bodies. Some (body ∷ bodies))
unfolding bodies_in
whole n body rest lt = ap (λ o. o >>= λ b. bodies_in n b.1 >>= λ bodies. Some (b.0 ∷ bodies)) (body_again body rest lt)

pub read_spelled_in : (n : ℕ) (bodies : List (List ℕ)) (gate : ℕ) (rest : List ℕ) → AreShort bodies → (gate ≡ 1 → ⊥) → length (spelled bodies ++ gate ∷ rest) ≤ n → bodies_in n (spelled bodies ++ gate ∷ rest) ≡ Some bodies
read_spelled_in zero bodies gate rest fits shut long = absurd (omega (arith, length-append (spelled bodies) (gate ∷ rest)))
read_spelled_in (suc n) [] gate rest fits shut long = closed n gate rest shut
read_spelled_in (suc n) (body ∷ bodies) gate rest fits shut long =
    ap (λ (l : List ℕ). bodies_in (suc n) (1 ∷ (number_field (length body) ++ l))) (append_assoc body (spelled bodies) (gate ∷ rest))
    ∙ whole n body (spelled bodies ++ gate ∷ rest) fits.0
    ∙ ap (λ o. o >>= λ bs. Some (body ∷ bs)) (read_spelled_in n bodies gate rest fits.1 shut (omega (arith, long, length-append (body ++ spelled bodies) (gate ∷ rest), length-append body (spelled bodies), length-append (spelled bodies) (gate ∷ rest))))

pub read_spelled : (bodies : List (List ℕ)) (gate : ℕ) (rest : List ℕ) → AreShort bodies → (gate ≡ 1 → ⊥) → framing (spelled bodies ++ gate ∷ rest) ≡ Some bodies
unfolding framing
read_spelled [] gate rest fits shut = read_spelled_in (suc (length rest)) [] gate rest fits shut (omega arith)
read_spelled (body ∷ bodies) gate rest fits shut = read_spelled_in (length (spelled (body ∷ bodies) ++ gate ∷ rest)) (body ∷ bodies) gate rest fits shut (omega arith)

-- one record more
pub spelled-push : (bodies : List (List ℕ)) (body rest : List ℕ) → spelled bodies ++ 1 ∷ (number_field (length body) ++ (body ++ rest)) ≡ spelled (bodies ++ body ∷ []) ++ rest
spelled-push [] body rest = ap (λ (l : List ℕ). 1 ∷ (number_field (length body) ++ l)) (sym (append_assoc body [] rest))
spelled-push (b ∷ bodies) body rest =
    ap (λ (l : List ℕ). 1 ∷ (number_field (length b) ++ l)) (append_assoc b (spelled bodies) (1 ∷ (number_field (length body) ++ (body ++ rest))) ∙ ap (λ (l : List ℕ). b ++ l) (spelled-push bodies body rest) ∙ sym (append_assoc b (spelled (bodies ++ body ∷ [])) rest))

two_tapes : (b : Bool) → same_tape (if b then A else B) Pick ≡ false
two_tapes true = refl
two_tapes false = refl

-- the chosen tape isn't `pick`
pub chosen_other : (bytes : List ℕ) → same_tape (chosen bytes) Pick ≡ false
chosen_other [] = refl
chosen_other (x ∷ bytes) = two_tapes (x % 2 == 1)
