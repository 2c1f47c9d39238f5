-- The order of positions, and its tests.
use Rattle.std.proofs.Common.{◌≡◌, ◌≤◌, ◌<◌, refl, sym, ◌∙◌, ap, subst, ℕ, Bool, true, false, arith, nat_le, nat_lt, nat_eq, leb-true, leb-false, ltb-true, ltb-false, eqb-true, if◌then◌else◌}
use Rattle.std.proofs.lemmas.Bool.{eqb-false}
use Rattle.cad_paths.specs.declared.letter.BodyPart.{BodyPart}
use Rattle.cad_paths.specs.declared.letter.BodyPart.TheVariants.{Whole, Declaration, Prepare, Pre, Execute, Post}
use Rattle.cad_paths.specs.declared.letter.Position.{Position}
use Rattle.cad_paths.specs.Linear.{part_order, NotAfter}
use Rattle.cad_moves.specs.Code.Machine.{is_before, is_same}

pub not_after_same : (s : Position) → NotAfter s s
not_after_same s = record { by_part = omega arith; by_statement = λ e. omega arith }

pub not_after_trans : (s t u : Position) → NotAfter s t → NotAfter t u → NotAfter s u
not_after_trans s t u h k =
    let a = h.by_part in let b = k.by_part in
    record { by_part = omega arith; by_statement = λ e. (let x = h.by_statement (omega arith) in let y = k.by_statement (omega arith) in omega arith) }

before_by : (s t : Position) (b : Bool) → nat_eq (part_order s.part) (part_order t.part) ≡ b
    → (if b then nat_le s.at t.at else nat_lt (part_order s.part) (part_order t.part)) ≡ true → NotAfter s t
before_by s t true e h =
    let a = eqb-true (part_order s.part) (part_order t.part) e in let b = leb-true s.at t.at h in
    record { by_part = omega arith; by_statement = λ d. omega arith }
before_by s t false e h =
    let a = ltb-true (part_order s.part) (part_order t.part) h in
    record { by_part = omega arith; by_statement = λ d. absurd (omega arith) }

pub before_says : (s t : Position) → is_before s t ≡ true → NotAfter s t
before_says s t h = before_by s t (nat_eq (part_order s.part) (part_order t.part)) refl h

behind_by : (s t : Position) (b : Bool) → nat_eq (part_order s.part) (part_order t.part) ≡ b
    → (if b then nat_le s.at t.at else nat_lt (part_order s.part) (part_order t.part)) ≡ false → NotAfter t s
behind_by s t true e h =
    let a = eqb-true (part_order s.part) (part_order t.part) e in let b = leb-false s.at t.at h in
    record { by_part = omega arith; by_statement = λ d. omega arith }
behind_by s t false e h =
    let a = ltb-false (part_order s.part) (part_order t.part) h in let b = eqb-false (part_order s.part) (part_order t.part) e in
    record { by_part = omega arith; by_statement = λ d. absurd (omega arith) }

pub before_denies : (s t : Position) → is_before s t ≡ false → NotAfter t s
before_denies s t h = behind_by s t (nat_eq (part_order s.part) (part_order t.part)) refl h

part_at : ℕ → BodyPart
part_at n = if nat_eq n 0 then Whole else (if nat_eq n 1 then Declaration else (if nat_eq n 2 then Prepare else (if nat_eq n 3 then Pre else (if nat_eq n 4 then Execute else Post))))

part_back : (p : BodyPart) → part_at (part_order p) ≡ p
unfolding part_at
part_back Whole = refl
part_back Declaration = refl
part_back Prepare = refl
part_back Pre = refl
part_back Execute = refl
part_back Post = refl

part_is : (p q : BodyPart) → part_order p ≡ part_order q → p ≡ q
part_is p q e = sym (part_back p) ∙ ap part_at e ∙ part_back q

position_is : (s t : Position) → s.part ≡ t.part → s.at ≡ t.at → s ≡ t
position_is s t p q = λ i. record { part = p i; at = q i }

pub not_after_both : (s t : Position) → NotAfter s t → NotAfter t s → s ≡ t
not_after_both s t h k =
    let a = h.by_part in let b = k.by_part in
    let e : part_order s.part ≡ part_order t.part = omega arith in
    let x = h.by_statement e in let y = k.by_statement (sym e) in
    position_is s t (part_is s.part t.part e) (omega arith)

same_by : (s t : Position) (b : Bool) → nat_eq (part_order s.part) (part_order t.part) ≡ b → (if b then nat_eq s.at t.at else false) ≡ true → s ≡ t
same_by s t true e h = position_is s t (part_is s.part t.part (eqb-true (part_order s.part) (part_order t.part) e)) (eqb-true s.at t.at h)
same_by s t false e h = cc

pub same_says : (s t : Position) → is_same s t ≡ true → s ≡ t
same_says s t h = same_by s t (nat_eq (part_order s.part) (part_order t.part)) refl h

itself_by : (s : Position) (b c : Bool) → nat_eq (part_order s.part) (part_order s.part) ≡ b → nat_eq s.at s.at ≡ c → (if b then c else false) ≡ true
itself_by s true true d e = refl
itself_by s true false d e = absurd (let n = eqb-false s.at s.at e in omega arith)
itself_by s false c d e = absurd (let n = eqb-false (part_order s.part) (part_order s.part) d in omega arith)

pub is_itself : (s : Position) → is_same s s ≡ true
is_itself s = itself_by s (nat_eq (part_order s.part) (part_order s.part)) (nat_eq s.at s.at) refl refl

pub same_denies : (s t : Position) → is_same s t ≡ false → s ≡ t → ⊥
same_denies s t h e = let p : is_same s t ≡ true = subst (λ z. is_same s z ≡ true) e (is_itself s) in cc
