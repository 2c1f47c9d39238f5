-- Texts of which nothing has to be escaped.
use Rattle.std.proofs.Common.{◌≡◌, ◌≤◌, ◌<◌, ℕ, Bool, true, false, List, [], ◌∷◌, ◌++◌, refl, sym, ap, ◌∙◌, arith, append_assoc}
use Rattle.std.proofs.lemmas.Bool.{and_parts, not-true, le-ltb}
use Rattle.std.specs.Prelude.{◌==◌, nat_lt, nat_le, cond, ◌&&◌, ◌||◌, not}
use Rattle.std.specs.List.{flat_map, list_all}
use Rattle.json.specs.Print.{escape_byte, escape, escape_letter, quoted}
use Rattle.cad_json_export.specs.Texts.{is_plain, is_plain_byte, quotation}

pub other : (x n : ℕ) → nat_le 32 x ≡ true → n < 32 → (x == n) ≡ false
other x n e small = grind arith

at_least : (x : ℕ) → nat_le 32 x ≡ true → nat_lt x 32 ≡ false
at_least x e = grind arith

plain_byte : (x : ℕ) → is_plain_byte x ≡ true → escape_byte x ≡ x ∷ []
unfolding escape_byte
plain_byte x e =
    let low = and_parts (nat_le 32 x) (not (x == 34) && not (x == 92)) e in
    let marks = and_parts (not (x == 34)) (not (x == 92)) low.1 in
    rw (not-true (x == 34) marks.0, not-true (x == 92) marks.1, other x 8 low.0 (omega arith), other x 12 low.0 (omega arith), other x 10 low.0 (omega arith), other x 13 low.0 (omega arith), other x 9 low.0 (omega arith), at_least x low.0) refl

pub plain_escape : (text : List ℕ) → is_plain text ≡ true → escape text ≡ text
plain_escape [] e = refl
plain_escape (x ∷ text) e =
    let parts = and_parts (is_plain_byte x) (is_plain text) e in
    rw (plain_byte x parts.0, plain_escape text parts.1) refl

pub plain_quoted : (text : List ℕ) → is_plain text ≡ true → quotation text ≡ 34 ∷ (text ++ 34 ∷ [])
unfolding quotation
plain_quoted text e = rw (plain_escape text e) refl

-- what is pushed between two quotes
pub quoted_pushes : (t t1 t2 t3 s : List ℕ) → t1 ≡ t ++ 34 ∷ [] → t2 ≡ t1 ++ s → t3 ≡ t2 ++ 34 ∷ [] → is_plain s ≡ true → t3 ≡ t ++ quotation s
quoted_pushes t t1 t2 t3 s e1 e2 e3 plain = e3 ∙ (ap (λ (w : List ℕ). w ++ 34 ∷ []) e2 ∙ (ap (λ (w : List ℕ). (w ++ s) ++ 34 ∷ []) e1 ∙ (append_assoc (t ++ 34 ∷ []) s (34 ∷ []) ∙ (append_assoc t (34 ∷ []) (s ++ 34 ∷ []) ∙ ap (λ (w : List ℕ). t ++ w) (sym (plain_quoted s plain))))))
