-- The end of the last token.
use Rattle.std.proofs.Common.{◌≡◌, suc, ◌-◌, ◌≤◌, List, [], ◌∷◌, length, slice_index_or, refl, ap, ◌∙◌, arith}
use Rattle.cad_grammar.specs.declared.token.Token.{Token}
use Rattle.cad_parse_expr.specs.Cursor.{last_end}

pub last_of : (tokens : List Token) (x : Token) → 1 ≤ length tokens → (slice_index_or tokens (length tokens - 1) x).end ≡ last_end tokens
last_of [] x le = let never : ⊥ = omega arith in absurd never
last_of (t ∷ []) x le = refl
last_of (t ∷ u ∷ tokens) x le =
    let e : length (t ∷ u ∷ tokens) - 1 ≡ suc (length tokens) = omega arith in
    let f : length tokens ≡ length (u ∷ tokens) - 1 = omega arith in
    ap (λ n. (slice_index_or (t ∷ u ∷ tokens) n x).end) e ∙ ap (λ n. (slice_index_or (u ∷ tokens) n x).end) f ∙ last_of (u ∷ tokens) x (omega arith)
