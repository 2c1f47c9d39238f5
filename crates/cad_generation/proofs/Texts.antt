-- Lines as one text, one behind another.
use Rattle.std.proofs.Common.{◌≡◌, ℕ, suc, ◌+◌, List, [], ◌∷◌, ◌++◌, sym, ◌∙◌, ap, arith, append_assoc}
use Rattle.std.proofs.lemmas.Grind.{flat_map-append}
use Rattle.cad_generation.specs.Lines.{transfers, transfer_of}
use Rattle.cad_generation.specs.Numbers.{number, next_number}
use Rattle.cad_generation.specs.Programs.{lines_text}

pub text_then : (front : List ℕ) (xs ys : List (List ℕ)) → (front ++ lines_text xs) ++ lines_text ys ≡ front ++ lines_text (xs ++ ys)
text_then front xs ys = append_assoc front (lines_text xs) (lines_text ys) ∙ ap (λ l. front ++ l) (sym (flat_map-append (λ (line : List ℕ). line ++ 10 ∷ []) xs ys))

after : (i : ℕ) → suc i ≡ i + 1
after i = omega arith

-- one more transfer
pub numbered_text : (front old new line : List ℕ) (n i x y : ℕ) → old ≡ front ++ lines_text (transfers n i) → x ≡ number n i → y ≡ next_number x → line ≡ transfer_of y
    → new ≡ old ++ lines_text (line ∷ []) → new ≡ front ++ lines_text (transfers n (i + 1))
numbered_text front old new line n i x y before at next is now =
    now ∙ ap (λ l. l ++ lines_text (line ∷ [])) before ∙ text_then front (transfers n i) (line ∷ [])
    ∙ ap (λ l. front ++ lines_text (transfers n i ++ l ∷ [])) (is ∙ ap transfer_of (next ∙ ap next_number at))
    ∙ ap (λ k. front ++ lines_text (transfers n k)) (after i)

pub next_number_is : (n i x y : ℕ) → x ≡ number n i → y ≡ next_number x → y ≡ number n (i + 1)
next_number_is n i x y at next = next ∙ ap next_number at ∙ ap (number n) (after i)

-- the first lines, and the others behind them
pub whole_text : (empty first all : List ℕ) (xs ys zs : List (List ℕ)) → empty ≡ [] → first ≡ empty ++ lines_text xs → all ≡ first ++ lines_text ys → xs ≡ zs → all ≡ lines_text (zs ++ ys)
whole_text empty first all xs ys zs none begins is same =
    is ∙ ap (λ l. l ++ lines_text ys) (begins ∙ ap (λ l. l ++ lines_text xs) none) ∙ text_then [] xs ys ∙ ap (λ l. lines_text (l ++ ys)) same
