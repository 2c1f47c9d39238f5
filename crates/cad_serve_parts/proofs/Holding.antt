-- One more byte of a line.
use Rattle.std.proofs.Common.{◌≡◌, ℕ, ◌<◌, ◌≤◌, Bool, true, false, ◌&&◌, ltb, List, [], ◌∷◌, ◌++◌, length, take, sym, ◌∙◌, ap, arith, length-append, length-take}
use Rattle.std.specs.List.{list_all}
use Rattle.std.proofs.lemmas.List.{take-append-le, take_all}
use Rattle.std.proofs.lemmas.Bool.Decides.{nat_tests}
use Rattle.std.proofs.lemmas.List.Folds.{list_all-append}

pub take_push_short : (n : ℕ) (xs : List ℕ) (b : ℕ) → length (take n xs) < n → take n (xs ++ b ∷ []) ≡ take n xs ++ b ∷ []
take_push_short n xs b short =
    take_all n (xs ++ b ∷ []) (omega (arith, length-append xs (b ∷ []), length-take n xs)) ∙ ap (λ (l : List ℕ). l ++ b ∷ []) (sym (take_all n xs (omega (arith, length-take n xs))))

pub take_push_long : (n : ℕ) (xs : List ℕ) (b : ℕ) → n ≤ length (take n xs) → take n (xs ++ b ∷ []) ≡ take n xs
take_push_long n xs b long = take-append-le n xs (b ∷ []) (omega (arith, length-take n xs))

pub longer_short : (n : ℕ) (xs : List ℕ) (b : ℕ) → length (take n xs) < n → ltb n (length (xs ++ b ∷ [])) ≡ ltb n (length xs)
longer_short n xs b short = let l = length-append xs (b ∷ []) in let k = length-take n xs in grind (arith, nat_tests)

pub longer_long : (n : ℕ) (xs : List ℕ) (b : ℕ) → n ≤ length (take n xs) → ltb n (length (xs ++ b ∷ [])) ≡ true
longer_long n xs b long = let l = length-append xs (b ∷ []) in let k = length-take n xs in grind (arith, nat_tests)

pub hold_short : (n : ℕ) (old new pending : List ℕ) (b : ℕ) (long : Bool) → old ≡ take n pending → long ≡ ltb n (length pending) → length old < n → new ≡ old ++ b ∷ []
    → (new ≡ take n (pending ++ b ∷ [])) × (long ≡ ltb n (length (pending ++ b ∷ [])))
hold_short n old new pending b long is_old is_long short is_new =
    let room : length (take n pending) < n = omega (arith, ap length is_old) in
    (is_new ∙ ap (λ (l : List ℕ). l ++ b ∷ []) is_old ∙ sym (take_push_short n pending b room), is_long ∙ sym (longer_short n pending b room))

pub hold_long : (n : ℕ) (old pending : List ℕ) (b : ℕ) → old ≡ take n pending → n ≤ length old
    → (old ≡ take n (pending ++ b ∷ [])) × (true ≡ ltb n (length (pending ++ b ∷ [])))
hold_long n old pending b is_old long =
    let full : n ≤ length (take n pending) = omega (arith, ap length is_old) in
    (is_old ∙ sym (take_push_long n pending b full), sym (longer_long n pending b full))

and_push : (x y z : Bool) → z ≡ (x && (y && true)) → z ≡ (x && y)
and_push true true z e = e
and_push true false z e = e
and_push false y z e = e

pub all_push : (p : ℕ → Bool) (xs : List ℕ) (b : ℕ) (old : Bool) → old ≡ list_all p xs → (old && p b) ≡ list_all p (xs ++ b ∷ [])
all_push p xs b old is = ap (λ o. o && p b) is ∙ sym (and_push (list_all p xs) (p b) _ (list_all-append p xs (b ∷ [])))
