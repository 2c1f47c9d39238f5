-- The pieces of a list from one place to before another, as the list grows.
use Rattle.std.proofs.Common.{◌≡◌, ℕ, ◌+◌, ◌-◌, ◌<◌, ◌≤◌, List, [], ◌∷◌, ◌++◌, length, take, drop, get_or, refl, sym, ap, ◌∙◌, ⊎_elim, arith, length-append, append_assoc, append-nil, length-drop, length-take, subst}
use Rattle.std.proofs.lemmas.List.{get_or_read, drop-take, take-take, take_more, drop-append-le, drop_all, take_all}
use Rattle.std.proofs.lemmas.Bool.{cases_lt}
use Rattle.std.specs.List.{concat, slice_range}

concat-append : (xs ys : List (List ℕ)) → concat (xs ++ ys) ≡ concat xs ++ concat ys
concat-append [] ys = refl
concat-append (x ∷ xs) ys = ap (λ t. x ++ t) (concat-append xs ys) ∙ sym (append_assoc x (concat xs) (concat ys))

-- a piece before the first place
piece_before : (xs : List (List ℕ)) (x : List ℕ) (from up_to : ℕ) → length xs < from → concat (slice_range (xs ++ x ∷ []) from up_to) ≡ concat (slice_range xs from up_to)
piece_before xs x from up_to h =
    ap (λ t. concat (take (up_to - from) t))
    (drop_all from (xs ++ x ∷ []) (omega (arith, length-append xs (x ∷ []))) ∙ sym (drop_all from xs (omega arith)))

-- a piece between the places
piece_between : (xs : List (List ℕ)) (x : List ℕ) (from up_to : ℕ) → from ≤ length xs → length xs < up_to → concat (slice_range (xs ++ x ∷ []) from up_to) ≡ concat (slice_range xs from up_to) ++ x
piece_between xs x from up_to h l =
    let rest = drop from xs in
    ap (λ t. concat (take (up_to - from) t)) (drop-append-le from xs (x ∷ []) h) ∙
    ap concat (take_all (up_to - from) (rest ++ x ∷ []) (omega (arith, length-append rest (x ∷ []), length-drop from xs))) ∙
    concat-append rest (x ∷ []) ∙ ap (λ t. concat rest ++ t) (append-nil x) ∙
    ap (λ t. concat t ++ x) (sym (take_all (up_to - from) rest (omega (arith, length-drop from xs))))

-- the next piece of a list
pub next_before : (cs : List (List ℕ)) (n : ℕ) (from up_to : ℕ) → n < length cs → n < from → concat (slice_range (take (n + 1) cs) from up_to) ≡ concat (slice_range (take n cs) from up_to)
next_before cs n from up_to h l =
    ap (λ t. concat (slice_range t from up_to)) (take_more cs n [] h) ∙
    piece_before (take n cs) (get_or cs n []) from up_to (omega (arith, length-take n cs))

pub next_between : (cs : List (List ℕ)) (n : ℕ) (from up_to : ℕ) → n < length cs → from ≤ n → n < up_to → concat (slice_range (take (n + 1) cs) from up_to) ≡ concat (slice_range (take n cs) from up_to) ++ get_or cs n []
next_between cs n from up_to h l m =
    ap (λ t. concat (slice_range t from up_to)) (take_more cs n [] h) ∙
    piece_between (take n cs) (get_or cs n []) from up_to (omega (arith, length-take n cs)) (omega (arith, length-take n cs))

-- from the last place on nothing is added
pub past_places : (cs : List (List ℕ)) (n : ℕ) (from up_to : ℕ) → up_to ≤ n → concat (slice_range (take n cs) from up_to) ≡ concat (slice_range cs from up_to)
past_places cs n from up_to h = ⊎_elim
    (λ (l : n < from).
    let none : up_to - from ≡ 0 = omega arith in
    ap (λ k. concat (take k (drop from (take n cs)))) none ∙ sym (ap (λ k. concat (take k (drop from cs))) none))
    (λ (l : from ≤ n).
    let split : n ≡ from + (n - from) = omega arith in
    ap (λ k. concat (slice_range (take k cs) from up_to)) split ∙
    ap (λ t. concat (take (up_to - from) t)) (drop-take from (n - from) cs) ∙
    ap concat (take-take (up_to - from) (n - from) (drop from cs) (omega arith)))
    (cases_lt n from)

-- what the iterator gives next
pub next_piece : (all cs : List (List ℕ)) (n : ℕ) (x : List ℕ) → all ≡ cs → (n < length all) × (x ≡ get_or all n x) → (n < length cs) × (x ≡ get_or cs n [])
next_piece all cs n x e t =
    let P : List (List ℕ) → Type 0 = λ ps. (n < length ps) × (x ≡ get_or ps n x) in
    let s = subst P e t in
    (s.0, get_or_read cs n x s.0 s.1 [])

-- after the last piece
pub all_pieces : (all cs : List (List ℕ)) (n : ℕ) → all ≡ cs → n ≡ length all → take n cs ≡ cs
all_pieces all cs n e f = let same = ap length e in take_all n cs (omega arith)
