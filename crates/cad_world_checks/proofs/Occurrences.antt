-- How often a number stands in a list: numbers differ where each stands there at most once.
use Rattle.std.proofs.Common.{◌≡◌, ◌≢◌, ◌≤◌, ◌+◌, ◌==◌, ℕ, Bool, true, false, cond, ◌||◌, List, [], ◌∷◌, ◌++◌, refl, sym, subst, ◌∙◌, arith}
use Rattle.std.specs.List.{AllByRecursion}
use Rattle.std.proofs.lemmas.Bool.{eq-eqb, eqb-true, ne_eqb}
use Rattle.cad_values.specs.Keys.{Distinct}
use Rattle.cad_world_checks.specs.Identities.{has_number}

abbrev pub occurrences : ℕ → List ℕ → ℕ
occurrences n [] = 0
occurrences n (x ∷ xs) = cond (x == n) 1 0 + occurrences n xs

pub joined : (n : ℕ) (xs ys : List ℕ) → occurrences n (xs ++ ys) ≡ occurrences n xs + occurrences n ys
joined n [] ys = omega arith
joined n (x ∷ xs) ys = let rest = joined n xs ys in omega (arith, rest)

-- ---- one number

here : (n x : ℕ) (xs : List ℕ) → x ≡ n → occurrences n (x ∷ xs) ≡ 1 + occurrences n xs
here n x xs same = rw (eq-eqb x n same) refl

not_here : (n x : ℕ) (xs : List ℕ) → x ≢ n → occurrences n (x ∷ xs) ≡ occurrences n xs
not_here n x xs differs = rw (ne_eqb x n differs) (omega arith)

apart : (n x : ℕ) → (x == n) ≡ false → x ≢ n
apart n x e same = let wrong : true ≡ false = sym (eq-eqb x n same) ∙ e in absurd cc

absent : (n : ℕ) (xs : List ℕ) → AllByRecursion (λ y. y ≢ n) xs → occurrences n xs ≡ 0
absent n [] all = refl
absent n (x ∷ xs) all = not_here n x xs all.0 ∙ absent n xs all.1

differ : (n : ℕ) (xs : List ℕ) → occurrences n xs ≡ 0 → AllByRecursion (λ y. y ≢ n) xs
differ n [] none = tt
differ n (x ∷ xs) none = (λ same. let one = here n x xs same in omega (arith, one, none), differ n xs (omega (arith, none)))

-- ---- at most once

once_at : (b : Bool) (n x : ℕ) (xs : List ℕ) → (x == n) ≡ b → AllByRecursion (λ y. y ≢ x) xs → occurrences n xs ≤ 1 → occurrences n (x ∷ xs) ≤ 1
once_at true n x xs e others rest =
    let same = eqb-true x n e in
    let one = here n x xs same in
    let none = absent n xs (subst (λ (m : ℕ). AllByRecursion (λ y. y ≢ m) xs) same others) in
    omega (arith, one, none)
once_at false n x xs e others rest = let none = not_here n x xs (apart n x e) in omega (arith, none, rest)

pub once : (xs : List ℕ) → Distinct xs → (n : ℕ) → occurrences n xs ≤ 1
once [] d n = omega arith
once (x ∷ xs) d n = once_at (x == n) n x xs refl d.0 (once xs d.1 n)

pub distinct : (xs : List ℕ) → ((n : ℕ) → occurrences n xs ≤ 1) → Distinct xs
distinct [] h = tt
distinct (x ∷ xs) h = (
  differ x xs (let one = here x x xs refl in let most = h x in omega (arith, one, most)),
  distinct xs (λ n. let most = h n in omega (arith, most)),
)

-- ---- what holds of each

pub all_where : (P : ℕ → Type 0) (xs : List ℕ) → ((n : ℕ) → 1 ≤ occurrences n xs → P n) → AllByRecursion P xs
all_where P [] h = tt
all_where P (x ∷ xs) h = (h x (let one = here x x xs refl in omega (arith, one)), all_where P xs (λ n there. h n (omega (arith, there))))

where_at : (P : ℕ → Type 0) (b : Bool) (n x : ℕ) (xs : List ℕ) → (x == n) ≡ b → P x → (1 ≤ occurrences n xs → P n) → 1 ≤ occurrences n (x ∷ xs) → P n
where_at P true n x xs e p rest there = subst P (eqb-true x n e) p
where_at P false n x xs e p rest there = rest (let none = not_here n x xs (apart n x e) in omega (arith, none, there))

pub where_all : (P : ℕ → Type 0) (xs : List ℕ) → AllByRecursion P xs → (n : ℕ) → 1 ≤ occurrences n xs → P n
where_all P [] all n there = absurd (omega (arith, there))
where_all P (x ∷ xs) all n there = where_at P (x == n) n x xs refl all.0 (where_all P xs all.1 n) there

found_at : (b r : Bool) (n x : ℕ) (xs : List ℕ) → (x == n) ≡ b → (r ≡ true → 1 ≤ occurrences n xs) → (b || r) ≡ true → 1 ≤ occurrences n (x ∷ xs)
found_at true r n x xs e rest found = let one = here n x xs (eqb-true x n e) in omega (arith, one)
found_at false r n x xs e rest found = let more = rest found in omega (arith, more)

pub found_there : (n : ℕ) (xs : List ℕ) → has_number xs n ≡ true → 1 ≤ occurrences n xs
found_there n [] found = absurd cc
found_there n (x ∷ xs) found = found_at (x == n) (has_number xs n) n x xs refl (found_there n xs) found
