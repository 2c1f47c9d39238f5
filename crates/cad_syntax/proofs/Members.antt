-- Members of lists, and the tests that look for them.
use Rattle.std.proofs.Common.{◌≡◌, ℕ, zero, suc, ◌<◌, Bool, true, false, ◌&&◌, ◌||◌, List, [], ◌∷◌, length, map, get_or, Contains, refl, ◌⊎◌, inl, inr, arith}
use Rattle.std.proofs.lemmas.Bool.{false≢true}
use Rattle.std.specs.List.{list_any, list_all}

contains_at : {A : Type 0} (x : A) (xs : List A) (y : A) (k : ℕ) → k < length (x ∷ xs) → get_or (x ∷ xs) k y ≡ y → (x ≡ y) ⊎ Contains xs y
contains_at x xs y zero below e = inl e
contains_at x xs y (suc k) below e = inr (k, omega arith, e)

-- a member of a list is its first one or a later one
pub contains_cases : {A : Type 0} (x : A) (xs : List A) (y : A) → Contains (x ∷ xs) y → (x ≡ y) ⊎ Contains xs y
contains_cases x xs y c = contains_at x xs y c.0 c.1 c.2

pub contains_nothing : {A : Type 0} (y : A) → Contains [] y → ⊥
contains_nothing y c = let h : c.0 < 0 = c.1 in absurd (omega arith)

pub contains_first : {A : Type 0} (x : A) (xs : List A) → Contains (x ∷ xs) x
contains_first x xs = (0, omega arith, refl)

pub contains_later : {A : Type 0} (x : A) (xs : List A) (y : A) → Contains xs y → Contains (x ∷ xs) y
contains_later x xs y c = let h = c.1 in (suc c.0, omega arith, c.2)

pub or_cases : (a b : Bool) → (a || b) ≡ true → (a ≡ true) ⊎ (b ≡ true)
or_cases true b e = inl refl
or_cases false b e = inr e

pub or_right : (a b : Bool) → b ≡ true → (a || b) ≡ true
or_right true b e = refl
or_right false b e = e

pub and_both : (a b : Bool) → (a && b) ≡ true → (a ≡ true) × (b ≡ true)
and_both true b e = (refl, e)
and_both false b e = absurd (false≢true e)

-- some member passes the test
pub some_passes : {A : Type 0} (test : A → Bool) (xs : List A) → list_any test xs ≡ true → (x : A) × Contains xs x × (test x ≡ true)
some_passes test [] e = absurd (false≢true e)
some_passes test (x ∷ xs) e = elim (or_cases (test x) (list_any test xs) e) [
  | inl p ↦ (x, contains_first x xs, p)
  | inr p ↦ let rest = some_passes test xs p in (rest.0, contains_later x xs rest.0 rest.1, rest.2)
]

pub passes_some : {A : Type 0} (test : A → Bool) (xs : List A) (x : A) → Contains xs x → test x ≡ true → list_any test xs ≡ true
passes_some test [] y c p = absurd (contains_nothing y c)
passes_some test (x ∷ xs) y c p = elim (contains_cases x xs y c) [
  | inl e ↦ rw (e, p) refl
  | inr rest ↦ or_right (test x) (list_any test xs) (passes_some test xs y rest p)
]

-- each member passes the test
pub each_passes : {A : Type 0} (test : A → Bool) (xs : List A) → list_all test xs ≡ true → (x : A) → Contains xs x → test x ≡ true
each_passes test [] e y c = absurd (contains_nothing y c)
each_passes test (x ∷ xs) e y c =
    let both = and_both (test x) (list_all test xs) e in
    elim (contains_cases x xs y c) [
      | inl same ↦ rw (← same) both.0
      | inr rest ↦ each_passes test xs both.1 y rest
    ]

pub passes_each : {A : Type 0} (test : A → Bool) (xs : List A) → ((x : A) → Contains xs x → test x ≡ true) → list_all test xs ≡ true
passes_each test [] h = refl
passes_each test (x ∷ xs) h =
    rw (h x (contains_first x xs), passes_each test xs (λ y c. h y (contains_later x xs y c))) refl

-- members of a list that is made item by item
pub contains_map : {A B : Type 0} (f : A → B) (xs : List A) (x : A) → Contains xs x → Contains (map f xs) (f x)
contains_map f [] x c = absurd (contains_nothing x c)
contains_map f (y ∷ ys) x c = elim (contains_cases y ys x c) [
  | inl e ↦ rw (← e) (contains_first (f y) (map f ys))
  | inr rest ↦ contains_later (f y) (map f ys) (f x) (contains_map f ys x rest)
]

pub map_contains : {A B : Type 0} (f : A → B) (xs : List A) (y : B) → Contains (map f xs) y → (x : A) × Contains xs x × (f x ≡ y)
map_contains f [] y c = absurd (contains_nothing y c)
map_contains f (x ∷ xs) y c = elim (contains_cases (f x) (map f xs) y c) [
  | inl e ↦ (x, contains_first x xs, e)
  | inr rest ↦ let r = map_contains f xs y rest in (r.0, contains_later x xs r.0 r.1, r.2)
]
