-- The accounts of a World of which some are known.
use Rattle.std.proofs.Common.{◌≡◌, ◌≢◌, ◌<◌, ◌≤◌, ◌+◌, ◌==◌, ◌||◌, if◌then◌else◌, ℕ, zero, suc, Bool, true, false, cond, List, [], ◌∷◌, ◌++◌, map, length, Option, Some, None, flat_map, drop, get_or, append_assoc, append-nil, refl, sym, ap, subst, ◌∙◌, arith}
use Rattle.std.specs.List.{AllByRecursion}
use Rattle.std.proofs.lemmas.Bool.{eq-eqb, eqb-true, eqb-false, ne_eqb}
use Rattle.std.proofs.lemmas.List.Elements.{recursion_from_All}
use Rattle.cad_state.specs.Parts.{accounts_from, among, known_in, known_or, with_known}
use Rattle.cad_state.specs.declared.state.Known.{Known}
use Rattle.cad_values.specs.Keys.{Distinct}
use Rattle.cad_world.specs.Begin.{new_account}
use Rattle.cad_world.specs.Rows.{identities}
use Rattle.cad_world.specs.State.{Account}
use Rattle.cad_worlds.proofs.Lists.{from_item, none_past}
use Rattle.cad_world_checks.proofs.Occurrences.{occurrences, joined}
use Rattle.cad_world_checks.specs.Identities.{AreOwn, has_number}
use Rattle.cad_world_checks.specs.Code.Summaries.{account_in}
use Rattle.cad_world_checks.specs.Parts.{index_of, known_identities}

-- ---- the indexes, one after the other

pub index_turn : (ks : List Known) (i : ℕ) (k : Known) (found now : List ℕ) → i < length ks → k ≡ get_or ks i k → found ++ map index_of (drop i ks) ≡ map index_of ks → now ≡ found ++ k.index ∷ [] → now ++ map index_of (drop (suc i) ks) ≡ map index_of ks
index_turn ks i k found now inside is so_far grown =
    ap (λ (ns : List ℕ). ns ++ map index_of (drop (suc i) ks)) grown
    ∙ append_assoc found (k.index ∷ []) (map index_of (drop (suc i) ks))
    ∙ ap (λ (ls : List Known). found ++ map index_of ls) (sym (from_item ks i k inside is))
    ∙ so_far

pub index_end : (ks : List Known) (i : ℕ) (found : List ℕ) → length ks ≤ i → found ++ map index_of (drop i ks) ≡ map index_of ks → found ≡ map index_of ks
index_end ks i found outside so_far = sym (append-nil found) ∙ ap (λ (ls : List Known). found ++ map index_of ls) (sym (none_past ks i outside)) ∙ so_far

-- ---- what holds of each account

one_among : (P : Account → Type 0) → P new_account → (base : List Account) (i : ℕ) → AllByRecursion P base → P (among base i)
one_among P empty [] i all = empty
one_among P empty (a ∷ base) zero all = all.0
one_among P empty (a ∷ base) (suc i) all = one_among P empty base i all.1

abbrev OfOption : (Account → Type 0) → Option Account → Type 0
OfOption P None = Unit {0}
OfOption P (Some a) = P a

one_or : (P : Account → Type 0) (a : Account) (o : Option Account) → P a → OfOption P o → P (known_or a o)
one_or P a None p known = p
one_or P a (Some k) p known = known

at_index : (P : Account → Type 0) (b : Bool) (a : Account) (o : Option Account) → P a → OfOption P o → OfOption P (if b then Some a else o)
at_index P true a o p rest = p
at_index P false a o p rest = rest

one_known : (P : Account → Type 0) (ks : List Known) (i : ℕ) → AllByRecursion P (map account_in ks) → OfOption P (known_in ks i)
one_known P [] i all = tt
one_known P (k ∷ ks) i all = at_index P (k.index == i) (account_in k) (known_in ks i) all.0 (one_known P ks i all.1)

pub each_account : (P : Account → Type 0) → P new_account → (base : List Account) (ks : List Known) (i n : ℕ) → AllByRecursion P base → AllByRecursion P (map account_in ks) → AllByRecursion P (accounts_from base ks i n)
each_account P empty base ks i zero all known = tt
each_account P empty base ks i (suc n) all known =
    (one_or P (among base i) (known_in ks i) (one_among P empty base i all) (one_known P ks i known), each_account P empty base ks (suc i) n all known)

-- ---- sums over places

abbrev pub sum_from : (ℕ → ℕ) → ℕ → ℕ → ℕ
sum_from f i zero = 0
sum_from f i (suc m) = f i + sum_from f (suc i) m

sums_add : (f g h : ℕ → ℕ) → ((j : ℕ) → f j ≡ g j + h j) → (i m : ℕ) → sum_from f i m ≡ sum_from g i m + sum_from h i m
sums_add f g h each i zero = omega arith
sums_add f g h each i (suc m) = let one = each i in let rest = sums_add f g h each (suc i) m in omega (arith, one, rest)

pub sums_below : (f g : ℕ → ℕ) → ((j : ℕ) → f j ≤ g j) → (i m : ℕ) → sum_from f i m ≤ sum_from g i m
sums_below f g each i zero = omega arith
sums_below f g each i (suc m) = let one = each i in let rest = sums_below f g each (suc i) m in omega (arith, one, rest)

sums_same : (f g : ℕ → ℕ) → ((j : ℕ) → f j ≡ g j) → (i m : ℕ) → sum_from f i m ≡ sum_from g i m
sums_same f g each i zero = refl
sums_same f g each i (suc m) = let one = each i in let rest = sums_same f g each (suc i) m in omega (arith, one, rest)

sum_none : (i m : ℕ) → sum_from (λ j. 0) i m ≡ 0
sum_none i zero = refl
sum_none i (suc m) = let rest = sum_none (suc i) m in omega (arith, rest)

-- nothing is at the end place or behind it
pub sum_within : (f : ℕ → ℕ) (end : ℕ) → ((j : ℕ) → end ≤ j → f j ≡ 0) → (i m n : ℕ) → end ≤ i + n → sum_from f i m ≤ sum_from f i n
sum_within f end none i zero n past = omega arith
sum_within f end none i (suc m) zero past =
    let one = none i (omega (arith, past)) in
    let rest = sum_within f end none (suc i) m zero (omega (arith, past)) in
    omega (arith, one, rest)
sum_within f end none i (suc m) (suc n) past = let rest = sum_within f end none (suc i) m n (omega (arith, past)) in omega (arith, rest)

-- one number at one place
abbrev only : ℕ → ℕ → ℕ → ℕ
only p x j = cond (p == j) x 0

only_here : (p x j : ℕ) → p ≡ j → only p x j ≡ x
only_here p x j same = rw (eq-eqb p j same) refl

only_there : (p x j : ℕ) → p ≢ j → only p x j ≡ 0
only_there p x j differs = rw (ne_eqb p j differs) refl

only_before : (p x i m : ℕ) → p < i → sum_from (only p x) i m ≡ 0
only_before p x i zero before = refl
only_before p x i (suc m) before =
    let one = only_there p x i (λ same. omega (arith, same, before)) in
    let rest = only_before p x (suc i) m (omega (arith, before)) in
    omega (arith, one, rest)

only_at : (b : Bool) (p x i m : ℕ) → (p == i) ≡ b → (p ≢ i → sum_from (only p x) (suc i) m ≡ x) → sum_from (only p x) i (suc m) ≡ x
only_at true p x i m e later =
    let same = eqb-true p i e in
    let one = only_here p x i same in
    let rest = only_before p x (suc i) m (omega (arith, same)) in
    omega (arith, one, rest)
only_at false p x i m e later =
    let one = only_there p x i (eqb-false p i e) in
    let rest = later (eqb-false p i e) in
    omega (arith, one, rest)

sum_only : (p x i m : ℕ) → i ≤ p → p < i + m → sum_from (only p x) i m ≡ x
sum_only p x i zero from below = absurd (omega (arith, from, below))
sum_only p x i (suc m) from below = only_at (p == i) p x i m refl (λ differs. sum_only p x (suc i) m (omega (arith, from, differs)) (omega (arith, below)))

-- ---- how often a number stands in what accounts store

-- in an account that isn't known, and in one that is
abbrev unknown : ℕ → Option Account → ℕ
unknown x None = x
unknown x (Some a) = 0

abbrev there : ℕ → Option Account → ℕ
there n None = 0
there n (Some a) = occurrences n (identities a.stored)

abbrev stored_in : List Account → ℕ → ℕ → ℕ
stored_in base n j = occurrences n (identities (among base j).stored)

one_or_other : (n : ℕ) (a : Account) (o : Option Account) → occurrences n (identities (known_or a o).stored) ≡ unknown (occurrences n (identities a.stored)) o + there n o
one_or_other n a None = omega arith
one_or_other n a (Some k) = omega arith

split_sum : (n : ℕ) (base : List Account) (ks : List Known) (i m : ℕ)
    → occurrences n (flat_map (λ (a : Account). identities a.stored) (accounts_from base ks i m)) ≡ sum_from (λ j. unknown (stored_in base n j) (known_in ks j)) i m + sum_from (λ j. there n (known_in ks j)) i m
split_sum n base ks i zero = omega arith
split_sum n base ks i (suc m) =
    let stored = λ (a : Account). identities a.stored in
    let both = joined n (stored (known_or (among base i) (known_in ks i))) (flat_map stored (accounts_from base ks (suc i) m)) in
    let one = one_or_other n (among base i) (known_in ks i) in
    let rest = split_sum n base ks (suc i) m in
    omega (arith, both, one, rest)

-- ---- in accounts that aren't known

-- in the account at a place, if the place is none of these
abbrev pub elsewhere : ℕ → List Account → List ℕ → ℕ → ℕ
elsewhere n base is j = cond (has_number is j) 0 (stored_in base n j)

unknown_at : (b r : Bool) (x : ℕ) (a : Account) (o : Option Account) → unknown x o ≡ cond r 0 x → unknown x (if b then Some a else o) ≡ cond (b || r) 0 x
unknown_at true r x a o rest = refl
unknown_at false r x a o rest = rest

unknown_is : (x : ℕ) (ks : List Known) (j : ℕ) → unknown x (known_in ks j) ≡ cond (has_number (map index_of ks) j) 0 x
unknown_is x [] j = refl
unknown_is x (k ∷ ks) j = unknown_at (k.index == j) (has_number (map index_of ks) j) x (account_in k) (known_in ks j) (unknown_is x ks j)

fewer : (b c : Bool) (x : ℕ) → (b ≡ true → c ≡ true) → cond c 0 x ≤ cond b 0 x
fewer true true x more = omega arith
fewer true false x more = let wrong : false ≡ true = more refl in absurd cc
fewer false true x more = omega arith
fewer false false x more = omega arith

pub elsewhere_below : (n : ℕ) (base : List Account) (is js : List ℕ) → ((j : ℕ) → has_number is j ≡ true → has_number js j ≡ true) → (j : ℕ) → elsewhere n base js j ≤ elsewhere n base is j
elsewhere_below n base is js more j = fewer (has_number is j) (has_number js j) (stored_in base n j) (more j)

none_among : (base : List Account) (j : ℕ) → length base ≤ j → among base j ≡ new_account
none_among [] j past = refl
none_among (a ∷ base) zero past = absurd (omega (arith, past))
none_among (a ∷ base) (suc j) past = none_among base j (omega (arith, past))

either_none : (b : Bool) (x : ℕ) → x ≡ 0 → cond b 0 x ≡ 0
either_none true x none = refl
either_none false x none = none

pub elsewhere_none : (n : ℕ) (base : List Account) (is : List ℕ) (j : ℕ) → length base ≤ j → elsewhere n base is j ≡ 0
elsewhere_none n base is j past = either_none (has_number is j) (stored_in base n j) (ap (λ (a : Account). occurrences n (identities a.stored)) (none_among base j past))

-- ---- in those that are

not_known : (ks : List Known) (j : ℕ) → AllByRecursion (λ y. y ≢ j) (map index_of ks) → known_in ks j ≡ None
not_known [] j others = refl
not_known (k ∷ ks) j others = rw (ne_eqb k.index j others.0) (not_known ks j others.1)

there_at : (n : ℕ) (b : Bool) (a : Account) (o : Option Account) → (b ≡ true → o ≡ None) → there n (if b then Some a else o) ≡ cond b (occurrences n (identities a.stored)) 0 + there n o
there_at n true a o none = let e = ap (there n) (none refl) in omega (arith, e)
there_at n false a o none = omega arith

known_sum : (n : ℕ) (ks : List Known) (m : ℕ) → Distinct (map index_of ks) → AllByRecursion (λ i. i < m) (map index_of ks) → sum_from (λ j. there n (known_in ks j)) 0 m ≡ occurrences n (flat_map known_identities ks)
known_sum n [] m differ below = sum_none 0 m
known_sum n (k ∷ ks) m differ below =
    let x = occurrences n (known_identities k) in
    let index = k.index in
    let alone = λ (j : ℕ) (e : (index == j) ≡ true). subst (λ (p : ℕ). known_in ks p ≡ None) (eqb-true index j e) (not_known ks index differ.0) in
    let both = sums_add (λ j. there n (known_in (k ∷ ks) j)) (only index x) (λ j. there n (known_in ks j)) (λ j. there_at n (index == j) (account_in k) (known_in ks j) (alone j)) 0 m in
    let low : index < m = below.0 in
    let one = sum_only index x 0 m (omega arith) (omega (arith, low)) in
    let rest = known_sum n ks m differ.1 below.1 in
    let all = joined n (known_identities k) (flat_map known_identities ks) in
    omega (arith, both, one, rest, all)

-- ---- in all

pub accounts_count : (n : ℕ) (base : List Account) (ks : List Known) (m : ℕ) → AreOwn m (map index_of ks)
    → occurrences n (flat_map (λ (a : Account). identities a.stored) (with_known base m ks)) ≡ sum_from (elsewhere n base (map index_of ks)) 0 m + occurrences n (flat_map known_identities ks)
accounts_count n base ks m own =
    let split = split_sum n base ks 0 m in
    let others = sums_same (λ j. unknown (stored_in base n j) (known_in ks j)) (elsewhere n base (map index_of ks)) (λ j. unknown_is (stored_in base n j) ks j) 0 m in
    let known = known_sum n ks m own.0 (recursion_from_All (λ i. i < m) (map index_of ks) own.1) in
    omega (arith, split, others, known)
