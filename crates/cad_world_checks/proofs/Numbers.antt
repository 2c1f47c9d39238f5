-- A set of numbers holds those that were added to it, so that it tells whether all differ.
use Rattle.std.proofs.Common.{◌≡◌, ◌≢◌, ◌↔◌, ◌<◌, ◌≤◌, ◌+◌, IsTrue, ℕ, Bool, true, false, cond, not, ◌||◌, List, [], ◌∷◌, ◌++◌, map, length, take, drop, get_or, refl, sym, ap, subst, ◌∙◌, arith, inl, inr}
use Rattle.std.specs.Prelude.{◌==◌, nat_lt}
use Rattle.std.specs.BTreeSet.{BTreeSet, contains, Updates}
use Rattle.std.specs.List.{AllByRecursion, list_any, list_all, flat_map}
use Rattle.std.specs.Ordering.{nat_cmp, is_eq}
use Rattle.std.specs.declared.cmp.Ordering.TheVariants.{Equal, Greater}
use Rattle.std.proofs.lemmas.Bool.{false≢true, cases_lt, lt-ltb, le-ltb, ltb-true, ne_eqb, eq-eqb, and_parts, and_from}
use Rattle.std.proofs.lemmas.List.{take_all, take_more, drop_more}
use Rattle.std.proofs.lemmas.List.Elements.{recursion_from_All, All-from_recursion}
use Rattle.std.proofs.lemmas.List.Folds.{list_any-append}
use Rattle.cad_state.specs.Views.{account_of, contract_of}
use Rattle.cad_state.specs.declared.state.Account.{Account}
use Rattle.cad_state.specs.declared.state.Contract.{Contract}
use Rattle.cad_values.specs.Keys.{Distinct}
use Rattle.cad_world.specs.Live.{live}
use Rattle.cad_world.specs.Rows.{identities}
use Rattle.cad_world.specs.State as s
use Rattle.cad_worlds.proofs.Lists.{none_past}
use Rattle.cad_world_checks.specs.Identities.{stored_identities, contract_identities, AreOwn, has_number, HoldsNumbers, AddsNumber}

-- ---- a number is added

either : (b : Bool) → is_eq (cond b Equal Greater) ≡ b
either true = refl
either false = refl

equal_is : (x y : ℕ) → is_eq (nat_cmp x y) ≡ (x == y)
equal_is x y =
    elim (cases_lt x y) [
      | inl lt ↦ rw (lt-ltb x y lt, ne_eqb x y (λ e. omega (arith, lt, e))) refl
      | inr le ↦ rw (le-ltb x y le) (either (x == y))
    ]

or_in : (b c : Bool) → cond b true c ≡ (c || (b || false))
or_in true true = refl
or_in true false = refl
or_in false true = refl
or_in false false = refl

pub adds : (old now : BTreeSet ℕ) (n : ℕ) (added : Bool) → added ≡ not (contains nat_cmp old n) → Updates nat_cmp old now n true → AddsNumber old now n added
adds old now n added is updates known holds = (
  is ∙ ap not (holds n),
  λ q. updates.0 q
      ∙ ap (λ b. cond b true (contains nat_cmp old q)) (equal_is n q)
      ∙ ap (cond (n == q) true) (holds q)
      ∙ or_in (n == q) (has_number known q)
      ∙ sym (list_any-append (λ k. k == q) known (n ∷ [])),
)

-- ---- those that are left

-- none of these is known, and all differ
abbrev Fresh : List ℕ → List ℕ → Type 0
Fresh known xs = AllByRecursion (λ y. has_number known y ≡ false) xs × Distinct xs

one_more : (known : List ℕ) (n y : ℕ) → has_number (known ++ n ∷ []) y ≡ (has_number known y || ((n == y) || false))
one_more known n y = list_any-append (λ k. k == y) known (n ∷ [])

neither : (a b : Bool) → (a || (b || false)) ≡ false → (a ≡ false) × (b ≡ false)
neither true b e = absurd cc
neither false true e = absurd cc
neither false false e = (refl, refl)

apart : (n y : ℕ) → (n == y) ≡ false → y ≢ n
apart n y e same = false≢true (sym e ∙ ap (λ (m : ℕ). m == y) (sym same) ∙ eq-eqb y y refl)

still_fresh : (known : List ℕ) (n : ℕ) (ys : List ℕ) → AllByRecursion (λ y. has_number known y ≡ false) ys → AllByRecursion (λ y. y ≢ n) ys → AllByRecursion (λ y. has_number (known ++ n ∷ []) y ≡ false) ys
still_fresh known n [] a d = tt
still_fresh known n (y ∷ ys) a d = (one_more known n y ∙ (λ i. a.0 i || (ne_eqb n y (λ e. d.0 (sym e)) i || false)), still_fresh known n ys a.1 d.1)

were_fresh : (known : List ℕ) (n : ℕ) (ys : List ℕ) → AllByRecursion (λ y. has_number (known ++ n ∷ []) y ≡ false) ys → AllByRecursion (λ y. has_number known y ≡ false) ys
were_fresh known n [] a = tt
were_fresh known n (y ∷ ys) a = ((neither (has_number known y) (n == y) (sym (one_more known n y) ∙ a.0)).0, were_fresh known n ys a.1)

all_apart : (known : List ℕ) (n : ℕ) (ys : List ℕ) → AllByRecursion (λ y. has_number (known ++ n ∷ []) y ≡ false) ys → AllByRecursion (λ y. y ≢ n) ys
all_apart known n [] a = tt
all_apart known n (y ∷ ys) a = (apart n y (neither (has_number known y) (n == y) (sym (one_more known n y) ∙ a.0)).1, all_apart known n ys a.1)

one_seen : (known : List ℕ) (n : ℕ) (ys : List ℕ) → has_number known n ≡ false → Fresh known (n ∷ ys) ↔ Fresh (known ++ n ∷ []) ys
one_seen known n ys new = (
  (λ h. (still_fresh known n ys h.0.1 h.1.0, h.1.1)),
  (λ h. ((new, were_fresh known n ys h.0), (all_apart known n ys h.0, h.1))),
)

-- ---- the loop

pub none_held : (seen : BTreeSet ℕ) → seen.keys ≡ [] → HoldsNumbers seen []
none_held seen empty q = ap (λ (ks : List ℕ). list_any (λ k. is_eq (nat_cmp q k)) ks) empty

pub held_more : (old now : BTreeSet ℕ) (xs : List ℕ) (i : ℕ) (added : Bool) → HoldsNumbers old (take i xs) → i < length xs → AddsNumber old now (get_or xs i 0) added → HoldsNumbers now (take (i + 1) xs)
held_more old now xs i added holds lt told = subst (HoldsNumbers now) (sym (take_more xs i 0 lt)) (told (take i xs) holds).1

pub all_held : (seen : BTreeSet ℕ) (xs : List ℕ) (i : ℕ) → HoldsNumbers seen (take i xs) → length xs ≤ i → HoldsNumbers seen xs
all_held seen xs i holds end = subst (HoldsNumbers seen) (take_all i xs end) holds

-- the numbers before a place were added, and all differ if those from there on are fresh
pub record Seen (seen : BTreeSet ℕ) (xs : List ℕ) (i : ℕ) : Type 0 where
  pub holds : HoldsNumbers seen (take i xs)
  pub left : Fresh (take i xs) (drop i xs) ↔ Distinct xs

none_known : (xs : List ℕ) → AllByRecursion (λ y. has_number [] y ≡ false) xs
none_known [] = tt
none_known (x ∷ xs) = (refl, none_known xs)

pub none_seen : (seen : BTreeSet ℕ) (xs : List ℕ) → seen.keys ≡ [] → Seen seen xs 0
none_seen seen xs empty = record { holds = none_held seen empty; left = ((λ h. h.1), (λ d. (none_known xs, d))) }

is_new : (a b : Bool) → a ≡ not b → a ≡ true → b ≡ false
is_new a true e h = absurd (false≢true (sym e ∙ h))
is_new a false e h = refl

is_known : (a b : Bool) → a ≡ not b → a ≡ false → b ≡ true
is_known a true e h = refl
is_known a false e h = absurd (false≢true (sym h ∙ e))

pub seen_more : (old now : BTreeSet ℕ) (xs : List ℕ) (i : ℕ) (added : Bool) → Seen old xs i → i < length xs → AddsNumber old now (get_or xs i 0) added → added ≡ true → Seen now xs (i + 1)
seen_more old now xs i added so lt told fresh =
    let n = get_or xs i 0 in
    let a = told (take i xs) so.holds in
    let more = sym (take_more xs i 0 lt) in
    let less = drop_more xs i 0 lt in
    let one = one_seen (take i xs) n (drop (i + 1) xs) (is_new added (has_number (take i xs) n) a.0 fresh) in
    record {
      holds = held_more old now xs i added so.holds lt told;
      left = subst (λ (known : List ℕ). Fresh known (drop (i + 1) xs) ↔ Distinct xs) more (
        (λ h. so.left.0 (subst (Fresh (take i xs)) (sym less) (one.1 h))),
        (λ d. one.0 (subst (Fresh (take i xs)) less (so.left.1 d))),
      );
    }

pub seen_twice : (old now : BTreeSet ℕ) (xs : List ℕ) (i : ℕ) (added : Bool) → Seen old xs i → i < length xs → AddsNumber old now (get_or xs i 0) added → added ≡ false → IsTrue false ↔ Distinct xs
seen_twice old now xs i added so lt told twice =
    let a = told (take i xs) so.holds in
    let known = is_known added (has_number (take i xs) (get_or xs i 0)) a.0 twice in
    ((λ h. absurd (false≢true h)), (λ d. absurd (false≢true (sym (subst (Fresh (take i xs)) (drop_more xs i 0 lt) (so.left.1 d)).0.0 ∙ known))))

pub all_seen : (seen : BTreeSet ℕ) (xs : List ℕ) (i : ℕ) → Seen seen xs i → length xs ≤ i → IsTrue true ↔ Distinct xs
all_seen seen xs i so end = ((λ h. so.left.0 (subst (Fresh (take i xs)) (sym (none_past xs i end)) (tt, tt))), (λ d. refl))

-- ---- all were given

given_all : (next : ℕ) (xs : List ℕ) → list_all (λ i. nat_lt i next) xs ≡ true → AllByRecursion (λ i. i < next) xs
given_all next [] e = tt
given_all next (x ∷ xs) e = let p = and_parts (nat_lt x next) (list_all (λ i. nat_lt i next) xs) e in (ltb-true x next p.0, given_all next xs p.1)

all_given : (next : ℕ) (xs : List ℕ) → AllByRecursion (λ i. i < next) xs → list_all (λ i. nat_lt i next) xs ≡ true
all_given next [] h = refl
all_given next (x ∷ xs) h = and_from (nat_lt x next) (list_all (λ i. nat_lt i next) xs) (lt-ltb x next h.0) (all_given next xs h.1)

pub not_given : (b : Bool) (next : ℕ) (xs : List ℕ) → b ≡ list_all (λ i. nat_lt i next) xs → b ≡ false → AreOwn next xs → ⊥
not_given b next xs e refuses own = false≢true (sym refuses ∙ e ∙ all_given next xs (recursion_from_All (λ i. i < next) xs own.1))

pub own_so : (b d : Bool) (next : ℕ) (xs : List ℕ) → b ≡ list_all (λ i. nat_lt i next) xs → b ≡ true → (IsTrue d ↔ Distinct xs) → IsTrue d ↔ AreOwn next xs
own_so b d next xs e holds tells = ((λ h. (tells.0 h, All-from_recursion (λ i. i < next) xs (given_all next xs (sym e ∙ holds)))), (λ own. tells.1 own.0))

-- ---- those that live

stored_are : (all : List Account) → flat_map (λ (a : s.Account). identities a.stored) (map account_of all) ≡ flat_map stored_identities all
stored_are [] = refl
stored_are (a ∷ all) = ap (λ (ns : List ℕ). stored_identities a ++ ns) (stored_are all)

pub held_are : (all : List Contract) → flat_map (λ (c : s.Contract). identities c.value) (map contract_of all) ≡ flat_map contract_identities all
held_are [] = refl
held_are (c ∷ all) = ap (λ (ns : List ℕ). contract_identities c ++ ns) (held_are all)

pub live_are : (accounts : List Account) (contracts : List Contract) (next : ℕ) → live (record { accounts = map account_of accounts; contracts = map contract_of contracts; next_identity = next }) ≡ flat_map stored_identities accounts ++ flat_map contract_identities contracts
live_are accounts contracts next = λ i. stored_are accounts i ++ held_are contracts i
