-- The accounts that a run has: which they are among all, and what changes there.
use Rattle.std.proofs.Common.{◌≡◌, ◌⊎◌, inl, inr, ℕ, zero, suc, ◌+◌, ◌≤◌, ◌<◌, ◌==◌, Bool, true, false, if◌then◌else◌, List, [], ◌∷◌, map, length, get_or, Option, Some, None, option_map, refl, sym, ap, subst, ◌∙◌, true≢false, arith}
use Rattle.std.specs.Prelude.{slice_get, slice_set, nat_le}
use Rattle.std.specs.declared.alloc.Global.{Global}
use Rattle.std.specs.declared.vec.Vec.{Vec}
use Rattle.std.proofs.lemmas.Bool.{cases_lt, leb-false, le-leb, lt-leb, eqb-true, eq-eqb}
use Rattle.std.proofs.lemmas.Option.{slice_get-map, slice_get_within, slice_get_past}
use Rattle.cad_world.specs.Labels.{found_in_accounts}
use Rattle.cad_world.specs.Rows.{Found, found, either}
use Rattle.cad_world.specs.State as s
use Rattle.cad_state.specs.Accounts.{account_of}
use Rattle.cad_state.specs.Parts.{known_in, known_or, among, accounts_from, with_known}
use Rattle.cad_state.specs.Views.{accounts_over}
use Rattle.cad_state.specs.Ways.{is_there, code_in, place_in, account_in, count_in, index_or, index_in, found_in, at_index}
use Rattle.cad_state.specs.declared.state.Account.{Account}
use Rattle.cad_state.specs.declared.state.Accounts.{Accounts}
use Rattle.cad_state.specs.declared.state.Accounts.TheVariants as v
use Rattle.cad_state.specs.declared.state.Known.{Known}

-- ---- which account it is

pub code_known : (ks : List Known) (i : ℕ) → known_in ks i ≡ option_map account_of (code_in ks i)
code_known [] i = refl
code_known (k ∷ ks) i = go (k.index == i) (code_known ks i)
  where
    go : (b : Bool) → known_in ks i ≡ option_map account_of (code_in ks i) → (if b then Some (account_of k.account) else known_in ks i) ≡ option_map account_of (if b then Some k.account else code_in ks i)
    go true rest = refl
    go false rest = rest

pub from_get : (w : List s.Account) (ks : List Known) (i n j : ℕ) → j < n → slice_get (accounts_from w ks i n) j ≡ Some (known_or (among w (i + j)) (known_in ks (i + j)))
from_get w ks i zero j h = absurd (omega (arith, h))
from_get w ks i (suc n) zero h = let e : i ≡ i + 0 = omega arith in λ m. Some (known_or (among w (e m)) (known_in ks (e m)))
from_get w ks i (suc n) (suc j) h =
    let e : suc i + j ≡ i + suc j = omega arith in
    from_get w ks (suc i) n j (omega (arith, h)) ∙ (λ m. Some (known_or (among w (e m)) (known_in ks (e m))))

-- one that the run has stands at its index
pub held_get : (w : List s.Account) (all : Accounts) (i : ℕ) (c : Account) → account_in all i ≡ Some c → slice_get (accounts_over w all) i ≡ Some (account_of c)
unfolding accounts_over
held_get w (v.All all) i c e = slice_get-map account_of all.items i ∙ ap (option_map account_of) e
held_get w (v.Part count known) i c e = go (nat_le count i) refl e
  where
    go : (b : Bool) → nat_le count i ≡ b → (if b then None else code_in known.items i) ≡ Some c → slice_get (with_known w count known.items) i ≡ Some (account_of c)
    go true q d = absurd (true≢false (ap is_there (sym d)))
    go false q d =
        let e : 0 + i ≡ i = omega arith in
        from_get w known.items 0 count i (leb-false count i q)
        ∙ (λ m. Some (known_or (among w (e m)) (known_in known.items (e m))))
        ∙ ap (λ o. Some (known_or (among w i) o)) (code_known known.items i ∙ ap (option_map account_of) d)

-- ---- all that the run has

code_place : (ks : List Known) (i : ℕ) (c : Account) → code_in ks i ≡ Some c → (n : ℕ) × (n < length ks) × ((d : ℕ) → index_or d (slice_get ks n) ≡ i)
code_place [] i c e = absurd (true≢false (ap is_there (sym e)))
code_place (k ∷ ks) i c e = go (k.index == i) refl (code_place ks i c) e
  where
    go : (b : Bool) → (k.index == i) ≡ b → (code_in ks i ≡ Some c → (n : ℕ) × (n < length ks) × ((d : ℕ) → index_or d (slice_get ks n) ≡ i)) → (if b then Some k.account else code_in ks i) ≡ Some c
        → (n : ℕ) × (n < suc (length ks)) × ((d : ℕ) → index_or d (slice_get (k ∷ ks) n) ≡ i)
    go true q rest d = (0, omega arith, λ x. eqb-true k.index i q)
    go false q rest d = let found = rest d in (suc found.0, omega (arith, found.1), found.2)

held_place : (all : Accounts) (i : ℕ) (c : Account) → account_in all i ≡ Some c → (n : ℕ) × (n < count_in all) × (index_in all n ≡ i)
held_place (v.All all) i c e = (i, slice_get_within all.items i c e, refl)
held_place (v.Part count known) i c e = go (nat_le count i) e
  where
    go : (b : Bool) → (if b then None else code_in known.items i) ≡ Some c → (n : ℕ) × (n < length known.items) × (index_in (v.Part count known) n ≡ i)
    go true d = absurd (true≢false (ap is_there (sym d)))
    go false d = let at = code_place known.items i c d in (at.0, at.1, at.2 at.0)

pub each_held : (p : ℕ) (all : Accounts) (n : ℕ) → count_in all ≤ n
    → ((j : ℕ) → j < n → found_in p (option_map (λ a. a.stored.items) (account_in all (index_in all j))) ≡ None)
    → (i : ℕ) → found_in p (option_map (λ a. a.stored.items) (account_in all i)) ≡ None
each_held p all n h none i = go (account_in all i) refl
  where
    go : (o : Option Account) → account_in all i ≡ o → found_in p (option_map (λ a. a.stored.items) (account_in all i)) ≡ None
    go None q = ap (λ o. found_in p (option_map (λ a. a.stored.items) o)) q
    go (Some c) q =
        let at = held_place all i c q in
        subst (λ k. found_in p (option_map (λ a. a.stored.items) (account_in all k)) ≡ None) at.2 (none at.0 (omega (arith, at.1, h)))

pub one_more : {P : ℕ → Type 0} (i j : ℕ) → j ≡ suc i → P i → ((k : ℕ) → k < i → P k) → (k : ℕ) → k < j → P k
one_more {P} i j e this before k h = go (cases_lt k i)
  where
    go : (k < i) ⊎ (i ≤ k) → P k
    go (inl below) = before k below
    go (inr above) = let same : i ≡ k = omega (arith, e, h, above) in subst P same this

-- ---- nothing is found in them

pub either_none : (a b : Option Found) → either a b ≡ None → (a ≡ None) × (b ≡ None)
either_none None b e = (refl, e)
either_none (Some f) b e = absurd (true≢false (ap is_there e))

among_none : (p : ℕ) (w : List s.Account) (j : ℕ) → found_in_accounts p w ≡ None → found p (among w j).stored ≡ None
among_none p [] j e = refl
among_none p (a ∷ w) zero e = (either_none (found p a.stored) (found_in_accounts p w) e).0
among_none p (a ∷ w) (suc j) e = among_none p w j (either_none (found p a.stored) (found_in_accounts p w) e).1

all_none : (p : ℕ) (all : List Account) → ((i : ℕ) → found_in p (option_map (λ a. a.stored.items) (slice_get all i)) ≡ None) → found_in_accounts p (map account_of all) ≡ None
all_none p [] none = refl
all_none p (a ∷ all) none = λ i. either (none 0 i) (all_none p all (λ k. none (suc k)) i)

from_none : (p : ℕ) (w : List s.Account) (ks : List Known) (i n : ℕ) → ((j : ℕ) → j < i + n → found p (known_or (among w j) (known_in ks j)).stored ≡ None) → found_in_accounts p (accounts_from w ks i n) ≡ None
from_none p w ks i zero none = refl
from_none p w ks i (suc n) none = λ m. either (none i (omega arith) m) (from_none p w ks (suc i) n (λ j h. none j (omega (arith, h))) m)

pub not_held : (p : ℕ) (w : List s.Account) (all : Accounts) → found_in_accounts p w ≡ None → ((i : ℕ) → found_in p (option_map (λ a. a.stored.items) (account_in all i)) ≡ None)
    → found_in_accounts p (accounts_over w all) ≡ None
unfolding accounts_over
not_held p w (v.All all) e none = all_none p all.items none
not_held p w (v.Part count known) e none = from_none p w known.items 0 count (λ j h. each j (omega (arith, h)))
  where
    go : (j : ℕ) → j < count → (o : Option Account) → code_in known.items j ≡ o → found_in p (option_map (λ a. a.stored.items) o) ≡ None → found p (known_or (among w j) (option_map account_of o)).stored ≡ None
    go j h None q d = among_none p w j e
    go j h (Some c) q d = d

    each : (j : ℕ) → j < count → found p (known_or (among w j) (known_in known.items j)).stored ≡ None
    each j h =
        ap (λ o. found p (known_or (among w j) o).stored) (code_known known.items j)
        ∙ go j h (code_in known.items j) refl
        (ap (λ b. found_in p (option_map (λ a. a.stored.items) (if b then None else code_in known.items j))) (sym (lt-leb count j h)) ∙ none j)

-- ---- one of those that are known changes

abbrev or_number : ℕ → Option ℕ → ℕ
or_number n None = n
or_number n (Some m) = m

pub place_code : (ks : List Known) (i n : ℕ) (old : Known) → place_in ks i ≡ Some n → old ≡ get_or ks n old → (code_in ks i ≡ Some old.account) × (old.index ≡ i)
place_code [] i n old e is = absurd (true≢false (ap is_there (sym e)))
place_code (k ∷ ks) i n old e is = go (k.index == i) refl (λ m. place_code ks i m old) e
  where
    next : (o : Option ℕ) → place_in ks i ≡ o → ((m : ℕ) → place_in ks i ≡ Some m → old ≡ get_or ks m old → (code_in ks i ≡ Some old.account) × (old.index ≡ i)) → option_map suc o ≡ Some n
        → (code_in ks i ≡ Some old.account) × (old.index ≡ i)
    next None q rest d = absurd (true≢false (ap is_there (sym d)))
    next (Some m) q rest d = let at : n ≡ suc m = sym (ap (or_number n) d) in rest m q (is ∙ ap (λ j. get_or (k ∷ ks) j old) at)

    go : (b : Bool) → (k.index == i) ≡ b → ((m : ℕ) → place_in ks i ≡ Some m → old ≡ get_or ks m old → (code_in ks i ≡ Some old.account) × (old.index ≡ i))
        → (if b then Some 0 else option_map suc (place_in ks i)) ≡ Some n → ((if b then Some k.account else code_in ks i) ≡ Some old.account) × (old.index ≡ i)
    go true q rest d =
        let at : n ≡ 0 = sym (ap (or_number n) d) in
        let same : old ≡ k = is ∙ ap (λ j. get_or (k ∷ ks) j old) at in
        (ap (λ (x : Known). Some x.account) (sym same), ap (λ (x : Known). x.index) same ∙ eqb-true k.index i q)
    go false q rest d = next (place_in ks i) refl rest d

pub place_none : (ks : List Known) (i : ℕ) → place_in ks i ≡ None → code_in ks i ≡ None
place_none [] i e = refl
place_none (k ∷ ks) i e = go (k.index == i) (place_none ks i) e
  where
    next : (o : Option ℕ) → place_in ks i ≡ o → (place_in ks i ≡ None → code_in ks i ≡ None) → option_map suc o ≡ None → code_in ks i ≡ None
    next None q rest d = rest q
    next (Some m) q rest d = absurd (true≢false (ap is_there d))

    go : (b : Bool) → (place_in ks i ≡ None → code_in ks i ≡ None) → (if b then Some 0 else option_map suc (place_in ks i)) ≡ None → (if b then Some k.account else code_in ks i) ≡ None
    go true rest d = absurd (true≢false (ap is_there d))
    go false rest d = next (place_in ks i) refl rest d

chosen : {A : Type 0} (b : Bool) (x y z : A) → (if b then x else z) ≡ (if b then x else (if b then y else z))
chosen true x y z = refl
chosen false x y z = refl

-- what is known of each index then
known_set : (ks : List Known) (i n : ℕ) (new : Known) (j : ℕ) → place_in ks i ≡ Some n → new.index ≡ i → code_in (slice_set ks n new) j ≡ (if i == j then Some new.account else code_in ks j)
known_set [] i n new j e is = absurd (true≢false (ap is_there (sym e)))
known_set (k ∷ ks) i n new j e is = go (k.index == i) refl (λ m q. known_set ks i m new j q is) e
  where
    other : (b : Bool) → (i == j) ≡ b → (k.index == i) ≡ false
        → (if k.index == j then Some k.account else (if b then Some new.account else code_in ks j)) ≡ (if b then Some new.account else (if k.index == j then Some k.account else code_in ks j))
    other true d q =
        let differ : (k.index == j) ≡ false = ap (λ m. k.index == m) (sym (eqb-true i j d)) ∙ q in
        ap (λ b. if b then Some k.account else Some new.account) differ
    other false d q = refl

    next : (o : Option ℕ) → place_in ks i ≡ o → ((m : ℕ) → place_in ks i ≡ Some m → code_in (slice_set ks m new) j ≡ (if i == j then Some new.account else code_in ks j)) → option_map suc o ≡ Some n → (k.index == i) ≡ false
        → code_in (slice_set (k ∷ ks) n new) j ≡ (if i == j then Some new.account else (if k.index == j then Some k.account else code_in ks j))
    next None q rest d f = absurd (true≢false (ap is_there (sym d)))
    next (Some m) q rest d f =
        ap (λ l. code_in (slice_set (k ∷ ks) l new) j) (sym (ap (or_number n) d))
        ∙ ap (λ o. if k.index == j then Some k.account else o) (rest m q)
        ∙ other (i == j) refl f

    go : (b : Bool) → (k.index == i) ≡ b → ((m : ℕ) → place_in ks i ≡ Some m → code_in (slice_set ks m new) j ≡ (if i == j then Some new.account else code_in ks j)) → (if b then Some 0 else option_map suc (place_in ks i)) ≡ Some n
        → code_in (slice_set (k ∷ ks) n new) j ≡ (if i == j then Some new.account else (if k.index == j then Some k.account else code_in ks j))
    go true q rest d =
        ap (λ l. code_in (slice_set (k ∷ ks) l new) j) (sym (ap (or_number n) d))
        ∙ ap (λ l. if l == j then Some new.account else code_in ks j) is
        ∙ chosen (i == j) (Some new.account) (Some k.account) (code_in ks j)
        ∙ ap (λ l. if i == j then Some new.account else (if l == j then Some k.account else code_in ks j)) (sym (eqb-true k.index i q))
    go false q rest d = next (place_in ks i) refl rest d q

same_from : (w : List s.Account) (ks js : List Known) (i n : ℕ) → ((j : ℕ) → i ≤ j → known_in js j ≡ known_in ks j) → accounts_from w js i n ≡ accounts_from w ks i n
same_from w ks js i zero same = refl
same_from w ks js i (suc n) same = λ m. known_or (among w i) (same i (omega arith) m) ∷ same_from w ks js (suc i) n (λ j h. same j (omega (arith, h))) m

from_set : (w : List s.Account) (ks js : List Known) (h : s.Account → s.Account) (a : s.Account) (i : ℕ) → known_in ks i ≡ Some a → known_in js i ≡ Some (h a) → ((j : ℕ) → (j ≡ i → ⊥) → known_in js j ≡ known_in ks j)
    → (begin j n : ℕ) → i ≡ begin + j → j < n → accounts_from w js begin n ≡ at_index j h (accounts_from w ks begin n)
from_set w ks js h a i old new same begin j zero e l = absurd (omega (arith, l))
from_set w ks js h a i old new same begin zero (suc n) e l =
    let here : begin ≡ i = omega (arith, e) in
    let first : known_or (among w begin) (known_in js begin) ≡ h (known_or (among w begin) (known_in ks begin)) =
    ap (λ m. known_or (among w m) (known_in js m)) here ∙ ap (known_or (among w i)) new ∙ ap (λ o. h (known_or (among w i) o)) (sym old) ∙ ap (λ m. h (known_or (among w m) (known_in ks m))) (sym here) in
    λ m. first m ∷ same_from w ks js (suc begin) n (λ k above. same k (λ is. absurd (omega (arith, is, above, e)))) m
from_set w ks js h a i old new same begin (suc j) (suc n) e l =
    λ m. known_or (among w begin) (same begin (λ is. absurd (omega (arith, is, e))) m) ∷ from_set w ks js h a i old new same (suc begin) j n (omega (arith, e)) (omega (arith, l)) m

not_equal : (i j : ℕ) → (j ≡ i → ⊥) → (i == j) ≡ false
not_equal i j differ = go (i == j) refl
  where
    go : (b : Bool) → (i == j) ≡ b → b ≡ false
    go false q = refl
    go true q = absurd (differ (sym (eqb-true i j q)))

pub known_written : (w : List s.Account) (ks : List Known) (count i n : ℕ) (h : s.Account → s.Account) (old new : Known) → place_in ks i ≡ Some n → old ≡ get_or ks n old → new.index ≡ old.index
    → account_of new.account ≡ h (account_of old.account) → i < count → with_known w count (slice_set ks n new) ≡ at_index i h (with_known w count ks)
known_written w ks count i n h old new e is kept change below =
    let found = place_code ks i n old e is in
    let set : (j : ℕ) → code_in (slice_set ks n new) j ≡ (if i == j then Some new.account else code_in ks j) = λ j. known_set ks i n new j e (kept ∙ found.1) in
    let at_old : known_in ks i ≡ Some (account_of old.account) = code_known ks i ∙ ap (option_map account_of) found.0 in
    let at_new : known_in (slice_set ks n new) i ≡ Some (h (account_of old.account)) =
    code_known (slice_set ks n new) i ∙ ap (option_map account_of) (set i ∙ ap (λ b. if b then Some new.account else code_in ks i) (eq-eqb i i refl)) ∙ ap Some change in
    let others : (j : ℕ) → (j ≡ i → ⊥) → known_in (slice_set ks n new) j ≡ known_in ks j = λ j differ.
    code_known (slice_set ks n new) j ∙ ap (option_map account_of) (set j ∙ ap (λ b. if b then Some new.account else code_in ks j) (not_equal i j differ)) ∙ sym (code_known ks j) in
    from_set w ks (slice_set ks n new) h (account_of old.account) i at_old at_new others 0 i count (omega arith) below

-- ---- one that the run has changes

-- among all
pub all_written : (w : List s.Account) (was : Accounts) (all new : Vec Account Global) (i : ℕ) (h : s.Account → s.Account) → was ≡ v.All all → map account_of new.items ≡ at_index i h (map account_of all.items)
    → accounts_over w (v.All new) ≡ at_index i h (accounts_over w was)
unfolding accounts_over
all_written w was all new i h is e = e ∙ ap (λ x. at_index i h (accounts_over w x)) (sym is)

-- among those that are known
pub part_written : (w : List s.Account) (was : Accounts) (count : ℕ) (all new : Vec Known Global) (i n : ℕ) (h : s.Account → s.Account) (old one : Known) → was ≡ v.Part count all → place_in all.items i ≡ Some n
    → old ≡ get_or all.items n old → new.items ≡ slice_set all.items n one → one.index ≡ old.index → account_of one.account ≡ h (account_of old.account) → i < count
    → accounts_over w (v.Part count new) ≡ at_index i h (accounts_over w was)
unfolding accounts_over
part_written w was count all new i n h old one is e at set kept change below =
    ap (with_known w count) set ∙ known_written w all.items count i n h old one e at kept change below ∙ ap (λ x. at_index i h (accounts_over w x)) (sym is)

-- it is the one that was there
pub all_there : (was : Accounts) (all : Vec Account Global) (i : ℕ) (a : Account) → was ≡ v.All all → slice_get all.items i ≡ Some a → account_in was i ≡ Some a
all_there was all i a is e = ap (λ x. account_in x i) is ∙ e

pub all_nowhere : (was : Accounts) (all : Vec Account Global) (i : ℕ) → was ≡ v.All all → length all.items ≤ i → account_in was i ≡ None
all_nowhere was all i is h = ap (λ x. account_in x i) is ∙ slice_get_past all.items i h

pub part_there : (was : Accounts) (count : ℕ) (all : Vec Known Global) (i : ℕ) (a : Account) → was ≡ v.Part count all → i < count → code_in all.items i ≡ Some a → account_in was i ≡ Some a
part_there was count all i a is below e = ap (λ x. account_in x i) is ∙ ap (λ b. if b then None else code_in all.items i) (lt-leb count i below) ∙ e

pub part_nowhere : (was : Accounts) (count : ℕ) (all : Vec Known Global) (i : ℕ) → was ≡ v.Part count all → i < count → place_in all.items i ≡ None → account_in was i ≡ None
part_nowhere was count all i is below e = ap (λ x. account_in x i) is ∙ ap (λ b. if b then None else code_in all.items i) (lt-leb count i below) ∙ place_none all.items i e

pub part_outside : (was : Accounts) (count : ℕ) (all : Vec Known Global) (i : ℕ) → was ≡ v.Part count all → count ≤ i → account_in was i ≡ None
part_outside was count all i is outside = ap (λ x. account_in x i) is ∙ ap (λ b. if b then None else code_in all.items i) (le-leb count i outside)

-- and the one that is there then
set_there : (xs : List Account) (i : ℕ) (a : Account) → i < length xs → slice_get (slice_set xs i a) i ≡ Some a
set_there [] i a h = absurd (omega (arith, h))
set_there (x ∷ xs) zero a h = refl
set_there (x ∷ xs) (suc i) a h = set_there xs i a (omega (arith, h))

pub all_set : (all new : Vec Account Global) (i : ℕ) (a : Account) → new.items ≡ slice_set all.items i a → i < length all.items → account_in (v.All new) i ≡ Some a
all_set all new i a set h = ap (λ xs. slice_get xs i) set ∙ set_there all.items i a h

pub part_set : (count : ℕ) (all new : Vec Known Global) (i n : ℕ) (old one : Known) → place_in all.items i ≡ Some n → old ≡ get_or all.items n old → new.items ≡ slice_set all.items n one → one.index ≡ old.index → i < count
    → account_in (v.Part count new) i ≡ Some one.account
part_set count all new i n old one e at set kept below =
    let found = place_code all.items i n old e at in
    ap (λ b. if b then None else code_in new.items i) (lt-leb count i below)
    ∙ ap (λ xs. code_in xs i) set
    ∙ known_set all.items i n one i e (kept ∙ found.1)
    ∙ ap (λ b. if b then Some one.account else code_in all.items i) (eq-eqb i i refl)
