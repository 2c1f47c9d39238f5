-- Rows and entries that are compared one by one.
use Rattle.std.proofs.Common.{◌≡◌, ◌≢◌, ◌<◌, ◌≤◌, ℕ, zero, suc, ◌+◌, ◌==◌, Bool, true, false, ◌&&◌, List, [], ◌∷◌, length, map, drop, get_or, Option, Some, None, option_map, Result, Ok, Err, IfOk, refl, ap, sym, subst, ◌∙◌, arith, add-one, drop-cons, if◌then◌else◌}
use Rattle.std.specs.Prelude.{option_and_then}
use Rattle.std.proofs.lemmas.Bool.{eqb-true, eq-eqb, ne_eqb}
use Rattle.std.proofs.lemmas.List.{drop_all, length-map}
use Rattle.cad_values.specs.Values.{PureValue, Entries, keys, pure_value}
use Rattle.cad_values.specs.declared.value.Value.{Value}
use Rattle.cad_rows.specs.Views.{PlaceView, vacant, taken, as_row, pure_row, pure_place}
use Rattle.cad_rows.specs.declared.tree.Place.{Place}
use Rattle.cad_world.specs.Rows.{is_full}
use Rattle.cad_world.specs.Locations.{key_position}
use Rattle.cad_world.specs.Same.{same_key, equal, equal_elements, all_under, under, is_so}
use Rattle.cad_world.specs.Trees.{keyed, values_in, value_of}
use Rattle.cad_evaluation.specs.Operators.{same}
use Rattle.cad_operators.specs.Heads.{same_place, equal_entries, are_entries, Under}
use Rattle.cad_syntax.proofs.Members.{and_both}

-- ---- elements

pub elements_turn : (p q : PlaceView) (ps qs : List PlaceView) (is : Bool) → Some is ≡ same_place p q
    → equal_elements (values_in (as_row (p ∷ ps))) (values_in (as_row (q ∷ qs))) ≡ (is && equal_elements (values_in (as_row ps)) (values_in (as_row qs)))
elements_turn vacant q ps qs is e = cc
elements_turn (taken l t) vacant ps qs is e = cc
elements_turn (taken l t) (taken m u) ps qs is e = let here : is ≡ same t u = cc in ap (λ (b : Bool). b && equal_elements (values_in (as_row ps)) (values_in (as_row qs))) (sym here)

and_false : (x y : Bool) → false ≡ y → false ≡ (x && y)
and_false true y e = e
and_false false y e = refl

lengths_differ : (ps qs : List PlaceView) → is_full (as_row ps) ≡ true → is_full (as_row qs) ≡ true → length ps ≢ length qs → false ≡ equal_elements (values_in (as_row ps)) (values_in (as_row qs))
lengths_differ [] [] e f other = absurd (other refl)
lengths_differ [] (vacant ∷ qs) e f other = cc
lengths_differ [] (taken m u ∷ qs) e f other = refl
lengths_differ (vacant ∷ ps) qs e f other = cc
lengths_differ (taken l t ∷ ps) [] e f other = refl
lengths_differ (taken l t ∷ ps) (vacant ∷ qs) e f other = cc
lengths_differ (taken l t ∷ ps) (taken m u ∷ qs) e f other = and_false (same t u) _ (lengths_differ ps qs e f (λ same. other (ap suc same)))

pub differ_is : (a b : List Place) → is_full (pure_row a) ≡ true → is_full (pure_row b) ≡ true → length a ≢ length b → false ≡ equal_elements (values_in (pure_row a)) (values_in (pure_row b))
differ_is a b e f other =
    lengths_differ (map pure_place a) (map pure_place b) e f (λ same. other (sym (length-map a pure_place) ∙ same ∙ length-map b pure_place))

-- what is left of two rows, and that with the next two places
abbrev pub Left : ℕ → List Place → List Place → Bool → Type 0
Left i a b all = equal_elements (values_in (pure_row (drop i a))) (values_in (pure_row (drop i b))) ≡ all

pub left_turn : (i : ℕ) (a b : List Place) (all is : Bool) (p q : Place) → i < length a → i < length b → p ≡ get_or a i p → q ≡ get_or b i q
    → Some is ≡ same_place (pure_place p) (pure_place q) → Left i a b all → (is && equal_elements (values_in (pure_row (drop (suc i) a))) (values_in (pure_row (drop (suc i) b)))) ≡ all
left_turn i a b all is p q h k e f same left =
    sym (elements_turn (pure_place p) (pure_place q) (map pure_place (drop (suc i) a)) (map pure_place (drop (suc i) b)) is same)
    ∙ ap (λ (xs : List Place). equal_elements (values_in (pure_row xs)) (values_in (pure_row (q ∷ drop (suc i) b)))) (sym (next a p h e))
    ∙ ap (λ (xs : List Place). equal_elements (values_in (pure_row (drop i a))) (values_in (pure_row xs))) (sym (next b q k f))
    ∙ left
  where
    next : (xs : List Place) (x : Place) → i < length xs → x ≡ get_or xs i x → drop i xs ≡ x ∷ drop (suc i) xs
    next xs x h e = drop-cons xs i x h ∙ ap (λ (y : Place). y ∷ drop (suc i) xs) (sym e)

-- ---- entries

pub entries_turn : (p : PlaceView) (ps : List PlaceView) (k : PureValue) (ks : List PureValue) (fs : Entries) (is : Bool) → is_full (as_row (p ∷ ps)) ≡ true → Under is p k fs
    → all_under (keyed (k ∷ ks) (values_in (as_row (p ∷ ps)))) fs ≡ (is && all_under (keyed ks (values_in (as_row ps))) fs)
entries_turn vacant ps k ks fs is full e = cc
entries_turn (taken l t) ps k ks fs is full e = ap (λ (b : Bool). b && all_under (keyed ks (values_in (as_row ps))) fs) (sym e)

full_left : (i : ℕ) (a : List Place) → is_full (pure_row a) ≡ true → is_full (pure_row (drop i a)) ≡ true
full_left zero a e = rw (drop_none a) e
  where
    drop_none : (xs : List Place) → drop 0 xs ≡ xs
    drop_none [] = refl
    drop_none (x ∷ xs) = refl
full_left (suc i) [] e = e
full_left (suc i) (p ∷ a) e = full_left i a (tail (pure_place p) (map pure_place a) e)
  where
    tail : (p : PlaceView) (ps : List PlaceView) → is_full (as_row (p ∷ ps)) ≡ true → is_full (as_row ps) ≡ true
    tail vacant ps e = cc
    tail (taken l t) ps e = e

pub entries_left_turn : (i : ℕ) (a : List Place) (ks : List Value) (fs : Entries) (all is : Bool) (p : Place) (k : Value) → i < length a → i < length ks → is_full (pure_row a) ≡ true
    → p ≡ get_or a i p → k ≡ get_or ks i k → Under is (pure_place p) (pure_value k) fs
    → all_under (keyed (map pure_value (drop i ks)) (values_in (pure_row (drop i a)))) fs ≡ all
    → (is && all_under (keyed (map pure_value (drop (suc i) ks)) (values_in (pure_row (drop (suc i) a)))) fs) ≡ all
entries_left_turn i a ks fs all is p k h j full e f under_it left =
    let next_place : drop i a ≡ p ∷ drop (suc i) a = drop-cons a i p h ∙ ap (λ (y : Place). y ∷ drop (suc i) a) (sym e) in
    let next_key : drop i ks ≡ k ∷ drop (suc i) ks = drop-cons ks i k j ∙ ap (λ (y : Value). y ∷ drop (suc i) ks) (sym f) in
    let whole = subst (λ (xs : List Place). is_full (pure_row xs) ≡ true) next_place (full_left i a full) in
    sym (entries_turn (pure_place p) (map pure_place (drop (suc i) a)) (pure_value k) (map pure_value (drop (suc i) ks)) fs is whole under_it)
    ∙ ap (λ (xs : List Place). all_under (keyed (map pure_value (k ∷ drop (suc i) ks)) (values_in (pure_row xs))) fs) (sym next_place)
    ∙ ap (λ (xs : List Value). all_under (keyed (map pure_value xs) (values_in (pure_row (drop i a)))) fs) (sym next_key)
    ∙ left

-- ---- what stands under a key

value_at : ℕ → List PlaceView → Option PureValue
value_at i [] = None
value_at zero (vacant ∷ qs) = None
value_at zero (taken m u ∷ qs) = Some (value_of u)
value_at (suc i) (q ∷ qs) = value_at i qs

under_at : (key : PureValue) (ls : List PureValue) (qs : List PlaceView) → length ls ≡ length qs → is_full (as_row qs) ≡ true
    → under key (keyed ls (values_in (as_row qs))) ≡ option_and_then (λ j. value_at j qs) (key_position key ls)
unfolding value_at
under_at key [] [] e full = refl
under_at key [] (q ∷ qs) e full = refl
under_at key (l ∷ ls) [] e full = absurd (omega (arith, e))
under_at key (l ∷ ls) (vacant ∷ qs) e full = cc
under_at key (l ∷ ls) (taken m u ∷ qs) e full = by (same_key key l) (under_at key ls qs (omega (arith, e)) full)
  where
    shifted : (o : Option ℕ) → option_and_then (λ j. value_at j qs) o ≡ option_and_then (λ j. value_at j (taken m u ∷ qs)) (option_map suc o)
    shifted None = refl
    shifted (Some j) = refl

    by : (b : Bool) → under key (keyed ls (values_in (as_row qs))) ≡ option_and_then (λ j. value_at j qs) (key_position key ls)
        → (if b then Some (value_of u) else under key (keyed ls (values_in (as_row qs)))) ≡ option_and_then (λ j. value_at j (taken m u ∷ qs)) (if b then Some 0 else option_map suc (key_position key ls))
    by true h = refl
    by false h = h ∙ shifted (key_position key ls)

place_at : (j : ℕ) (b : List Place) (q : Place) → j < length b → q ≡ get_or b j q → value_at j (map pure_place b) ≡ value_at 0 (pure_place q ∷ [])
unfolding value_at
place_at j [] q h e = absurd (omega arith)
place_at zero (p ∷ b) q h e = rw e (first (pure_place p) (map pure_place b))
  where
    first : (p : PlaceView) (qs : List PlaceView) → value_at 0 (p ∷ qs) ≡ value_at 0 (p ∷ [])
    first vacant qs = refl
    first (taken m u) qs = refl
place_at (suc j) (p ∷ b) q h e = place_at j b q (omega arith) e

-- the key isn't there
pub under_none : (p : PlaceView) (key : PureValue) (ls : List PureValue) (qs : List PlaceView) → length ls ≡ length qs → is_full (as_row qs) ≡ true
    → None ≡ key_position key ls → Under false p key (keyed ls (values_in (as_row qs)))
under_none vacant key ls qs e full none = tt
under_none (taken l t) key ls qs e full none = rw (under_at key ls qs e full, sym none) refl

-- it is
pub under_some : (p : PlaceView) (key : PureValue) (ls : List PureValue) (b : List Place) (j : ℕ) (q : Place) (is : Bool) → length ls ≡ length (map pure_place b) → is_full (pure_row b) ≡ true
    → Some j ≡ key_position key ls → j < length b → q ≡ get_or b j q → Some is ≡ same_place p (pure_place q) → Under is p key (keyed ls (values_in (pure_row b)))
unfolding value_at
under_some vacant key ls b j q is e full some h f same = tt
under_some (taken l t) key ls b j q is e full some h f same =
    rw (under_at key ls (map pure_place b) e full, sym some, place_at j b q h f) (there (pure_place q) same)
  where
    there : (q : PlaceView) → Some is ≡ same_place (taken l t) q → is ≡ is_so (equal (value_of t)) (value_at 0 (q ∷ []))
    there vacant e = cc
    there (taken m u) e = cc

-- ---- the number of entries

count_keys : (ks : List PureValue) (ps : List PlaceView) → length ks ≡ length ps → is_full (as_row ps) ≡ true → length (keys (keyed ks (values_in (as_row ps)))) ≡ length ks
count_keys [] [] e full = refl
count_keys [] (p ∷ ps) e full = refl
count_keys (k ∷ ks) [] e full = absurd (omega (arith, e))
count_keys (k ∷ ks) (vacant ∷ ps) e full = cc
count_keys (k ∷ ks) (taken l t ∷ ps) e full = ap suc (count_keys ks ps (omega (arith, e)) full)

entries_parts : (ks : List PureValue) (ps : List PlaceView) → are_entries ks ps ≡ true → (length ks ≡ length ps) × (is_full (as_row ps) ≡ true)
entries_parts ks ps e = let both = and_both (length ks == length ps) (is_full (as_row ps)) e in (eqb-true (length ks) (length ps) both.0, both.1)

-- with as many entries each, all depends on what stands under the keys
pub entries_all : (ks ls : List PureValue) (a b : List Place) → are_entries ks (map pure_place a) ≡ true → are_entries ls (map pure_place b) ≡ true → length a ≡ length b
    → all_under (keyed ks (values_in (pure_row a))) (keyed ls (values_in (pure_row b))) ≡ equal_entries ks (pure_row a) ls (pure_row b)
entries_all ks ls a b e f same =
    let p = entries_parts ks (map pure_place a) e in
    let q = entries_parts ls (map pure_place b) f in
    let counts : length (keys (keyed ks (values_in (pure_row a)))) ≡ length (keys (keyed ls (values_in (pure_row b)))) =
    count_keys ks (map pure_place a) p.0 p.1 ∙ p.0 ∙ length-map a pure_place ∙ same ∙ sym (length-map b pure_place) ∙ sym q.0 ∙ sym (count_keys ls (map pure_place b) q.0 q.1) in
    ap (λ (x : Bool). x && all_under (keyed ks (values_in (pure_row a))) (keyed ls (values_in (pure_row b)))) (sym (eq-eqb _ _ counts))

pub entries_other : (ks ls : List PureValue) (a b : List Place) → are_entries ks (map pure_place a) ≡ true → are_entries ls (map pure_place b) ≡ true → length a ≢ length b
    → false ≡ equal_entries ks (pure_row a) ls (pure_row b)
entries_other ks ls a b e f other =
    let p = entries_parts ks (map pure_place a) e in
    let q = entries_parts ls (map pure_place b) f in
    let counts : length (keys (keyed ks (values_in (pure_row a)))) ≢ length (keys (keyed ls (values_in (pure_row b)))) =
    λ same. other (sym (length-map a pure_place) ∙ sym p.0 ∙ sym (count_keys ks (map pure_place a) p.0 p.1) ∙ same ∙ count_keys ls (map pure_place b) q.0 q.1 ∙ q.0 ∙ length-map b pure_place) in
    ap (λ (x : Bool). x && all_under (keyed ks (values_in (pure_row a))) (keyed ls (values_in (pure_row b)))) (sym (ne_eqb _ _ counts))

pub entries_next : (i : ℕ) (a : List Place) (ks : List Value) (fs : Entries) (all is : Bool) (p : Place) (k : Value) → i < length a → are_entries (map pure_value ks) (map pure_place a) ≡ true
    → p ≡ get_or a i p → k ≡ get_or ks i k → Under is (pure_place p) (pure_value k) fs → is ≡ true
    → all_under (keyed (map pure_value (drop i ks)) (values_in (pure_row (drop i a)))) fs ≡ all
    → all_under (keyed (map pure_value (drop (i + 1) ks)) (values_in (pure_row (drop (i + 1) a)))) fs ≡ all
entries_next i a ks fs all is p k h whole e f under_it true_it left =
    let parts = entries_parts (map pure_value ks) (map pure_place a) whole in
    let longer : i < length ks = omega (arith, h, parts.0, length-map ks pure_value, length-map a pure_place) in
    let turned = entries_left_turn i a ks fs all is p k h longer parts.1 e f under_it left in
    let so = subst (λ (x : Bool). (x && all_under (keyed (map pure_value (drop (suc i) ks)) (values_in (pure_row (drop (suc i) a)))) fs) ≡ all) true_it turned in
    rw add-one so

pub entries_stop : (i : ℕ) (a : List Place) (ks : List Value) (fs : Entries) (all is : Bool) (p : Place) (k : Value) → i < length a → are_entries (map pure_value ks) (map pure_place a) ≡ true
    → p ≡ get_or a i p → k ≡ get_or ks i k → Under is (pure_place p) (pure_value k) fs → is ≡ false
    → all_under (keyed (map pure_value (drop i ks)) (values_in (pure_row (drop i a)))) fs ≡ all
    → false ≡ all
entries_stop i a ks fs all is p k h whole e f under_it false_it left =
    let parts = entries_parts (map pure_value ks) (map pure_place a) whole in
    let longer : i < length ks = omega (arith, h, parts.0, length-map ks pure_value, length-map a pure_place) in
    let turned = entries_left_turn i a ks fs all is p k h longer parts.1 e f under_it left in
    subst (λ (x : Bool). (x && all_under (keyed (map pure_value (drop (suc i) ks)) (values_in (pure_row (drop (suc i) a)))) fs) ≡ all) false_it turned

pub entries_end : (i : ℕ) (a : List Place) (ks : List Value) (fs : Entries) (all : Bool) → length a ≤ i → are_entries (map pure_value ks) (map pure_place a) ≡ true
    → all_under (keyed (map pure_value (drop i ks)) (values_in (pure_row (drop i a)))) fs ≡ all → true ≡ all
entries_end i a ks fs all h whole left =
    let parts = entries_parts (map pure_value ks) (map pure_place a) whole in
    let shorter : length ks ≤ i = omega (arith, h, parts.0, length-map ks pure_value, length-map a pure_place) in
    subst (λ (xs : List Value). all_under (keyed (map pure_value xs) (values_in (pure_row (drop i a)))) fs ≡ all) (drop_all i ks shorter) left

-- ---- what the program finds under a key

position_below : (key : PureValue) (ls : List PureValue) (j : ℕ) → Some j ≡ key_position key ls → j < length ls
position_below key [] j e = cc
position_below key (l ∷ ls) j e = by (same_key key l) e (λ n f. position_below key ls n f)
  where
    shifted : (o : Option ℕ) → Some j ≡ option_map suc o → ((n : ℕ) → Some n ≡ o → n < length ls) → j < suc (length ls)
    shifted None e h = cc
    shifted (Some n) e h = let is : j ≡ suc n = cc in let low : n < length ls = h n refl in omega (arith, is, low)

    by : (b : Bool) → Some j ≡ (if b then Some 0 else option_map suc (key_position key ls)) → ((n : ℕ) → Some n ≡ key_position key ls → n < length ls) → j < suc (length ls)
    by true e h = let is : j ≡ 0 = cc in omega (arith, is)
    by false e h = shifted (key_position key ls) e h

pub under_found : {E : Type 0} (r : Result Bool E) (p : PlaceView) (key : PureValue) (ls : List PureValue) (b : List Place) (o : Option ℕ) (j : ℕ) (q : Place) → are_entries ls (map pure_place b) ≡ true
    → o ≡ key_position key ls → o ≡ Some j → q ≡ get_or b j q → IfOk r (λ is. Some is ≡ same_place p (pure_place q)) → IfOk r (λ is. Under is p key (keyed ls (values_in (pure_row b))))
under_found (Err error) p key ls b o j q e f g h same = same
under_found (Ok is) p key ls b o j q e f g h same =
    let parts = entries_parts ls (map pure_place b) e in
    let some : Some j ≡ key_position key ls = sym g ∙ f in
    let low = position_below key ls j some in
    let below : j < length b = omega (arith, low, parts.0, length-map b pure_place) in
    under_some p key ls b j q is parts.0 parts.1 some below h same

pub under_missing : (p : PlaceView) (key : PureValue) (ls : List PureValue) (qs : List PlaceView) (o : Option ℕ) → are_entries ls qs ≡ true → o ≡ key_position key ls → o ≡ None → Under false p key (keyed ls (values_in (as_row qs)))
under_missing p key ls qs o e f g = let parts = entries_parts ls qs e in under_none p key ls qs parts.0 parts.1 (sym g ∙ f)
