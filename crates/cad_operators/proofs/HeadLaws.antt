-- What a head says is so.
use Rattle.std.proofs.Common.{◌≡◌, ◌≢◌, ◌≤◌, ℕ, zero, suc, Bool, true, false, List, [], ◌∷◌, length, map, get_or, Option, None, Result, Ok, Err, IfOk, refl, ap, sym, subst, ◌∙◌, arith}
use Rattle.std.proofs.lemmas.List.{length-map}
use Rattle.cad_syntax.specs.declared.num.Num.{Num}
use Rattle.cad_syntax.specs.declared.text.Name.{Name}
use Rattle.cad_syntax.specs.declared.type_id.TypeId.{TypeId}
use Rattle.cad_syntax.specs.Types.{PureType}
use Rattle.cad_values.specs.Values.{PureValue, nil, some, Values, no_values, values, Fields, no_fields, fields, Entries}
use Rattle.cad_values.specs.Values as v
use Rattle.cad_rows.specs.Views.{PlaceView, vacant, taken, as_row, pure_row, pure_place}
use Rattle.cad_rows.specs.declared.tree.Place.{Place}
use Rattle.cad_world.specs.Rows.{NodeShape, plain, link, array, dictionary, composite, Row, Tree, is_full}
use Rattle.cad_world.specs.Same.{same_key, equal}
use Rattle.cad_world.specs.Trees.{in_optionals, shaped, keyed, values_in, named_values, value_of}
use Rattle.cad_evaluation.specs.Numbers.{number_in, number_in_value}
use Rattle.cad_evaluation.specs.Operators.{same}
use Rattle.cad_keys.specs.Sameness.{case_number, number_in_key, same_as_case}
use Rattle.cad_operators.specs.Heads.{is_nil, is_some_value, is_composite, is_parted, is_lean_value, is_lean, keys_in, head, Says, IsHead, IsNumberThere}
use Rattle.cad_operators.specs.declared.heads.Head.{Head}
use Rattle.cad_operators.specs.declared.heads.Head.TheVariants as h
use Rattle.cad_keys.proofs.Tests.{two_composites, composite_key}

-- ---- values without parts

pub nil_equal : (x y : PureValue) → is_nil x ≡ true → is_nil y ≡ equal x y
nil_equal nil nil e = refl
nil_equal nil y e = refl
nil_equal x y e = cc

pub lean_equal : (x y : PureValue) → is_lean_value x ≡ true → is_nil x ≡ false → equal x y ≡ same_key x y
lean_equal nil y e f = cc
lean_equal (some x) y e f = cc
lean_equal (v.array t vs) y e f = cc
lean_equal (v.dictionary k t es) y e f = cc
lean_equal (v.composite id n fs) y e f = cc
lean_equal x y e f = refl

-- they are no node with parts, and no reference to one
lean_link : (x : PureValue) (w : PureValue) → is_lean_value x ≡ true → is_parted w ≡ true → false ≡ equal x w
lean_link (some x) w e f = cc
lean_link (v.array t vs) w e f = cc
lean_link (v.dictionary k t es) w e f = cc
lean_link (v.composite id n fs) w e f = cc
lean_link v.void (v.array t vs) e f = refl
lean_link v.void (v.dictionary k t es) e f = refl
lean_link v.void (v.composite id n fs) e f = refl
lean_link v.void (v.reference a t to) e f = refl
lean_link v.void _ e f = cc
lean_link nil (v.array t vs) e f = refl
lean_link nil (v.dictionary k t es) e f = refl
lean_link nil (v.composite id n fs) e f = refl
lean_link nil (v.reference a t to) e f = refl
lean_link nil _ e f = cc
lean_link (v.bool b) (v.array t vs) e f = refl
lean_link (v.bool b) (v.dictionary k t es) e f = refl
lean_link (v.bool b) (v.composite id n fs) e f = refl
lean_link (v.bool b) (v.reference a t to) e f = refl
lean_link (v.bool b) _ e f = cc
lean_link (v.number b) (v.array t vs) e f = refl
lean_link (v.number b) (v.dictionary k t es) e f = refl
lean_link (v.number b) (v.composite id n fs) e f = refl
lean_link (v.number b) (v.reference a t to) e f = refl
lean_link (v.number b) _ e f = cc
lean_link (v.string b) (v.array t vs) e f = refl
lean_link (v.string b) (v.dictionary k t es) e f = refl
lean_link (v.string b) (v.composite id n fs) e f = refl
lean_link (v.string b) (v.reference a t to) e f = refl
lean_link (v.string b) _ e f = cc
lean_link (v.character b) (v.array t vs) e f = refl
lean_link (v.character b) (v.dictionary k t es) e f = refl
lean_link (v.character b) (v.composite id n fs) e f = refl
lean_link (v.character b) (v.reference a t to) e f = refl
lean_link (v.character b) _ e f = cc
lean_link (v.address b) (v.array t vs) e f = refl
lean_link (v.address b) (v.dictionary k t es) e f = refl
lean_link (v.address b) (v.composite id n fs) e f = refl
lean_link (v.address b) (v.reference a t to) e f = refl
lean_link (v.address b) _ e f = cc
lean_link (v.path b) (v.array t vs) e f = refl
lean_link (v.path b) (v.dictionary k t es) e f = refl
lean_link (v.path b) (v.composite id n fs) e f = refl
lean_link (v.path b) (v.reference a t to) e f = refl
lean_link (v.path b) _ e f = cc
lean_link (v.meta b) (v.array t vs) e f = refl
lean_link (v.meta b) (v.dictionary k t es) e f = refl
lean_link (v.meta b) (v.composite id n fs) e f = refl
lean_link (v.meta b) (v.reference a t to) e f = refl
lean_link (v.meta b) _ e f = cc
lean_link (v.capability b i u) (v.array t vs) e f = refl
lean_link (v.capability b i u) (v.dictionary k t es) e f = refl
lean_link (v.capability b i u) (v.composite id n fs) e f = refl
lean_link (v.capability b i u) (v.reference a t to) e f = refl
lean_link (v.capability b i u) _ e f = cc
lean_link (v.reference b i u) (v.array t vs) e f = refl
lean_link (v.reference b i u) (v.dictionary k t es) e f = refl
lean_link (v.reference b i u) (v.composite id n fs) e f = refl
lean_link (v.reference b i u) (v.reference a t to) e f = refl
lean_link (v.reference b i u) _ e f = cc

-- a composite is no other value
composite_apart : (x : TypeId) (i : ℕ) (f : Fields) (w : PureValue) → is_composite w ≡ false → false ≡ equal (v.composite x i f) w
composite_apart x i f (v.composite y j g) e = cc
composite_apart x i f w e = sym (composite_key x i f w ∙ no_case x (case_number f) w e)
  where
    no_case : (x : TypeId) (n : Option Num) (w : PureValue) → is_composite w ≡ false → same_as_case x n w ≡ false
    no_case x n (v.composite y j g) e = cc
    no_case x n w e = refl

lean_no_composite : (y : PureValue) → is_lean_value y ≡ true → is_composite y ≡ false
lean_no_composite (v.composite y j g) e = cc
lean_no_composite y e = refl

lean_no_array : (t : PureType) (vs : Values) (y : PureValue) → is_lean_value y ≡ true → false ≡ equal (v.array t vs) y
lean_no_array t vs (v.array u ws) e = cc
lean_no_array t vs y e = refl

lean_no_dictionary : (k t : PureType) (es : Entries) (y : PureValue) → is_lean_value y ≡ true → false ≡ equal (v.dictionary k t es) y
lean_no_dictionary k t es (v.dictionary l u fs) e = cc
lean_no_dictionary k t es y e = refl

-- ---- nodes in equally many optionals

head_says : (s : NodeShape) (r : Row) (z : NodeShape) (q : Row) → is_lean s ≡ true → is_lean z ≡ true → Says (head s r z q) (keys_in s) r (keys_in z) q (equal (shaped s (values_in r)) (shaped z (values_in q)))
head_says (plain x) r (plain y) q e f = refl
head_says (plain x) r (link a l n) q e f = lean_link x (shaped (link a l n) (values_in q)) e refl
head_says (plain x) r (array t) q e f = lean_link x (shaped (array t) (values_in q)) e refl
head_says (plain x) r (dictionary k t ks) q e f = lean_link x (shaped (dictionary k t ks) (values_in q)) e refl
head_says (plain x) r (composite y j ms) q e f = lean_link x (shaped (composite y j ms) (values_in q)) e refl
head_says (link a l n) r z q e f = refl
head_says (array t) r (array u) q e f = refl
head_says (array t) r (plain y) q e f = lean_no_array t (values_in r) y f
head_says (array t) r (link a l n) q e f = refl
head_says (array t) r (dictionary k u ks) q e f = refl
head_says (array t) r (composite y j ms) q e f = refl
head_says (dictionary k t ks) r (dictionary l u ls) q e f = refl
head_says (dictionary k t ks) r (plain y) q e f = lean_no_dictionary k t (keyed ks (values_in r)) y f
head_says (dictionary k t ks) r (link a l n) q e f = refl
head_says (dictionary k t ks) r (array u) q e f = refl
head_says (dictionary k t ks) r (composite y j ms) q e f = refl
head_says (composite x i ns) r (composite y j ms) q e f = sym (two_composites x y i j (named_values ns (values_in r)) (named_values ms (values_in q)))
head_says (composite x i ns) r (plain y) q e f = composite_apart x i (named_values ns (values_in r)) y (lean_no_composite y f)
head_says (composite x i ns) r (link a l n) q e f = composite_apart x i (named_values ns (values_in r)) (shaped (link a l n) (values_in q)) refl
head_says (composite x i ns) r (array t) q e f = composite_apart x i (named_values ns (values_in r)) (shaped (array t) (values_in q)) refl
head_says (composite x i ns) r (dictionary k t ks) q e f = composite_apart x i (named_values ns (values_in r)) (shaped (dictionary k t ks) (values_in q)) refl

under_optionals : (n : ℕ) (x y : PureValue) → equal x y ≡ equal (in_optionals n x) (in_optionals n y)
under_optionals zero x y = refl
under_optionals (suc n) x y = under_optionals n x y

same_inside : (n m : ℕ) (x y : PureValue) → n ≡ m → equal x y ≡ equal (in_optionals n x) (in_optionals m y)
same_inside n m x y e = under_optionals n x y ∙ ap (λ (k : ℕ). equal (in_optionals n x) (in_optionals k y)) e

pub head_is : (a b : Tree) → a.optionals ≡ b.optionals → is_lean a.shape ≡ true → is_lean b.shape ≡ true → IsHead (head a.shape a.parts b.shape b.parts) a b
head_is a b e f g =
    subst (λ (x : Bool). Says (head a.shape a.parts b.shape b.parts) (keys_in a.shape) a.parts (keys_in b.shape) b.parts x)
    (same_inside a.optionals b.optionals (shaped a.shape (values_in a.parts)) (shaped b.shape (values_in b.parts)) e)
    (head_says a.shape a.parts b.shape b.parts f g)

-- ---- nodes in more optionals than another

lean_content : (s : NodeShape) (vs : Values) → is_lean s ≡ true → is_some_value (shaped s vs) ≡ false
lean_content (plain (some x)) vs e = cc
lean_content (plain x) vs e = refl
lean_content (link a l n) vs e = refl
lean_content (array t) vs e = refl
lean_content (dictionary k t ks) vs e = refl
lean_content (composite id i ns) vs e = refl

no_content : (x y : PureValue) → is_some_value x ≡ false → false ≡ equal x (some y)
no_content (some x) y e = cc
no_content nil y e = refl
no_content (v.array t vs) y e = refl
no_content (v.dictionary k t es) y e = refl
no_content (v.composite id n fs) y e = composite_apart id n fs (some y) refl
no_content x y e = refl

content_apart : (x y : PureValue) → is_some_value y ≡ false → false ≡ equal (some x) y
content_apart x (some y) e = cc
content_apart x y e = refl

apart : (n m : ℕ) (x y : PureValue) → is_some_value x ≡ false → is_some_value y ≡ false → n ≢ m → false ≡ equal (in_optionals n x) (in_optionals m y)
apart zero zero x y e f other = absurd (other refl)
apart zero (suc m) x y e f other = no_content x (in_optionals m y) e
apart (suc n) zero x y e f other = content_apart (in_optionals n x) y f
apart (suc n) (suc m) x y e f other = apart n m x y e f (λ same. other (ap suc same))

pub apart_is : (a b : Tree) → a.optionals ≢ b.optionals → is_lean a.shape ≡ true → is_lean b.shape ≡ true → IsHead (h.Told false) a b
apart_is a b other f g = apart a.optionals b.optionals _ _ (lean_content a.shape (values_in a.parts) f) (lean_content b.shape (values_in b.parts) g) other

-- ---- cases of enums

one_number : (x : PureValue) → number_in_value x ≡ number_in_key x
one_number (v.number x) = refl
one_number _ = refl

number_in_is : (n : ℕ) (s : NodeShape) (r : Row) → number_in (record { optionals = n; shape = s; parts = r }) ≡ number_in_key (in_optionals n (shaped s (values_in r)))
number_in_is zero (plain x) r = one_number x
number_in_is zero (link a l n) r = refl
number_in_is zero (array t) r = refl
number_in_is zero (dictionary k t ks) r = refl
number_in_is zero (composite id i ns) r = refl
number_in_is (suc n) s r = refl

pub number_there : (t : Tree) → number_in t ≡ number_in_key (value_of t)
number_there t = number_in_is t.optionals t.shape t.parts

pub case_of_one : {E : Type 0} (names : List Name) (places : List Place) (p : Place) (r : Result (Option Num) E) → length names ≡ 1 → length places ≡ 1 → p ≡ get_or places 0 p
    → IfOk r (λ o. IsNumberThere o (pure_place p)) → IfOk r (λ o. o ≡ case_number (named_values names (values_in (pure_row places))))
case_of_one [] places p r e f g there = absurd (omega (arith, e))
case_of_one (n ∷ m ∷ ns) places p r e f g there = absurd (omega (arith, e))
case_of_one (n ∷ []) [] p r e f g there = absurd (omega (arith, f))
case_of_one (n ∷ []) (q ∷ u ∷ qs) p r e f g there = absurd (omega (arith, f))
case_of_one (n ∷ []) (q ∷ []) p (Err error) e f g there = there
case_of_one (n ∷ []) (q ∷ []) p (Ok o) e f g there = one n (pure_place q) o (subst (λ (x : Place). IsNumberThere o (pure_place x)) g there)
  where
    one : (n : Name) (p : PlaceView) (o : Option Num) → IsNumberThere o p → o ≡ case_number (named_values (n ∷ []) (values_in (as_row (p ∷ []))))
    one n vacant o there = absurd there
    one n (taken l t) o there = there

two_fields : (names : List Name) (ps : List PlaceView) → 2 ≤ length names → 2 ≤ length ps → is_full (as_row ps) ≡ true → None ≡ case_number (named_values names (values_in (as_row ps)))
two_fields [] ps e f full = absurd (omega arith)
two_fields (n ∷ []) ps e f full = absurd (omega arith)
two_fields (n ∷ m ∷ ns) [] e f full = absurd (omega arith)
two_fields (n ∷ m ∷ ns) (p ∷ []) e f full = absurd (omega arith)
two_fields (n ∷ m ∷ ns) (vacant ∷ q ∷ ps) e f full = cc
two_fields (n ∷ m ∷ ns) (taken l t ∷ vacant ∷ ps) e f full = cc
two_fields (n ∷ m ∷ ns) (taken l t ∷ taken k u ∷ ps) e f full = refl

pub case_of_two : (names : List Name) (places : List Place) → 2 ≤ length names → 2 ≤ length places → is_full (pure_row places) ≡ true → None ≡ case_number (named_values names (values_in (pure_row places)))
case_of_two names places e f full = two_fields names (map pure_place places) e (rw (length-map places pure_place) f) full

-- ---- what the program found

pub apart_at : (a b : Tree) (n m : ℕ) (s z : NodeShape) (f g : Bool) → n ≡ a.optionals → m ≡ b.optionals → n ≢ m → s ≡ a.shape → z ≡ b.shape
    → f ≡ is_lean s → f ≡ true → g ≡ is_lean z → g ≡ true → false ≡ same a b
apart_at a b n m s z f g e h other p q lean_a is_a lean_b is_b =
    apart_is a b (λ one. other (e ∙ one ∙ sym h)) (ap is_lean (sym p) ∙ sym lean_a ∙ is_a) (ap is_lean (sym q) ∙ sym lean_b ∙ is_b)

pub head_at : {E : Type 0} (r : Result Head E) (a b : Tree) (n m : ℕ) (s t z u : NodeShape) (x y : Row) (f g : Bool) → n ≡ a.optionals → m ≡ b.optionals → n ≡ m → s ≡ a.shape → z ≡ b.shape
    → f ≡ is_lean s → f ≡ true → g ≡ is_lean z → g ≡ true → t ≡ a.shape → x ≡ a.parts → u ≡ b.shape → y ≡ b.parts
    → IfOk r (λ h. h ≡ head t x u y) → IfOk r (λ h. IsHead h a b)
head_at (Err error) a b n m s t z u x y f g e h one p q lean_a is_a lean_b is_b at ax au ay found = found
head_at (Ok it) a b n m s t z u x y f g e h one p q lean_a is_a lean_b is_b at ax au ay found =
    let here : it ≡ head a.shape a.parts b.shape b.parts = rw (sym at, sym ax, sym au, sym ay) found in
    subst (λ (k : Head). IsHead k a b) (sym here)
    (head_is a b (sym e ∙ one ∙ h) (ap is_lean (sym p) ∙ sym lean_a ∙ is_a) (ap is_lean (sym q) ∙ sym lean_b ∙ is_b))
