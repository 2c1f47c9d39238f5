-- The types of nodes whose end is told, and their labels, place by place.
use Rattle.std.proofs.Common.{◌≡◌, ℕ, zero, suc, ◌+◌, ◌<◌, Bool, true, false, List, [], ◌∷◌, ◌++◌, append_assoc, append-nil, length, length-append, get_or, set, take, refl, sym, ap, subst, ◌∙◌, arith, inl, inr}
use Rattle.std.proofs.Math.Seq.{take-suc}
use Rattle.std.proofs.lemmas.Bool.{cases_lt}
use Rattle.std.proofs.lemmas.List.{get_or-set_same, get_or-set_other}
use Rattle.cad_syntax.specs.declared.type_id.TypeId.{TypeId}
use Rattle.cad_world.specs.Rows.{NodeShape, plain, link, array, dictionary, composite, Row, gap, Tree, alone}
use Rattle.cad_world.specs.State.{Account}
use Rattle.cad_evaluation.specs.Ending.{is_told_of, type_if, passing, one_if, numbered}
use Rattle.cad_rows.specs.Views.{PlaceView, vacant, taken, before, pure_row, pure_place}
use Rattle.cad_rows.specs.declared.tree.Place.{Place}
use Rattle.cad_state.specs.Views.{state_over}
use Rattle.cad_state.specs.declared.state.RunState.{RunState}
use Rattle.cad_making.specs.Code.Ends.{told_in, numbered_place, types_in, count_of}

-- ---- types

pub tree_types : (test : NodeShape → Bool) (found : List TypeId) (t : Tree) → (found ++ type_if (test t.shape) t.shape) ++ passing test t.parts ≡ found ++ passing test (alone t)
tree_types test found t =
    append_assoc found (type_if (test t.shape) t.shape) (passing test t.parts)
    ∙ ap (λ xs. found ++ (type_if (test t.shape) t.shape ++ xs)) (sym (append-nil (passing test t.parts)))
    ∙ ap (λ xs. found ++ xs) (sym (append_assoc (type_if (test t.shape) t.shape) (passing test t.parts) []))

passing_before : (test : NodeShape → Bool) (v : PlaceView) (row : Row) → passing test (before v row) ≡ types_in test v ++ passing test row
passing_before test vacant row = refl
passing_before test (taken l t) row = ap (λ xs. xs ++ passing test row) (sym (append-nil (type_if (test t.shape) t.shape ++ passing test t.parts)))

pub row_types : (test : NodeShape → Bool) (found : List TypeId) (v : PlaceView) (row : Row) → (found ++ types_in test v) ++ passing test row ≡ found ++ passing test (before v row)
row_types test found v row = append_assoc found (types_in test v) (passing test row) ∙ ap (λ xs. found ++ xs) (sym (passing_before test v row))

-- ---- labels

abbrev pub Tells : (NodeShape → Bool) → Type 0
Tells test = (shape : NodeShape) → length (type_if (test shape) shape) ≡ one_if (test shape)

pub told_tells : (x : RunState) → Tells (told_in x)
told_tells x (composite id zero names) = refl
told_tells x (composite id (suc i) names) = go (told_in x (composite id (suc i) names))
  where
    go : (b : Bool) → length (type_if b (composite id (suc i) names)) ≡ one_if b
    go true = refl
    go false = refl
told_tells x (plain v) = refl
told_tells x (link a l n) = refl
told_tells x (array type) = refl
told_tells x (dictionary key value ks) = refl

-- how many labels a node takes, with those inside
count_node : (test : NodeShape → Bool) → Tells test → (l : List ℕ) (t : Tree) → count_of test (taken l t) ≡ one_if (test t.shape) + length (passing test t.parts)
count_node test tells l t = let e : count_of test (taken l t) ≡ length ((type_if (test t.shape) t.shape ++ passing test t.parts) ++ []) = refl in omega (
  arith,
  e,
  length-append (type_if (test t.shape) t.shape ++ passing test t.parts) [],
  length-append (type_if (test t.shape) t.shape) (passing test t.parts),
  tells t.shape,
)

pub counted_node : (x : RunState) (l : List ℕ) (t : Tree) (p q n : ℕ) → q ≡ p + one_if (told_in x t.shape) → n ≡ q + length (passing (told_in x) t.parts) → n ≡ p + count_of (told_in x) (taken l t)
counted_node x l t p q n e d = omega (arith, count_node (told_in x) (told_tells x) l t, e, d)

numbered_before : (test : NodeShape → Bool) → Tells test → (p : ℕ) (v : PlaceView) (row : Row) → numbered test p (before v row) ≡ before (numbered_place test p v) (numbered test (p + count_of test v) row)
numbered_before test tells p vacant row = let e : p ≡ p + 0 = omega arith in ap (λ k. gap (numbered test k row)) e
numbered_before test tells p (taken l t) row =
    let e : p + one_if (test t.shape) + length (passing test t.parts) ≡ p + count_of test (taken l t) = omega (arith, count_node test tells l t) in
    ap (λ k. before (numbered_place test p (taken l t)) (numbered test k row)) e

-- the labels that the first places take
abbrev pub count_front : (NodeShape → Bool) → ℕ → List Place → ℕ
count_front test k ps = length (passing test (pure_row (take k ps)))

count_before : (test : NodeShape → Bool) (v : PlaceView) (row : Row) → length (passing test (before v row)) ≡ count_of test v + length (passing test row)
count_before test v row = ap length (passing_before test v row) ∙ length-append (types_in test v) (passing test row)

-- the first places are named by now
abbrev pub AreNumbered : (NodeShape → Bool) → ℕ → ℕ → List Place → List Place → Type 0
AreNumbered test p n now was = (k : ℕ) (d : Place) → k < n → pure_place (get_or now k d) ≡ numbered_place test (p + count_front test k was) (pure_place (get_or was k d))

pub numbered_all : (test : NodeShape → Bool) → Tells test → (p : ℕ) (now was : List Place) → length now ≡ length was → AreNumbered test p (length was) now was → pure_row now ≡ numbered test p (pure_row was)
numbered_all test tells p [] [] e h = refl
numbered_all test tells p [] (q ∷ was) e h = absurd (omega (arith, e))
numbered_all test tells p (x ∷ now) [] e h = absurd (omega (arith, e))
numbered_all test tells p (x ∷ now) (q ∷ was) e h =
    let zero_more : p + count_front test 0 (q ∷ was) ≡ p = omega arith in
    let first : pure_place x ≡ numbered_place test p (pure_place q) = h 0 q (omega arith) ∙ ap (λ k. numbered_place test k (pure_place q)) zero_more in
    let rest : pure_row now ≡ numbered test (p + count_of test (pure_place q)) (pure_row was) =
    numbered_all test tells (p + count_of test (pure_place q)) now was (omega (arith, e)) (λ k d lt. h (suc k) d (omega (arith, lt))
    ∙ (let f : p + count_front test (suc k) (q ∷ was) ≡ p + count_of test (pure_place q) + count_front test k was = omega (arith, count_before test (pure_place q) (pure_row (take k was))) in
    ap (λ m. numbered_place test m (pure_place (get_or was k d))) f)) in
    ap (λ v. before v (pure_row now)) first ∙ ap (before (numbered_place test p (pure_place q))) rest ∙ sym (numbered_before test tells p (pure_place q) (pure_row was))

at_turn : (ps : List Place) (i : ℕ) (p d : Place) → i < length ps → p ≡ get_or ps i p → get_or ps i d ≡ p
at_turn [] i p d lt is = absurd (omega (arith, lt))
at_turn (q ∷ ps) zero p d lt is = sym is
at_turn (q ∷ ps) (suc i) p d lt is = at_turn ps i p d (omega (arith, lt)) is

-- one place more; it was as it had been
pub numbered_turn : (test : NodeShape → Bool) (p i j q : ℕ) (now was : List Place) (new old : Place) → j ≡ i + 1 → i < length now → AreNumbered test p i now was → old ≡ get_or now i old → ((d : Place) → get_or now i d ≡ get_or was i d)
    → q ≡ p + count_front test i was → pure_place new ≡ numbered_place test q (pure_place old) → AreNumbered test p j (set now i new) was
numbered_turn test p i j q now was new old next lt h is same counted e k d below =
    elim (cases_lt k i) [
      | inl less ↦ ap pure_place (get_or-set_other now i k new d (λ same_index. omega (arith, less, same_index))) ∙ h k d less
      | inr le ↦
          subst (λ m. pure_place (get_or (set now i new) m d) ≡ numbered_place test (p + count_front test m was) (pure_place (get_or was m d))) (omega (arith, le, below, next))
          (ap pure_place (get_or-set_same now i new d lt) ∙ e ∙ ap (λ m. numbered_place test m (pure_place old)) counted
          ∙ ap (λ x. numbered_place test (p + count_front test i was) (pure_place x)) (sym (at_turn now i old d lt is) ∙ same d))
    ]

count_last : (test : NodeShape → Bool) (ps : List Place) (q : Place) → length (passing test (pure_row (ps ++ q ∷ []))) ≡ length (passing test (pure_row ps)) + count_of test (pure_place q)
count_last test [] q =
    let e : length (passing test (pure_row (q ∷ []))) ≡ count_of test (pure_place q) = refl in
    let f : length (passing test (pure_row [])) ≡ 0 = refl in
    omega (arith, e, f)
count_last test (x ∷ ps) q = omega (arith, count_before test (pure_place x) (pure_row (ps ++ q ∷ [])), count_before test (pure_place x) (pure_row ps), count_last test ps q)

pub count_turn : (test : NodeShape → Bool) (p i j q n : ℕ) (now was : List Place) (old : Place) → j ≡ i + 1 → i < length now → length now ≡ length was → old ≡ get_or now i old → ((d : Place) → get_or now i d ≡ get_or was i d)
    → q ≡ p + count_front test i was → n ≡ q + count_of test (pure_place old) → n ≡ p + count_front test j was
count_turn test p i j q n now was old next lt len is same counted e =
    let front_more : take (suc i) was ≡ take i was ++ get_or was i old ∷ [] = take-suc was i old (omega (arith, lt, len)) in
    let here : get_or was i old ≡ old = sym (same old) ∙ sym is in
    let more : count_front test (suc i) was ≡ count_front test i was + count_of test (pure_place old) =
    ap (λ xs. length (passing test (pure_row xs))) front_more ∙ count_last test (take i was) (get_or was i old)
    ∙ ap (λ x. count_front test i was + count_of test (pure_place x)) here in
    let which : suc i ≡ j = omega (arith, next) in
    omega (arith, counted, e, more, ap (λ k. count_front test k was) which)

-- ---- aside

pub told_same : (w : List Account) (x : RunState) → told_in x ≡ is_told_of (state_over w x)
told_same w x = λ i shape. go shape i
  where
    go : (shape : NodeShape) → told_in x shape ≡ is_told_of (state_over w x) shape
    go (composite id zero names) = refl
    go (composite id (suc i) names) = refl
    go (plain v) = refl
    go (link a l n) = refl
    go (array type) = refl
    go (dictionary key value ks) = refl
