-- Labels as what ends is set aside: the nodes whose end is told have new ones, each once. (cad_labels has the law of the whole end
-- alone; this is its first part.)
use Rattle.std.proofs.Common.{◌≡◌, ℕ, zero, suc, ◌+◌, ◌≤◌, ◌==◌, nat_lt, Bool, true, false, cond, if◌then◌else◌, List, ◌++◌, length, refl, arith}
use Rattle.std.proofs.lemmas.List.{length-append}
use Rattle.cad_world.specs.Marks.{AreGivenOnce, labels}
use Rattle.cad_world.specs.Rows.{NodeShape, plain, link, array, dictionary, composite, Row, stop, gap, node, Tree, alone, join}
use Rattle.cad_world.specs.State.{State}
use Rattle.cad_evaluation.specs.Ending.{is_told_of, type_if, passing, label_if, one_if, numbered, set_aside}
use Rattle.cad_labels.specs.Laws.{Follows, HasNone, Keeps, AnyOne}
use Rattle.cad_labels.proofs.Marks.{times, times_last, mark, mark_join}
use Rattle.cad_labels.proofs.States.{labels_whole, whole}
use Rattle.cad_labels.proofs.Places.{no_mark}

-- ---- the numbers from one on

-- how often p is one of the n numbers from k on
abbrev among : ℕ → ℕ → ℕ → ℕ
among p k zero = 0
among p k (suc n) = cond (k == p) 1 0 + among p (suc k) n

among_at : (p k k' n n' : ℕ) → k ≡ k' → n ≡ n' → among p k n ≡ among p k' n'
among_at p k k' n n' e h = λ i. among p (e i) (h i)

among_more : (p k m n : ℕ) → among p k (m + n) ≡ among p k m + among p (k + m) n
among_more p k zero n = omega (arith, among_at p k (k + zero) (zero + n) n (omega arith) (omega arith))
among_more p k (suc m) n = omega (
  arith,
  among_at p k k (suc m + n) (suc (m + n)) refl (omega arith),
  among_more p (suc k) m n,
  among_at p (suc k + m) (k + suc m) n n (omega arith) refl,
)

among_low : (p k n : ℕ) → suc p ≤ k → among p k n ≡ 0
among_low p k zero h = refl
among_low p k (suc n) h = go (k == p) refl (among_low p (suc k) n (omega arith))
  where
    go : (b : Bool) → (k == p) ≡ b → among p (suc k) n ≡ 0 → cond b 1 0 + among p (suc k) n ≡ 0
    go true e i = absurd (grind (arith, e, h))
    go false e i = omega (arith, i)

among_high : (p k n : ℕ) → k + n ≤ p → among p k n ≡ 0
among_high p k zero h = refl
among_high p k (suc n) h = go (k == p) refl (among_high p (suc k) n (omega arith))
  where
    go : (b : Bool) → (k == p) ≡ b → among p (suc k) n ≡ 0 → cond b 1 0 + among p (suc k) n ≡ 0
    go true e i = absurd (grind (arith, e, h))
    go false e i = omega (arith, i)

among_once : (p k n : ℕ) → among p k n ≤ 1
among_once p k zero = omega arith
among_once p k (suc n) = go (k == p) refl (among_once p (suc k) n)
  where
    go : (b : Bool) → (k == p) ≡ b → among p (suc k) n ≤ 1 → cond b 1 0 + among p (suc k) n ≤ 1
    go true e i = omega (arith, among_low p (suc k) n (grind (arith, e)))
    go false e i = omega (arith, i)

-- ---- nodes are named in their order

label_times : (p k : ℕ) (b : Bool) (l : List ℕ) → times p (label_if b k l) ≡ times p l + among p k (one_if b)
label_times p k true l = omega (arith, times_last p k l)
label_times p k false l = omega arith

module _ (test : NodeShape → Bool) (of_type : (shape : NodeShape) → length (type_if (test shape) shape) ≡ one_if (test shape)) where
  mark_numbered : (p k : ℕ) (r : Row) → mark p (numbered test k r) ≡ mark p r + among p k (length (passing test r))
  mark_numbered p k stop = omega arith
  mark_numbered p k (gap r) = mark_numbered p k r
  mark_numbered p k (node l n sh j r) = omega (
    arith,
    label_times p k (test sh) l,
    mark_numbered p (k + one_if (test sh)) j,
    mark_numbered p (k + one_if (test sh) + length (passing test j)) r,
    among_at p k k (length (type_if (test sh) sh ++ passing test j ++ passing test r)) (one_if (test sh) + (length (passing test j) + length (passing test r))) refl
        (omega (arith, length-append (type_if (test sh) sh ++ passing test j) (passing test r), length-append (type_if (test sh) sh) (passing test j), of_type sh)),
    among_more p k (one_if (test sh)) (length (passing test j) + length (passing test r)),
    among_more p (k + one_if (test sh)) (length (passing test j)) (length (passing test r)),
  )

told_type : (s : State) (shape : NodeShape) → length (type_if (is_told_of s shape) shape) ≡ one_if (is_told_of s shape)
told_type s (composite id i names) = go (is_told_of s (composite id i names))
  where
    go : (b : Bool) → length (type_if b (composite id i names)) ≡ one_if b
    go true = refl
    go false = refl
told_type s (plain x) = refl
told_type s (link a l n) = refl
told_type s (array type) = refl
told_type s (dictionary key value ks) = refl

-- ---- what ends is set aside

aside_once : (p k n m : ℕ) (b c : Bool) → nat_lt p k ≡ b → nat_lt p (k + n) ≡ c → m ≤ (if b then 1 else 0) + among p k n → m ≤ (if c then 1 else 0)
aside_once p k n m true true e f h = omega (arith, among_low p k n (grind (arith, e)))
aside_once p k n m true false e f h = absurd (grind (arith, e, f))
aside_once p k n m false true e f h = omega (arith, among_once p k n)
aside_once p k n m false false e f h = omega (arith, among_high p k n (grind (arith, f)))

add_among : (p k n m l : ℕ) (b : Bool) → m ≤ l + among p k n → l ≤ (if b then 1 else 0) → m ≤ (if b then 1 else 0) + among p k n
add_among p k n m l true h j = omega arith
add_among p k n m l false h j = omega arith

abbrev aside_state : Tree → State → State
aside_state t s = record s {
  making = join (numbered (is_told_of s) s.next_label (alone t)) s.making;
  next_label = s.next_label + length (passing (is_told_of s) (alone t));
}

aside_whole : (t : Tree) → HasNone t → (s : State) (p : ℕ)
    → whole p (aside_state t s) ≡ whole p s + among p s.next_label (length (passing (is_told_of s) (alone t)))
aside_whole t none s p = omega (
  arith,
  mark_join p (numbered (is_told_of s) s.next_label (alone t)) s.making,
  mark_numbered (is_told_of s) (told_type s) p s.next_label (alone t),
  no_mark t none p,
)

aside_follows : (t : Tree) → HasNone t → (s : State) → AreGivenOnce s → Follows s (aside_state t s)
aside_follows t none s once = (
  (λ p. aside_once p s.next_label (length (passing (is_told_of s) (alone t))) (labels p (aside_state t s))
      (nat_lt p s.next_label) (nat_lt p (s.next_label + length (passing (is_told_of s) (alone t)))) refl refl
      (add_among p s.next_label (length (passing (is_told_of s) (alone t))) (labels p (aside_state t s)) (labels p s) (nat_lt p s.next_label)
      (omega (arith, labels_whole p s, labels_whole p (aside_state t s), aside_whole t none s p)) (once p))),
  omega arith,
  λ p l. omega (
    arith,
    labels_whole p s,
    labels_whole p (aside_state t s),
    aside_whole t none s p,
    among_low p s.next_label (length (passing (is_told_of s) (alone t))) l,
  ),
)

pub aside_keeps : (t : Tree) → HasNone t → Keeps AnyOne (set_aside t)
aside_keeps t none = λ s once. (tt, aside_follows t none s once)
