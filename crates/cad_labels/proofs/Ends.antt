-- Labels as resources end: the nodes whose end is told are named while their events are made.
use Rattle.cad_labels.proofs.Keeping.{stays}
use Rattle.std.proofs.Common.{◌≡◌, ℕ, zero, suc, ◌+◌, ◌≤◌, ◌==◌, nat_lt, Bool, true, false, not, cond, if◌then◌else◌, List, [], ◌∷◌, ◌++◌, length, refl, arith}
use Rattle.std.proofs.lemmas.List.{length-append}
use Rattle.cad_syntax.specs.declared.type_id.TypeId.{TypeId}
use Rattle.cad_values.specs.Forms.{is_told}
use Rattle.cad_world.specs.Marks.{AreGivenOnce, labels}
use Rattle.cad_world.specs.Rows.{NodeShape, plain, link, array, dictionary, composite, Row, stop, gap, node, Tree, alone, join, back, tree_owns, tree_identities}
use Rattle.cad_world.specs.State.{State, give, done}
use Rattle.cad_world.specs.Trees.{value_of}
use Rattle.cad_world.specs.Transfers.{charged}
use Rattle.cad_evaluation.specs.Callees.{Calls, destroyed_event}
use Rattle.cad_evaluation.specs.Ending.{is_told_of, type_if, passing, label_if, one_if, numbered, events_of, emitted, all_emitted, dropped, set_aside, gone}
use Rattle.cad_labels.specs.Laws.{Follows, HasNone, Keeps, AnyOne, CalleesKeep, DestroyingKeeps}
use Rattle.cad_labels.proofs.Marks.{times, times_last, mark, mark_join, mark_back}
use Rattle.cad_labels.proofs.States.{labels_whole, whole}
use Rattle.cad_labels.proofs.Keeping.{keeps_bind, fewer_stand}
use Rattle.cad_labels.proofs.Places.{charged_keeps, no_mark}
use Rattle.cad_labels.proofs.Forms.{keeps_give, keeps_done, keeps_guard, keeps_require, stop_none}

-- ---- the numbers from one on

-- how often p is one of the n numbers from k on
abbrev among : ℕ → ℕ → ℕ → ℕ
among p k zero = 0
among p k (suc n) = cond (k == p) 1 0 + among p (suc k) n

among_at : (p k k' n n' : ℕ) → k ≡ k' → n ≡ n' → among p k n ≡ among p k' n'
among_at p k k' n n' e h = λ i. among p (e i) (h i)

among_more : (p k m n : ℕ) → among p k (m + n) ≡ among p k m + among p (k + m) n
among_more p k zero n = omega (arith, among_at p k (k + zero) (zero + n) n (omega arith) (omega arith))
among_more p k (suc m) n = omega (
  arith,
  among_at p k k (suc m + n) (suc (m + n)) refl (omega arith),
  among_more p (suc k) m n,
  among_at p (suc k + m) (k + suc m) n n (omega arith) refl,
)

among_low : (p k n : ℕ) → suc p ≤ k → among p k n ≡ 0
among_low p k zero h = refl
among_low p k (suc n) h = go (k == p) refl (among_low p (suc k) n (omega arith))
  where
    go : (b : Bool) → (k == p) ≡ b → among p (suc k) n ≡ 0 → cond b 1 0 + among p (suc k) n ≡ 0
    go true e i = absurd (grind (arith, e, h))
    go false e i = omega (arith, i)

among_high : (p k n : ℕ) → k + n ≤ p → among p k n ≡ 0
among_high p k zero h = refl
among_high p k (suc n) h = go (k == p) refl (among_high p (suc k) n (omega arith))
  where
    go : (b : Bool) → (k == p) ≡ b → among p (suc k) n ≡ 0 → cond b 1 0 + among p (suc k) n ≡ 0
    go true e i = absurd (grind (arith, e, h))
    go false e i = omega (arith, i)

among_once : (p k n : ℕ) → among p k n ≤ 1
among_once p k zero = omega arith
among_once p k (suc n) = go (k == p) refl (among_once p (suc k) n)
  where
    go : (b : Bool) → (k == p) ≡ b → among p (suc k) n ≤ 1 → cond b 1 0 + among p (suc k) n ≤ 1
    go true e i = omega (arith, among_low p (suc k) n (grind (arith, e)))
    go false e i = omega (arith, i)

-- ---- nodes are named in their order

label_times : (p k : ℕ) (b : Bool) (l : List ℕ) → times p (label_if b k l) ≡ times p l + among p k (one_if b)
label_times p k true l = omega (arith, times_last p k l)
label_times p k false l = omega arith

module _ (test : NodeShape → Bool) (of_type : (shape : NodeShape) → length (type_if (test shape) shape) ≡ one_if (test shape)) where
  mark_numbered : (p k : ℕ) (r : Row) → mark p (numbered test k r) ≡ mark p r + among p k (length (passing test r))
  mark_numbered p k stop = omega arith
  mark_numbered p k (gap r) = mark_numbered p k r
  mark_numbered p k (node l n sh j r) = omega (
    arith,
    label_times p k (test sh) l,
    mark_numbered p (k + one_if (test sh)) j,
    mark_numbered p (k + one_if (test sh) + length (passing test j)) r,
    among_at p k k (length (type_if (test sh) sh ++ passing test j ++ passing test r)) (one_if (test sh) + (length (passing test j) + length (passing test r))) refl
        (omega (arith, length-append (type_if (test sh) sh ++ passing test j) (passing test r), length-append (type_if (test sh) sh) (passing test j), of_type sh)),
    among_more p k (one_if (test sh)) (length (passing test j) + length (passing test r)),
    among_more p (k + one_if (test sh)) (length (passing test j)) (length (passing test r)),
  )

told_type : (s : State) (shape : NodeShape) → length (type_if (is_told_of s shape) shape) ≡ one_if (is_told_of s shape)
told_type s (composite id i names) = go (is_told_of s (composite id i names))
  where
    go : (b : Bool) → length (type_if b (composite id i names)) ≡ one_if b
    go true = refl
    go false = refl
told_type s (plain x) = refl
told_type s (link a l n) = refl
told_type s (array type) = refl
told_type s (dictionary key value ks) = refl

-- ---- what ends is set aside

aside_once : (p k n m : ℕ) (b c : Bool) → nat_lt p k ≡ b → nat_lt p (k + n) ≡ c → m ≤ (if b then 1 else 0) + among p k n → m ≤ (if c then 1 else 0)
aside_once p k n m true true e f h = omega (arith, among_low p k n (grind (arith, e)))
aside_once p k n m true false e f h = absurd (grind (arith, e, f))
aside_once p k n m false true e f h = omega (arith, among_once p k n)
aside_once p k n m false false e f h = omega (arith, among_high p k n (grind (arith, f)))

add_among : (p k n m l : ℕ) (b : Bool) → m ≤ l + among p k n → l ≤ (if b then 1 else 0) → m ≤ (if b then 1 else 0) + among p k n
add_among p k n m l true h j = omega arith
add_among p k n m l false h j = omega arith

abbrev aside_state : Tree → State → State
aside_state t s = record s {
  making = join (numbered (is_told_of s) s.next_label (alone t)) s.making;
  next_label = s.next_label + length (passing (is_told_of s) (alone t));
}

aside_whole : (t : Tree) → HasNone t → (s : State) (p : ℕ)
    → whole p (aside_state t s) ≡ whole p s + among p s.next_label (length (passing (is_told_of s) (alone t)))
aside_whole t none s p = omega (
  arith,
  mark_join p (numbered (is_told_of s) s.next_label (alone t)) s.making,
  mark_numbered (is_told_of s) (told_type s) p s.next_label (alone t),
  no_mark t none p,
)

aside_follows : (t : Tree) → HasNone t → (s : State) → AreGivenOnce s → Follows s (aside_state t s)
aside_follows t none s once = (
  (λ p. aside_once p s.next_label (length (passing (is_told_of s) (alone t))) (labels p (aside_state t s))
      (nat_lt p s.next_label) (nat_lt p (s.next_label + length (passing (is_told_of s) (alone t)))) refl refl
      (add_among p s.next_label (length (passing (is_told_of s) (alone t))) (labels p (aside_state t s)) (labels p s) (nat_lt p s.next_label)
      (omega (arith, labels_whole p s, labels_whole p (aside_state t s), aside_whole t none s p)) (once p))),
  omega arith,
  λ p l. omega (
    arith,
    labels_whole p s,
    labels_whole p (aside_state t s),
    aside_whole t none s p,
    among_low p s.next_label (length (passing (is_told_of s) (alone t))) l,
  ),
)

aside_keeps : (t : Tree) → HasNone t → Keeps AnyOne (set_aside t)
aside_keeps t none = λ s once. (tt, aside_follows t none s once)

-- ---- events

pub emitted_keeps : (t : Tree) → Keeps AnyOne (emitted t)
emitted_keeps t = keeps_require AnyOne 134 (is_told (value_of t)) _ (λ s once. (tt, stays s once))

all_emitted_keeps : (ts : List Tree) → Keeps AnyOne (all_emitted ts)
all_emitted_keeps [] = keeps_done
all_emitted_keeps (t ∷ ts) = keeps_bind AnyOne AnyOne (emitted t) _ (emitted_keeps t) (λ u h. all_emitted_keeps ts)

events_keep : (calls : Calls) → CalleesKeep calls → (l : ℕ) (ids : List TypeId) → Keeps AnyOne (events_of calls l ids)
events_keep calls keep l [] = keeps_give {A = List Tree} AnyOne [] tt
events_keep calls keep l (id ∷ ids) = keeps_bind HasNone AnyOne (calls (destroyed_event id l) stop) _ (keep (destroyed_event id l) stop stop_none)
    (λ e h. keeps_bind AnyOne AnyOne (events_of calls (suc l) ids) (λ es. give (e ∷ es)) (events_keep calls keep (suc l) ids) (λ es u. keeps_give AnyOne (e ∷ es) tt))

gone_keeps : (t : Tree) → Keeps AnyOne (gone t)
gone_keeps t = λ s once. (tt, fewer_stand s (record s { making = back 1 s.making; destroyed = s.destroyed ++ tree_identities t }) refl (λ p. omega (arith, mark_back p 1 s.making)) once)

pub dropped_keeps : (t : Tree) → Keeps AnyOne (dropped t)
dropped_keeps t = keeps_guard AnyOne (not (tree_owns t)) done keeps_done

pub destroying_keeps : DestroyingKeeps
destroying_keeps calls t keep none = keeps_bind AnyOne AnyOne _ _ (keeps_bind AnyOne AnyOne _ _ (keeps_bind AnyOne AnyOne (charged t) _ (charged_keeps t)
    (λ u h s once. keeps_bind AnyOne AnyOne (set_aside t) (λ v. events_of calls s.next_label (passing (is_told_of s) (alone t))) (aside_keeps t none)
    (λ v w. events_keep calls keep s.next_label (passing (is_told_of s) (alone t))) s once))
    (λ ts u. all_emitted_keeps ts)) (λ u w. gone_keeps t)
