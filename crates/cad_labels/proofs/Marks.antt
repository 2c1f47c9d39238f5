-- How often a label stands in a row, as the row changes.
use Rattle.std.proofs.Common.{◌≡◌, ℕ, zero, suc, ◌+◌, ◌≤◌, ◌==◌, ◌||◌, Bool, true, false, cond, if◌then◌else◌, List, [], ◌∷◌, ◌++◌, Option, Some, None, refl, sym, ap, ◌∙◌, true≢false, arith}
use Rattle.std.specs.Prelude.{count_by}
use Rattle.std.proofs.lemmas.List.Sums.{sum_by-cons}
use Rattle.cad_world.specs.Marks.{marks}
use Rattle.cad_world.specs.Rows.{NodeShape, Row, stop, gap, node, Tree, Slot, out, free, full, slot, put, clear, cut, wedge, add_last, join, front, back, empty_places, is_one_of, bare, named, Found, either, found, changed}

-- in a list of labels
abbrev pub times : ℕ → List ℕ → ℕ
times p [] = 0
times p (q ∷ qs) = cond (q == p) 1 0 + times p qs

-- in a row
abbrev pub mark : ℕ → Row → ℕ
mark p stop = 0
mark p (gap r) = mark p r
mark p (node l n s k r) = times p l + (mark p k + mark p r)

abbrev pub slot_mark : ℕ → Slot → ℕ
slot_mark p out = 0
slot_mark p free = 0
slot_mark p (full t) = mark p t.parts

count_times : (p : ℕ) (l : List ℕ) → count_by (λ q. q == p) l ≡ times p l
count_times p [] = refl
count_times p (q ∷ qs) = sum_by-cons (λ x. cond (x == p) 1 0) q qs ∙ ap (λ n. cond (q == p) 1 0 + n) (count_times p qs)

pub marks_mark : (p : ℕ) (r : Row) → marks p r ≡ mark p r
marks_mark p stop = refl
marks_mark p (gap r) = marks_mark p r
marks_mark p (node l n s k r) = λ i. count_times p l i + (marks_mark p k i + marks_mark p r i)

-- ---- labels of a node

equal_sym : (a b : ℕ) → (a == b) ≡ (b == a)
equal_sym a b = go (a == b) (b == a) refl refl
  where
    go : (x y : Bool) → (a == b) ≡ x → (b == a) ≡ y → x ≡ y
    go true true e h = refl
    go false false e h = refl
    go true false e h = grind (arith, e, h)
    go false true e h = grind (arith, e, h)

pub has_label : (p : ℕ) (l : List ℕ) → is_one_of p l ≡ true → 1 ≤ times p l
has_label p [] e = absurd (true≢false (sym e))
has_label p (q ∷ qs) e = go (p == q) refl e (has_label p qs)
  where
    go : (b : Bool) → (p == q) ≡ b → (b || is_one_of p qs) ≡ true → (is_one_of p qs ≡ true → 1 ≤ times p qs) → 1 ≤ cond (q == p) 1 0 + times p qs
    go true h k i = omega (arith, ap {B = ℕ} (λ b. cond b 1 0) (equal_sym q p ∙ h))
    go false h k i = omega (arith, i k)

pub has_no_label : (p : ℕ) (l : List ℕ) → is_one_of p l ≡ false → times p l ≡ 0
has_no_label p [] e = refl
has_no_label p (q ∷ qs) e = go (p == q) refl e (has_no_label p qs)
  where
    go : (b : Bool) → (p == q) ≡ b → (b || is_one_of p qs) ≡ false → (is_one_of p qs ≡ false → times p qs ≡ 0) → cond (q == p) 1 0 + times p qs ≡ 0
    go true h k i = absurd (true≢false k)
    go false h k i = omega (arith, ap {B = ℕ} (λ b. cond b 1 0) (equal_sym q p ∙ h), i k)

pub times_last : (p q : ℕ) (l : List ℕ) → times p (l ++ q ∷ []) ≡ times p l + cond (q == p) 1 0
times_last p q [] = omega arith
times_last p q (x ∷ l) = omega (arith, times_last p q l)

-- ---- places

pub mark_slot : (p i : ℕ) (r : Row) → slot_mark p (slot i r) ≤ mark p r
mark_slot p i stop = omega arith
mark_slot p zero (gap r) = omega arith
mark_slot p zero (node l n s k r) = omega arith
mark_slot p (suc i) (gap r) = mark_slot p i r
mark_slot p (suc i) (node l n s k r) = omega (arith, mark_slot p i r)

pub mark_put : (p i : ℕ) (t : Tree) (r : Row) → mark p (put i t r) ≤ mark p r + mark p t.parts
mark_put p zero t stop = omega arith
mark_put p zero t (gap r) = omega arith
mark_put p zero t (node l n s k r) = omega arith
mark_put p (suc i) t stop = mark_put p i t stop
mark_put p (suc i) t (gap r) = mark_put p i t r
mark_put p (suc i) t (node l n s k r) = omega (arith, mark_put p i t r)

pub mark_clear : (p i : ℕ) (r : Row) → mark p (clear i r) ≤ mark p r
mark_clear p i stop = omega arith
mark_clear p zero (gap r) = omega arith
mark_clear p zero (node l n s k r) = omega arith
mark_clear p (suc i) (gap r) = mark_clear p i r
mark_clear p (suc i) (node l n s k r) = omega (arith, mark_clear p i r)

pub mark_cut : (p i : ℕ) (r : Row) → mark p (cut i r) ≤ mark p r
mark_cut p i stop = omega arith
mark_cut p zero (gap r) = omega arith
mark_cut p zero (node l n s k r) = omega arith
mark_cut p (suc i) (gap r) = mark_cut p i r
mark_cut p (suc i) (node l n s k r) = omega (arith, mark_cut p i r)

pub mark_wedge : (p i : ℕ) (t : Tree) (r : Row) → mark p (wedge i t r) ≡ mark p r + mark p t.parts
mark_wedge p i t stop = omega arith
mark_wedge p zero t (gap r) = omega arith
mark_wedge p zero t (node l n s k r) = omega arith
mark_wedge p (suc i) t (gap r) = mark_wedge p i t r
mark_wedge p (suc i) t (node l n s k r) = omega (arith, mark_wedge p i t r)

pub mark_last : (p : ℕ) (t : Tree) (r : Row) → mark p (add_last t r) ≡ mark p r + mark p t.parts
mark_last p t stop = omega arith
mark_last p t (gap r) = mark_last p t r
mark_last p t (node l n s k r) = omega (arith, mark_last p t r)

pub mark_join : (p : ℕ) (r q : Row) → mark p (join r q) ≡ mark p r + mark p q
mark_join p stop q = omega arith
mark_join p (gap r) q = mark_join p r q
mark_join p (node l n s k r) q = omega (arith, mark_join p r q)

pub mark_front : (p i : ℕ) (r : Row) → mark p (front i r) ≤ mark p r
mark_front p zero r = omega arith
mark_front p (suc i) stop = omega arith
mark_front p (suc i) (gap r) = mark_front p i r
mark_front p (suc i) (node l n s k r) = omega (arith, mark_front p i r)

pub mark_back : (p i : ℕ) (r : Row) → mark p (back i r) ≤ mark p r
mark_back p zero r = omega arith
mark_back p (suc i) stop = omega arith
mark_back p (suc i) (gap r) = mark_back p i r
mark_back p (suc i) (node l n s k r) = omega (arith, mark_back p i r)

pub mark_bare : (p : ℕ) (r : Row) → mark p (bare r) ≡ 0
mark_bare p stop = refl
mark_bare p (gap r) = mark_bare p r
mark_bare p (node l n s k r) = omega (arith, mark_bare p k, mark_bare p r)

pub mark_empty : (p n : ℕ) → mark p (empty_places n) ≡ 0
mark_empty p zero = refl
mark_empty p (suc n) = mark_empty p n

pub mark_named : (p q i : ℕ) (r : Row) → mark p (named i q r) ≤ mark p r + cond (q == p) 1 0
mark_named p q i stop = omega arith
mark_named p q zero (gap r) = omega arith
mark_named p q zero (node l n s k r) = omega (arith, times_last p q l)
mark_named p q (suc i) (gap r) = mark_named p q i r
mark_named p q (suc i) (node l n s k r) = omega (arith, mark_named p q i r)

-- ---- the node with a label

abbrev is_there : Option Found → Bool
is_there None = false
is_there (Some f) = true

pub some_is_there : (f : Found) → Some f ≡ None → ⊥
some_is_there f e = true≢false (ap is_there e)

pub nothing_found : (p : ℕ) (r : Row) → mark p r ≡ 0 → found p r ≡ None
nothing_found p stop h = refl
nothing_found p (gap r) h = nothing_found p r h
nothing_found p (node l n s k r) h = go (is_one_of p l) refl (nothing_found p k (omega (arith, h))) (nothing_found p r (omega (arith, h)))
  where
    go : (b : Bool) → is_one_of p l ≡ b → found p k ≡ None → found p r ≡ None
        → (if b then Some (record { labels = l; tree = record { optionals = n; shape = s; parts = k } }) else either (found p k) (found p r)) ≡ None
    go true e i j = absurd (omega (arith, h, has_label p l e))
    go false e i j = ap (λ o. either o (found p r)) i ∙ j

-- and none stands where nothing is found
pub nothing_marked : (p : ℕ) (r : Row) → found p r ≡ None → mark p r ≡ 0
nothing_marked p stop h = refl
nothing_marked p (gap r) h = nothing_marked p r h
nothing_marked p (node l n s k r) h = go (is_one_of p l) refl h (found p k) refl (nothing_marked p k) (nothing_marked p r)
  where
    go : (b : Bool) → is_one_of p l ≡ b
        → (if b then Some (record { labels = l; tree = record { optionals = n; shape = s; parts = k } }) else either (found p k) (found p r)) ≡ None
        → (o : Option Found) → found p k ≡ o → (found p k ≡ None → mark p k ≡ 0) → (found p r ≡ None → mark p r ≡ 0) → times p l + (mark p k + mark p r) ≡ 0
    go true e h o f i j = absurd (some_is_there _ h)
    go false e h None f i j = omega (arith, has_no_label p l e, i f, j (sym (ap (λ x. either x (found p r)) f) ∙ h))
    go false e h (Some x) f i j = absurd (some_is_there x (sym (ap (λ y. either y (found p r)) f) ∙ h))

abbrev pub found_mark : ℕ → Option Found → ℕ
found_mark q None = 0
found_mark q (Some f) = mark q f.tree.parts

-- what comes in the place of the parts of a node that was found
abbrev pub gained : ℕ → Row → Option Found → ℕ
gained q k None = 0
gained q k (Some f) = mark q k

-- none, or at least one
abbrev pub Counts : ℕ → Option Found → Type 0
Counts n None = Unit {0}
Counts n (Some f) = 1 ≤ n

pub counts_either : (m n : ℕ) (a b : Option Found) → Counts m a → Counts n b → Counts (m + n) (either a b)
counts_either m n None None h k = tt
counts_either m n None (Some f) h k = omega arith
counts_either m n (Some f) b h k = omega arith

counts_more : (m n : ℕ) (o : Option Found) → m ≤ n → Counts m o → Counts n o
counts_more m n None h k = tt
counts_more m n (Some f) h k = omega arith

pub found_counts : (p : ℕ) (r : Row) → Counts (mark p r) (found p r)
found_counts p stop = tt
found_counts p (gap r) = found_counts p r
found_counts p (node l n s k r) = go (is_one_of p l) refl (found_counts p k) (found_counts p r)
  where
    go : (b : Bool) → is_one_of p l ≡ b → Counts (mark p k) (found p k) → Counts (mark p r) (found p r)
        → Counts (times p l + (mark p k + mark p r)) (if b then Some (record { labels = l; tree = record { optionals = n; shape = s; parts = k } }) else either (found p k) (found p r))
    go true e i j = omega (arith, has_label p l e)
    go false e i j = counts_more (mark p k + mark p r) (times p l + (mark p k + mark p r)) (either (found p k) (found p r)) (omega arith)
        (counts_either (mark p k) (mark p r) (found p k) (found p r) i j)

-- one of two rows has the node, where the label stands once
pub both_changed : (q m n a a' b b' : ℕ) (k : Row) (o o' : Option Found) → m + n ≤ 1 → Counts m o → Counts n o'
    → a' + found_mark q o ≡ a + gained q k o → b' + found_mark q o' ≡ b + gained q k o'
    → (a' + b') + found_mark q (either o o') ≡ (a + b) + gained q k (either o o')
both_changed q m n a a' b b' k None None h c d e f = omega (arith, e, f)
both_changed q m n a a' b b' k None (Some y) h c d e f = omega (arith, e, f)
both_changed q m n a a' b b' k (Some x) None h c d e f = omega (arith, e, f)
both_changed q m n a a' b b' k (Some x) (Some y) h c d e f = absurd (omega (arith, h, c, d))

-- the node's parts go and others come, and no other node changes
pub mark_changed : (p q : ℕ) (sh : NodeShape) (j : Row) (r : Row) → mark p r ≤ 1
    → mark q (changed p sh j r) + found_mark q (found p r) ≡ mark q r + gained q j (found p r)
mark_changed p q sh j stop h = omega arith
mark_changed p q sh j (gap r) h = mark_changed p q sh j r h
mark_changed p q sh j (node l n s k r) h = go (is_one_of p l) refl (mark_changed p q sh j k (omega (arith, h))) (mark_changed p q sh j r (omega (arith, h)))
  where
    go : (b : Bool) → is_one_of p l ≡ b
        → mark q (changed p sh j k) + found_mark q (found p k) ≡ mark q k + gained q j (found p k)
        → mark q (changed p sh j r) + found_mark q (found p r) ≡ mark q r + gained q j (found p r)
        → mark q (if b then node l n sh j r else node l n s (changed p sh j k) (changed p sh j r))
        + found_mark q (if b then Some (record { labels = l; tree = record { optionals = n; shape = s; parts = k } }) else either (found p k) (found p r))
        ≡ (times q l + (mark q k + mark q r)) + gained q j (if b then Some (record { labels = l; tree = record { optionals = n; shape = s; parts = k } }) else either (found p k) (found p r))
    go true e i m = omega arith
    go false e i m = omega (
      arith,
      both_changed q (mark p k) (mark p r) (mark q k) (mark q (changed p sh j k)) (mark q r) (mark q (changed p sh j r)) j (found p k) (found p r)
          (omega (arith, h)) (found_counts p k) (found_counts p r) i m,
    )
