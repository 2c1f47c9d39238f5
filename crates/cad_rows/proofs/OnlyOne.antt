-- Where a label stands at most once, a node that has it is the node that the definition finds, and that it changes.
use Rattle.std.proofs.Common.{◌≡◌, ℕ, zero, suc, ◌+◌, ◌≤◌, ◌==◌, ◌||◌, Bool, true, false, cond, if◌then◌else◌, List, [], ◌∷◌, Option, Some, None, refl, sym, ap, subst, ◌∙◌, true≢false, arith}
use Rattle.std.specs.Prelude.{count_by}
use Rattle.std.proofs.lemmas.List.Sums.{sum_by-cons}
use Rattle.cad_world.specs.Marks.{marks}
use Rattle.cad_world.specs.Rows.{NodeShape, Row, stop, gap, node, is_one_of, Found, either, found, changed}
use Rattle.cad_rows.specs.Ways.{node_in, node_at, below}
use Rattle.cad_rows.specs.Exchanges.{reshaped, within, exchanged}

times : ℕ → List ℕ → ℕ
times p [] = 0
times p (q ∷ qs) = cond (q == p) 1 0 + times p qs

mark : ℕ → Row → ℕ
mark p stop = 0
mark p (gap r) = mark p r
mark p (node l n s k r) = times p l + (mark p k + mark p r)

count_times : (p : ℕ) (l : List ℕ) → count_by (λ q. q == p) l ≡ times p l
unfolding times
count_times p [] = refl
count_times p (q ∷ qs) = sum_by-cons (λ x. cond (x == p) 1 0) q qs ∙ ap (λ n. cond (q == p) 1 0 + n) (count_times p qs)

marks_mark : (p : ℕ) (r : Row) → marks p r ≡ mark p r
unfolding mark
marks_mark p stop = refl
marks_mark p (gap r) = marks_mark p r
marks_mark p (node l n s k r) = λ i. count_times p l i + (marks_mark p k i + marks_mark p r i)

equal_sym : (a b : ℕ) → (a == b) ≡ (b == a)
equal_sym a b = go (a == b) (b == a) refl refl
  where
    go : (x y : Bool) → (a == b) ≡ x → (b == a) ≡ y → x ≡ y
    go true true e h = refl
    go false false e h = refl
    go true false e h = grind (arith, e, h)
    go false true e h = grind (arith, e, h)

has_label : (p : ℕ) (l : List ℕ) → is_one_of p l ≡ true → 1 ≤ times p l
unfolding times
has_label p [] e = absurd (true≢false (sym e))
has_label p (q ∷ qs) e = go (p == q) refl e (has_label p qs)
  where
    go : (b : Bool) → (p == q) ≡ b → (b || is_one_of p qs) ≡ true → (is_one_of p qs ≡ true → 1 ≤ times p qs) → 1 ≤ cond (q == p) 1 0 + times p qs
    go true h k i = omega (arith, ap {B = ℕ} (λ b. cond b 1 0) (equal_sym q p ∙ h))
    go false h k i = omega (arith, i k)

none_of : (p : ℕ) (l : List ℕ) → times p l ≡ 0 → is_one_of p l ≡ false
none_of p l z = go (is_one_of p l) refl
  where
    go : (b : Bool) → is_one_of p l ≡ b → b ≡ false
    go true e = absurd (omega (arith, z, has_label p l e))
    go false e = refl

is_there : Option Found → Bool
is_there None = false
is_there (Some f) = true

none_some : (f : Found) → None ≡ Some f → ⊥
unfolding is_there
none_some f e = true≢false (sym (ap is_there e))

or_this : Found → Option Found → Found
or_this d None = d
or_this d (Some f) = f

same_some : (a b : Found) → Some a ≡ Some b → a ≡ b
unfolding or_this
same_some a b e = ap (or_this a) e

nothing_found : (p : ℕ) (r : Row) → mark p r ≡ 0 → found p r ≡ None
unfolding mark
nothing_found p stop h = refl
nothing_found p (gap r) h = nothing_found p r h
nothing_found p (node l n s k r) h =
    ap (λ b. if b then Some (record { labels = l; tree = record { optionals = n; shape = s; parts = k } }) else either (found p k) (found p r)) (none_of p l (omega (arith, h)))
    ∙ ap (λ o. either o (found p r)) (nothing_found p k (omega (arith, h)))
    ∙ nothing_found p r (omega (arith, h))

nothing_changed : (p : ℕ) (s' : NodeShape) (k' r : Row) → mark p r ≡ 0 → changed p s' k' r ≡ r
unfolding mark
nothing_changed p s' k' stop h = refl
nothing_changed p s' k' (gap r) h = ap gap (nothing_changed p s' k' r h)
nothing_changed p s' k' (node l n s k r) h =
    ap (λ b. if b then node l n s' k' r else node l n s (changed p s' k' k) (changed p s' k' r)) (none_of p l (omega (arith, h)))
    ∙ (λ i. node l n s (nothing_changed p s' k' k (omega (arith, h)) i) (nothing_changed p s' k' r (omega (arith, h)) i))

-- a node of a row, and its parts, have no more of a label than the row
in_row : (p i : ℕ) (row : Row) (x : Found) → node_in i row ≡ Some x → times p x.labels + mark p x.tree.parts ≤ mark p row
unfolding mark
in_row p i stop x e = absurd (none_some x e)
in_row p zero (gap r) x e = absurd (none_some x e)
in_row p zero (node l n s k r) x e =
    let same = same_some _ x e in
    subst (λ y. times p y.labels + mark p y.tree.parts ≤ times p l + (mark p k + mark p r)) same (omega arith)
in_row p (suc i) (gap r) x e = in_row p i r x e
in_row p (suc i) (node l n s k r) x e = omega (arith, in_row p i r x e)

below_some : (f : Row → Option Found) (o : Option Found) (y : Found) → below f o ≡ Some y → (x : Found) × (o ≡ Some x) × (f x.tree.parts ≡ Some y)
below_some f None y e = absurd (none_some y e)
below_some f (Some x) y e = (x, refl, e)

at_way : (p : ℕ) (way : List ℕ) (row : Row) (x : Found) → node_at way row ≡ Some x → times p x.labels ≤ mark p row
at_way p [] row x e = absurd (none_some x e)
at_way p (i ∷ []) row x e = omega (arith, in_row p i row x e)
at_way p (i ∷ j ∷ way) row x e =
    let inner = below_some (λ k. node_at (j ∷ way) k) (node_in i row) x e in
    omega (arith, in_row p i row inner.0 inner.1, at_way p (j ∷ way) inner.0.tree.parts x inner.2)

-- ---- the node at an index

found_in : (p i : ℕ) (row : Row) (x : Found) → mark p row ≤ 1 → node_in i row ≡ Some x → is_one_of p x.labels ≡ true → found p row ≡ Some x
unfolding mark
found_in p i stop x m e h = absurd (none_some x e)
found_in p zero (gap r) x m e h = absurd (none_some x e)
found_in p zero (node l n s k r) x m e h =
    ap (λ b. if b then Some (record { labels = l; tree = record { optionals = n; shape = s; parts = k } }) else either (found p k) (found p r)) (ap (λ y. is_one_of p y.labels) (same_some _ x e) ∙ h) ∙ e
found_in p (suc i) (gap r) x m e h = found_in p i r x m e h
found_in p (suc i) (node l n s k r) x m e h =
    let one = has_label p x.labels h in
    let some = in_row p i r x e in
    ap (λ b. if b then Some (record { labels = l; tree = record { optionals = n; shape = s; parts = k } }) else either (found p k) (found p r)) (none_of p l (omega (arith, one, some, m)))
    ∙ ap (λ o. either o (found p r)) (nothing_found p k (omega (arith, one, some, m)))
    ∙ found_in p i r x (omega (arith, m)) e h

changed_in : (p i : ℕ) (s' : NodeShape) (k' row : Row) (x : Found) → mark p row ≤ 1 → node_in i row ≡ Some x → is_one_of p x.labels ≡ true → changed p s' k' row ≡ reshaped i s' k' row
unfolding mark
changed_in p i s' k' stop x m e h = absurd (none_some x e)
changed_in p zero s' k' (gap r) x m e h = absurd (none_some x e)
changed_in p zero s' k' (node l n s k r) x m e h =
    ap (λ b. if b then node l n s' k' r else node l n s (changed p s' k' k) (changed p s' k' r)) (ap (λ y. is_one_of p y.labels) (same_some _ x e) ∙ h)
changed_in p (suc i) s' k' (gap r) x m e h = ap gap (changed_in p i s' k' r x m e h)
changed_in p (suc i) s' k' (node l n s k r) x m e h =
    let one = has_label p x.labels h in
    let some = in_row p i r x e in
    ap (λ b. if b then node l n s' k' r else node l n s (changed p s' k' k) (changed p s' k' r)) (none_of p l (omega (arith, one, some, m)))
    ∙ (λ j. node l n s (nothing_changed p s' k' k (omega (arith, one, some, m)) j) (changed_in p i s' k' r x (omega (arith, m)) e h j))

-- ---- and further down

found_below : (p i : ℕ) (row : Row) (x y : Found) → mark p row ≤ 1 → node_in i row ≡ Some x → 1 ≤ mark p x.tree.parts → found p x.tree.parts ≡ Some y → found p row ≡ Some y
unfolding mark
found_below p i stop x y m e one h = absurd (none_some x e)
found_below p zero (gap r) x y m e one h = absurd (none_some x e)
found_below p zero (node l n s k r) x y m e one h =
    let same = same_some _ x e in
    let inside : 1 ≤ mark p k = subst (λ z. 1 ≤ mark p z.tree.parts) (sym same) one in
    ap (λ b. if b then Some (record { labels = l; tree = record { optionals = n; shape = s; parts = k } }) else either (found p k) (found p r)) (none_of p l (omega (arith, inside, m)))
    ∙ ap (λ o. either o (found p r)) (ap (λ z. found p z.tree.parts) same ∙ h)
found_below p (suc i) (gap r) x y m e one h = found_below p i r x y m e one h
found_below p (suc i) (node l n s k r) x y m e one h =
    let some = in_row p i r x e in
    ap (λ b. if b then Some (record { labels = l; tree = record { optionals = n; shape = s; parts = k } }) else either (found p k) (found p r)) (none_of p l (omega (arith, one, some, m)))
    ∙ ap (λ o. either o (found p r)) (nothing_found p k (omega (arith, one, some, m)))
    ∙ found_below p i r x y (omega (arith, m)) e one h

changed_below : (p i : ℕ) (s' : NodeShape) (k' row : Row) (x : Found) (g : Row → Row) → mark p row ≤ 1 → node_in i row ≡ Some x → 1 ≤ mark p x.tree.parts → changed p s' k' x.tree.parts ≡ g x.tree.parts → changed p s' k' row ≡ within i g row
unfolding mark
changed_below p i s' k' stop x g m e one h = absurd (none_some x e)
changed_below p zero s' k' (gap r) x g m e one h = absurd (none_some x e)
changed_below p zero s' k' (node l n s k r) x g m e one h =
    let same = same_some _ x e in
    let inside : 1 ≤ mark p k = subst (λ z. 1 ≤ mark p z.tree.parts) (sym same) one in
    let as_given : changed p s' k' k ≡ g k = subst (λ z. changed p s' k' z.tree.parts ≡ g z.tree.parts) (sym same) h in
    ap (λ b. if b then node l n s' k' r else node l n s (changed p s' k' k) (changed p s' k' r)) (none_of p l (omega (arith, inside, m)))
    ∙ (λ j. node l n s (as_given j) (nothing_changed p s' k' r (omega (arith, inside, m)) j))
changed_below p (suc i) s' k' (gap r) x g m e one h = ap gap (changed_below p i s' k' r x g m e one h)
changed_below p (suc i) s' k' (node l n s k r) x g m e one h =
    let some = in_row p i r x e in
    ap (λ b. if b then node l n s' k' r else node l n s (changed p s' k' k) (changed p s' k' r)) (none_of p l (omega (arith, one, some, m)))
    ∙ (λ j. node l n s (nothing_changed p s' k' k (omega (arith, one, some, m)) j) (changed_below p i s' k' r x g (omega (arith, m)) e one h j))

found_at : (p : ℕ) (way : List ℕ) (row : Row) (x : Found) → mark p row ≤ 1 → node_at way row ≡ Some x → is_one_of p x.labels ≡ true → found p row ≡ Some x
found_at p [] row x m e h = absurd (none_some x e)
found_at p (i ∷ []) row x m e h = found_in p i row x m e h
found_at p (i ∷ j ∷ way) row x m e h =
    let inner = below_some (λ k. node_at (j ∷ way) k) (node_in i row) x e in
    let parts = inner.0.tree.parts in
    let all = in_row p i row inner.0 inner.1 in
    let some = at_way p (j ∷ way) parts x inner.2 in
    found_below p i row inner.0 x m inner.1 (omega (arith, some, has_label p x.labels h)) (found_at p (j ∷ way) parts x (omega (arith, all, m)) inner.2 h)

changed_at : (p : ℕ) (way : List ℕ) (s' : NodeShape) (k' row : Row) (x : Found) → mark p row ≤ 1 → node_at way row ≡ Some x → is_one_of p x.labels ≡ true → changed p s' k' row ≡ exchanged way s' k' row
changed_at p [] s' k' row x m e h = absurd (none_some x e)
changed_at p (i ∷ []) s' k' row x m e h = changed_in p i s' k' row x m e h
changed_at p (i ∷ j ∷ way) s' k' row x m e h =
    let inner = below_some (λ k. node_at (j ∷ way) k) (node_in i row) x e in
    let parts = inner.0.tree.parts in
    let all = in_row p i row inner.0 inner.1 in
    let some = at_way p (j ∷ way) parts x inner.2 in
    changed_below p i s' k' row inner.0 (λ q. exchanged (j ∷ way) s' k' q) m inner.1 (omega (arith, some, has_label p x.labels h)) (changed_at p (j ∷ way) s' k' parts x (omega (arith, all, m)) inner.2 h)

-- ---- by the count of the definition

pub is_found : (p : ℕ) (way : List ℕ) (row : Row) (x : Found) → marks p row ≤ 1 → node_at way row ≡ Some x → is_one_of p x.labels ≡ true → found p row ≡ Some x
is_found p way row x m e h = found_at p way row x (omega (arith, m, marks_mark p row)) e h

pub is_changed : (p : ℕ) (way : List ℕ) (s' : NodeShape) (k' row : Row) (x : Found) → marks p row ≤ 1 → node_at way row ≡ Some x → is_one_of p x.labels ≡ true → changed p s' k' row ≡ exchanged way s' k' row
is_changed p way s' k' row x m e h = changed_at p way s' k' row x (omega (arith, m, marks_mark p row)) e h
