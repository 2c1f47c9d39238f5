-- Rows that are turned round, joined and cut, and elements that are found in them.
use Rattle.std.proofs.Common.{◌≡◌, ℕ, zero, suc, ◌<◌, ◌≤◌, Bool, true, false, ◌&&◌, ◌||◌, List, [], ◌∷◌, ◌++◌, length, get_or, take, drop, reverse, Option, Some, None, if◌then◌else◌, refl, sym, ap, ◌∙◌, arith}
use Rattle.std.proofs.lemmas.List.{reverse-append}
use Rattle.cad_syntax.specs.Types.{PureType}
use Rattle.cad_values.specs.Values.{PureValue}
use Rattle.cad_world.specs.Rows as r
use Rattle.cad_world.specs.State.{State, ok, ill, give, with_some}
use Rattle.cad_world.specs.Trees.{whole, wrapped}
use Rattle.cad_evaluation.specs.Texts.{given_int, int_tree, optional_tree}
use Rattle.cad_evaluation.specs.Containers.{turned, equal_place, array_copy}
use Rattle.cad_rows.specs.Views.{PlaceView, vacant, taken, before, pure_row, pure_place}
use Rattle.cad_rows.specs.declared.tree.Place.{Place}
use Rattle.cad_containers.specs.Code.Parts.{equal_there}

-- ---- joined

join_before : (v : PlaceView) (row q : r.Row) → r.join (before v row) q ≡ before v (r.join row q)
join_before vacant row q = refl
join_before (taken l t) row q = refl

pub join_assoc : (a b c : r.Row) → r.join (r.join a b) c ≡ r.join a (r.join b c)
join_assoc r.stop b c = refl
join_assoc (r.gap a) b c = ap r.gap (join_assoc a b c)
join_assoc (r.node l n s k a) b c = ap (r.node l n s k) (join_assoc a b c)

pub join_stop : (a : r.Row) → r.join a r.stop ≡ a
join_stop r.stop = refl
join_stop (r.gap a) = ap r.gap (join_stop a)
join_stop (r.node l n s k a) = ap (r.node l n s k) (join_stop a)

pub joined : (ps qs : List Place) → pure_row (ps ++ qs) ≡ r.join (pure_row ps) (pure_row qs)
joined [] qs = refl
joined (p ∷ ps) qs = ap (before (pure_place p)) (joined ps qs) ∙ sym (join_before (pure_place p) (pure_row ps) (pure_row qs))

pub bare_joined : (row q : r.Row) → r.bare (r.join row q) ≡ r.join (r.bare row) (r.bare q)
bare_joined r.stop q = refl
bare_joined (r.gap row) q = ap r.gap (bare_joined row q)
bare_joined (r.node l n s k row) q = ap (r.node [] n s (r.bare k)) (bare_joined row q)

-- ---- turned round

turned_list : (ps : List Place) (q : r.Row) → turned (pure_row ps) q ≡ r.join (pure_row (reverse ps)) q
turned_list [] q = refl
turned_list (p ∷ ps) q =
    one (pure_place p) (pure_row ps) q
    ∙ turned_list ps (before (pure_place p) q)
    ∙ ap (r.join (pure_row (reverse ps))) (sym (join_before (pure_place p) r.stop q))
    ∙ sym (join_assoc (pure_row (reverse ps)) (before (pure_place p) r.stop) q)
    ∙ ap (λ x. r.join x q) (sym (joined (reverse ps) (p ∷ [])))
    ∙ ap (λ xs. r.join (pure_row xs) q) (sym (reverse-append (p ∷ []) ps))
  where
    one : (v : PlaceView) (row q : r.Row) → turned (before v row) q ≡ turned row (before v q)
    one vacant row q = refl
    one (taken l t) row q = refl

bare_turned : (row q : r.Row) → r.bare (turned row q) ≡ turned (r.bare row) (r.bare q)
bare_turned r.stop q = refl
bare_turned (r.gap row) q = bare_turned row (r.gap q)
bare_turned (r.node l n s k row) q = bare_turned row (r.node l n s k q)

pub reversed : (ps : List Place) (row : r.Row) → pure_row ps ≡ r.bare row → pure_row (reverse ps) ≡ r.bare (turned row r.stop)
reversed ps row e = sym (join_stop (pure_row (reverse ps))) ∙ sym (turned_list ps r.stop) ∙ ap (λ x. turned x r.stop) e ∙ sym (bare_turned row r.stop)

-- ---- resources

moved : (a b c d : Bool) → (c && ((a && b) && d)) ≡ (((a && b) && c) && d)
moved false b c d = at c
  where
    at : (x : Bool) → (x && false) ≡ false
    at true = refl
    at false = refl
moved true false c d = at c
  where
    at : (x : Bool) → (x && false) ≡ false
    at true = refl
    at false = refl
moved true true c d = refl

none_in : (o k row : List ℕ) → r.is_none_left (o ++ k ++ row) ≡ ((r.is_none_left o && r.is_none_left k) && r.is_none_left row)
none_in [] [] row = refl
none_in [] (x ∷ k) row = refl
none_in (x ∷ o) k row = refl

none_turned : (row q : r.Row) → r.is_none_left (r.identities (turned row q)) ≡ (r.is_none_left (r.identities row) && r.is_none_left (r.identities q))
none_turned r.stop q = refl
none_turned (r.gap row) q = none_turned row (r.gap q)
none_turned (r.node l n s k row) q =
    none_turned row (r.node l n s k q)
    ∙ ap (λ x. r.is_none_left (r.identities row) && x) (none_in (r.own_identity s) (r.identities k) (r.identities q))
    ∙ moved (r.is_none_left (r.own_identity s)) (r.is_none_left (r.identities k)) (r.is_none_left (r.identities row)) (r.is_none_left (r.identities q))
    ∙ ap (λ x. x && r.is_none_left (r.identities q)) (sym (none_in (r.own_identity s) (r.identities k) (r.identities row)))

and_true : (b : Bool) → (b && true) ≡ b
and_true true = refl
and_true false = refl

pub owns_turned : (row : r.Row) → r.owns (turned row r.stop) ≡ r.owns row
owns_turned row = ap (λ (x : Bool). if x then false else true) (none_turned row r.stop ∙ and_true (r.is_none_left (r.identities row)))

none_joined : (row q : r.Row) → r.is_none_left (r.identities (r.join row q)) ≡ (r.is_none_left (r.identities row) && r.is_none_left (r.identities q))
none_joined r.stop q = refl
none_joined (r.gap row) q = none_joined row q
none_joined (r.node l n s k row) q =
    none_in (r.own_identity s) (r.identities k) (r.identities (r.join row q))
    ∙ ap (λ x. (r.is_none_left (r.own_identity s) && r.is_none_left (r.identities k)) && x) (none_joined row q)
    ∙ assoc (r.is_none_left (r.own_identity s) && r.is_none_left (r.identities k)) (r.is_none_left (r.identities row)) (r.is_none_left (r.identities q))
    ∙ ap (λ x. x && r.is_none_left (r.identities q)) (sym (none_in (r.own_identity s) (r.identities k) (r.identities row)))
  where
    assoc : (a b c : Bool) → (a && (b && c)) ≡ ((a && b) && c)
    assoc true b c = refl
    assoc false b c = refl

owns_joined : (row q : r.Row) → r.owns (r.join row q) ≡ (r.owns row || r.owns q)
owns_joined row q = ap (λ (x : Bool). if x then false else true) (none_joined row q) ∙ split (r.is_none_left (r.identities row)) (r.is_none_left (r.identities q))
  where
    split : (a b : Bool) → (if a && b then false else true) ≡ ((if a then false else true) || (if b then false else true))
    split true b = refl
    split false b = refl

pub first_owns : (row q : r.Row) → r.owns row ≡ true → true ≡ r.owns (r.join row q)
first_owns row q e = sym (owns_joined row q ∙ ap (λ (b : Bool). b || r.owns q) e)

pub second_owns : (row q : r.Row) (b : Bool) → r.owns row ≡ false → b ≡ r.owns q → b ≡ r.owns (r.join row q)
second_owns row q b e f = f ∙ sym (owns_joined row q ∙ ap (λ (x : Bool). x || r.owns q) e)

-- ---- copied

pub copied_is : (type : PureType) (row : r.Row) (t : r.Tree) (s : State) → r.owns row ≡ false → t ≡ whole (r.array type) (r.bare row) → array_copy type row s ≡ ok t s
copied_is type row t s e f = rw (e, f) refl

pub not_copied : (type : PureType) (row : r.Row) (s : State) → r.owns row ≡ true → array_copy type row s ≡ ill
not_copied type row s e = rw (e) refl

-- ---- cut

front_before : (n : ℕ) (v : PlaceView) (row : r.Row) → r.front (suc n) (before v row) ≡ before v (r.front n row)
front_before n vacant row = refl
front_before n (taken l t) row = refl

back_before : (n : ℕ) (v : PlaceView) (row : r.Row) → r.back (suc n) (before v row) ≡ r.back n row
back_before n vacant row = refl
back_before n (taken l t) row = refl

front_list : (n : ℕ) (ps : List Place) → pure_row (take n ps) ≡ r.front n (pure_row ps)
front_list zero ps = refl
front_list (suc n) [] = refl
front_list (suc n) (p ∷ ps) = ap (before (pure_place p)) (front_list n ps) ∙ sym (front_before n (pure_place p) (pure_row ps))

back_list : (n : ℕ) (ps : List Place) → pure_row (drop n ps) ≡ r.back n (pure_row ps)
back_list zero ps = refl
back_list (suc n) [] = refl
back_list (suc n) (p ∷ ps) = back_list n ps ∙ sym (back_before n (pure_place p) (pure_row ps))

pub stretch_list : (i n : ℕ) (ps : List Place) → pure_row (take n (drop i ps)) ≡ r.front n (r.back i (pure_row ps))
stretch_list i n ps = front_list n (drop i ps) ∙ ap (r.front n) (back_list i ps)

-- ---- found

equal_before : (v : PureValue) (i : ℕ) (p : PlaceView) (row : r.Row) → equal_place v i (before p row) ≡ (if equal_there v p then Some i else equal_place v (suc i) row)
equal_before v i vacant row = refl
equal_before v i (taken l t) row = refl

place_here : (ps : List Place) (i : ℕ) (p : Place) → i < length ps → p ≡ get_or ps i p → pure_row (drop i ps) ≡ before (pure_place p) (pure_row (drop (suc i) ps))
place_here [] i p inside is = absurd (omega (arith, inside))
place_here (q ∷ ps) zero p inside is = ap (λ x. before (pure_place x) (pure_row ps)) (sym is)
place_here (q ∷ ps) (suc i) p inside is = place_here ps i p (omega (arith, inside)) is

pub found_turn : (v : PureValue) (ps : List Place) (i : ℕ) (p : Place) → i < length ps → p ≡ get_or ps i p → false ≡ equal_there v (pure_place p)
    → equal_place v i (pure_row (drop i ps)) ≡ equal_place v (suc i) (pure_row (drop (suc i) ps))
found_turn v ps i p inside is e =
    ap (equal_place v i) (place_here ps i p inside is) ∙ equal_before v i (pure_place p) (pure_row (drop (suc i) ps)) ∙ ap (λ (b : Bool). if b then Some i else equal_place v (suc i) (pure_row (drop (suc i) ps))) (sym e)

pub found_stop : (v : PureValue) (ps : List Place) (i : ℕ) (p : Place) → i < length ps → p ≡ get_or ps i p → true ≡ equal_there v (pure_place p) → equal_place v i (pure_row (drop i ps)) ≡ Some i
found_stop v ps i p inside is e =
    ap (equal_place v i) (place_here ps i p inside is) ∙ equal_before v i (pure_place p) (pure_row (drop (suc i) ps)) ∙ ap (λ (b : Bool). if b then Some i else equal_place v (suc i) (pure_row (drop (suc i) ps))) (sym e)

pub found_end : (v : PureValue) (ps : List Place) (i : ℕ) → length ps ≤ i → equal_place v i (pure_row (drop i ps)) ≡ None
found_end v [] zero outside = refl
found_end v [] (suc i) outside = refl
found_end v (p ∷ ps) zero outside = absurd (omega (arith, outside))
found_end v (p ∷ ps) (suc i) outside = shifted v ps i (suc i) (omega (arith, outside))
  where
    shifted : (v : PureValue) (ps : List Place) (i j : ℕ) → length ps ≤ i → equal_place v j (pure_row (drop i ps)) ≡ None
    shifted v [] zero j outside = refl
    shifted v [] (suc i) j outside = refl
    shifted v (p ∷ ps) zero j outside = absurd (omega (arith, outside))
    shifted v (p ∷ ps) (suc i) j outside = shifted v ps i j (omega (arith, outside))

-- ---- indices

pub int_told : (n : ℕ) (t : r.Tree) (s : State) → given_int n s ≡ ok t s → optional_tree (int_tree n) ≡ wrapped t
int_told n t s e = go (int_tree n) e
  where
    go : (o : Option r.Tree) → with_some o give s ≡ ok t s → optional_tree o ≡ wrapped t
    go None e = absurd (cc e)
    go (Some x) e = ap wrapped (cc e)
