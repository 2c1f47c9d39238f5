-- The way that the search takes leads to the first node with the label.
use Rattle.std.proofs.Common.{◌≡◌, ℕ, zero, suc, ◌+◌, ◌<◌, ◌≤◌, ◌==◌, ◌||◌, Bool, true, false, if◌then◌else◌, List, [], ◌∷◌, reverse, length, get_or, drop, Option, Some, None, option_map, refl, sym, ap, ◌∙◌, arith}
use Rattle.std.proofs.lemmas.List.{reverse-append}
use Rattle.cad_world.specs.Rows as r
use Rattle.cad_world.specs.Rows.{Row, Found, found, either, is_one_of}
use Rattle.cad_rows.specs.Views.{PlaceView, vacant, taken, before, pure_row, pure_place}
use Rattle.cad_rows.specs.Ways.{node_of_place, node_in, node_at, below, further, way_from, way_in}
use Rattle.cad_rows.proofs.CopyLaws.{from_there, past}
use Rattle.cad_rows.specs.declared.tree.Place.{Place}

-- ---- the node at an index

node_first : (v : PlaceView) (row : Row) → node_in 0 (before v row) ≡ node_of_place v
node_first vacant row = refl
node_first (taken l t) row = refl

node_later : (i : ℕ) (v : PlaceView) (row : Row) → node_in (suc i) (before v row) ≡ node_in i row
node_later i vacant row = refl
node_later i (taken l t) row = refl

pub node_there : (i : ℕ) (ps : List Place) (p : Place) → i < length ps → p ≡ get_or ps i p → node_in i (pure_row ps) ≡ node_of_place (pure_place p)
node_there i [] p inside e = absurd (omega (arith, inside))
node_there zero (q ∷ ps) p inside e = node_first (pure_place q) (pure_row ps) ∙ ap (λ x. node_of_place (pure_place x)) (sym e)
node_there (suc i) (q ∷ ps) p inside e = node_later i (pure_place q) (pure_row ps) ∙ node_there i ps p (omega (arith, inside)) e

pub node_nowhere : (i : ℕ) (ps : List Place) → length ps ≤ i → node_in i (pure_row ps) ≡ None
node_nowhere i [] outside = refl
node_nowhere zero (q ∷ ps) outside = absurd (omega (arith, outside))
node_nowhere (suc i) (q ∷ ps) outside = node_later i (pure_place q) (pure_row ps) ∙ node_nowhere i ps (omega (arith, outside))

-- ---- the search, place by place

way_before : (p i : ℕ) (v : PlaceView) (row : Row) → way_from p i (before v row) ≡ either (way_in p i v) (way_from p (suc i) row)
way_before p i vacant row = refl
way_before p i (taken l t) row = refl

pub way_turn : (ps : List Place) (i p : ℕ) (x : Place) → i < length ps → x ≡ get_or ps i x → None ≡ way_in p i (pure_place x) → way_from p (suc i) (pure_row (drop (suc i) ps)) ≡ way_from p i (pure_row (drop i ps))
way_turn ps i p x inside is none =
    ap (λ o. either o (way_from p (suc i) (pure_row (drop (suc i) ps)))) none
    ∙ sym (way_before p i (pure_place x) (pure_row (drop (suc i) ps)))
    ∙ ap (way_from p i) (sym (from_there ps i x inside is))

pub way_stop : (ps : List Place) (i p : ℕ) (x : Place) (w : List ℕ) → i < length ps → x ≡ get_or ps i x → Some w ≡ way_in p i (pure_place x) → Some w ≡ way_from p i (pure_row (drop i ps))
way_stop ps i p x w inside is some =
    ap (λ o. either o (way_from p (suc i) (pure_row (drop (suc i) ps)))) some
    ∙ sym (way_before p i (pure_place x) (pure_row (drop (suc i) ps)))
    ∙ ap (way_from p i) (sym (from_there ps i x inside is))

pub way_end : (ps : List Place) (i p : ℕ) → length ps ≤ i → None ≡ way_from p i (pure_row (drop i ps))
way_end ps i p outside = ap (way_from p i) (sym (past ps i outside))

-- ---- where the way leads

content : Option (Option Found) → Option Found
content None = None
content (Some x) = x

is_some_found : Option (Option Found) → Bool
is_some_found None = false
is_some_found (Some x) = true

is_there : Option Found → Bool
is_there None = false
is_there (Some x) = true

-- from the i-th place on a row is this one
abbrev Agrees : ℕ → Row → Row → Type 0
Agrees i whole row = (j : ℕ) → node_in (i + j) whole ≡ node_in j row

deeper : (i : ℕ) (whole : Row) (x f : Found) (way : List ℕ) → node_in i whole ≡ Some x → node_at way x.tree.parts ≡ Some f → node_at (i ∷ way) whole ≡ Some f
unfolding is_there
deeper i whole x f [] there e = absurd (cc (ap is_there e))
deeper i whole x f (j ∷ way) there e = ap (below (λ k. node_at (j ∷ way) k)) there ∙ e

leads : (p i : ℕ) (whole row : Row) → Agrees i whole row → option_map (λ w. node_at (reverse w) whole) (way_from p i row) ≡ option_map Some (found p row)
unfolding content is_some_found
leads p i whole r.stop same = refl
leads p i whole (r.gap row) same = leads p (suc i) whole row (λ j. ap (λ (x : ℕ). node_in x whole) (omega arith) ∙ same (suc j))
leads p i whole (r.node l n s k row) same =
    go (is_one_of p l) (way_from p 0 k) (found p k)
    (leads p 0 k k (λ j. ap (λ (x : ℕ). node_in x k) (omega arith)))
    (leads p (suc i) whole row (λ j. ap (λ (x : ℕ). node_in x whole) (omega arith) ∙ same (suc j)))
  where
    here : Found
    here = record { labels = l; tree = record { optionals = n; shape = s; parts = k } }

    go : (b : Bool) (o : Option (List ℕ)) (f : Option Found)
        → option_map (λ w. node_at (reverse w) k) o ≡ option_map Some f
        → option_map (λ w. node_at (reverse w) whole) (way_from p (suc i) row) ≡ option_map Some (found p row)
        → option_map (λ w. node_at (reverse w) whole) (either (if b then Some (i ∷ []) else further i o) (way_from p (suc i) row)) ≡ option_map Some (if b then Some here else either f (found p row))
    go true o f inner rest = ap Some (ap (λ (x : ℕ). node_in x whole) (omega arith) ∙ same 0)
    go false None None inner rest = rest
    go false None (Some f) inner rest = absurd (cc (ap is_some_found inner))
    go false (Some w) None inner rest = absurd (cc (ap is_some_found inner))
    go false (Some w) (Some f) inner rest =
        ap (λ u. Some (node_at u whole)) (reverse-append w (i ∷ []))
        ∙ ap Some (deeper i whole here f (reverse w) (ap (λ (x : ℕ). node_in x whole) (omega arith) ∙ same 0) (ap content inner))

pub way_there : (p : ℕ) (row : Row) (w : List ℕ) → Some w ≡ way_from p 0 row → Some (node_at (reverse w) row) ≡ option_map Some (found p row)
way_there p row w e = ap (λ o. option_map (λ u. node_at (reverse u) row) o) e ∙ leads p 0 row row (λ j. ap (λ (x : ℕ). node_in x row) (omega arith))

pub way_nowhere : (p : ℕ) (row : Row) → None ≡ way_from p 0 row → None ≡ option_map Some (found p row)
way_nowhere p row e = ap (λ o. option_map (λ u. node_at (reverse u) row) o) e ∙ leads p 0 row row (λ j. ap (λ (x : ℕ). node_in x row) (omega arith))

-- ---- a label at an index

or_true : (b : Bool) → (b || true) ≡ true
or_true true = refl
or_true false = refl

pub is_at : (p i : ℕ) (l : List ℕ) → i < length l → (p == get_or l i 0) ≡ true → is_one_of p l ≡ true
is_at p i [] inside e = absurd (omega (arith, inside))
is_at p zero (q ∷ qs) inside e = ap (λ b. b || is_one_of p qs) e
is_at p (suc i) (q ∷ qs) inside e = ap (λ b. (p == q) || b) (is_at p i qs (omega (arith, inside)) e) ∙ or_true (p == q)
