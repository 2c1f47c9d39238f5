-- The test finds exactly the trees of values.
use Rattle.std.proofs.Common.{◌≡◌, ◌↔◌, ◌<◌, ◌≤◌, ◌+◌, IsTrue, ℕ, zero, suc, Bool, true, false, List, [], ◌∷◌, length, drop, get_or, refl, sym, ap, subst, ◌∙◌, add-one, arith}
use Rattle.std.specs.Prelude.{◌&&◌, ◌==◌}
use Rattle.std.proofs.lemmas.Bool.{false≢true, eqb-true, eq-eqb}
use Rattle.cad_accounts.proofs.Order.{both, both_left, both_right}
use Rattle.cad_rows.proofs.CopyLaws.{from_there, past}
use Rattle.cad_rows.specs.Views.{PlaceView, vacant, taken, before, pure_row, pure_place, pure_shape, pure_tree, place_step, tree_step}
use Rattle.cad_rows.specs.declared.tree.Place.{Place}
use Rattle.cad_rows.specs.declared.tree.Place.TheFolds.{fold_out-Tree}
use Rattle.cad_rows.specs.declared.tree.Tree as held
use Rattle.cad_syntax.specs.declared.text.Name.{Name}
use Rattle.cad_values.specs.Values.{PureValue, some, Values, no_values, values, Entries, no_entries, entries, keys, Fields, no_fields, fields, names}
use Rattle.cad_values.specs.Values as v
use Rattle.cad_world.specs.Fits.{IsOfValue}
use Rattle.cad_world.specs.Rows.{NodeShape, plain, link, array, dictionary, composite, Row, stop, gap, node, Tree, count_places}
use Rattle.cad_world.specs.Trees.{tree_of, row_of, entries_row, fields_row, value_of, values_in, shaped, in_optionals, keyed, named_values, wrapped}
use Rattle.cad_world_checks.specs.OfValues.{is_plain, has_parts, none_named, are_of_values, is_of_value, place_is_of_value}

-- ---- the tree of a value passes

-- as many places as keys, and as names
keys_placed : (es : Entries) → length (keys es) ≡ count_places (entries_row es)
keys_placed no_entries = refl
keys_placed (entries k x es) = ap suc (keys_placed es)

names_placed : (fs : Fields) → length (names fs) ≡ count_places (fields_row fs)
names_placed no_fields = refl
names_placed (fields n x fs) = ap suc (names_placed fs)

mutual
  value_passes : (x : PureValue) → is_of_value (tree_of x) ≡ true
  value_passes (some x) = value_passes x
  value_passes (v.array t vs) = values_pass vs
  value_passes (v.dictionary k t es) = both (length (keys es) == count_places (entries_row es)) (are_of_values (entries_row es)) (eq-eqb (length (keys es)) (count_places (entries_row es)) (keys_placed es)) (entries_pass es)
  value_passes (v.composite id n fs) = both (length (names fs) == count_places (fields_row fs)) (are_of_values (fields_row fs)) (eq-eqb (length (names fs)) (count_places (fields_row fs)) (names_placed fs)) (fields_pass fs)
  value_passes _ = refl

  values_pass : (vs : Values) → are_of_values (row_of vs) ≡ true
  values_pass no_values = refl
  values_pass (values x vs) = both (is_of_value (tree_of x)) (are_of_values (row_of vs)) (value_passes x) (values_pass vs)

  entries_pass : (es : Entries) → are_of_values (entries_row es) ≡ true
  entries_pass no_entries = refl
  entries_pass (entries k x es) = both (is_of_value (tree_of x)) (are_of_values (entries_row es)) (value_passes x) (entries_pass es)

  fields_pass : (fs : Fields) → are_of_values (fields_row fs) ≡ true
  fields_pass no_fields = refl
  fields_pass (fields n x fs) = both (is_of_value (tree_of x)) (are_of_values (fields_row fs)) (value_passes x) (fields_pass fs)

pub of_value_passes : (t : Tree) → IsOfValue t → is_of_value t ≡ true
of_value_passes t e = subst (λ (u : Tree). is_of_value u ≡ true) e (value_passes (value_of t))

-- ---- what passes is the tree of its value

abbrev tree : ℕ → NodeShape → Row → Tree
tree n s k = record { optionals = n; shape = s; parts = k }

optional_tree : (n : ℕ) (x : PureValue) (s : NodeShape) (k : Row) → tree_of x ≡ tree 0 s k → tree_of (in_optionals n x) ≡ tree n s k
optional_tree zero x s k e = e
optional_tree (suc n) x s k e = ap wrapped (optional_tree n x s k e)

plain_tree : (x : PureValue) → is_plain x ≡ true → tree_of x ≡ tree 0 (plain x) stop
plain_tree (some x) e = absurd cc
plain_tree (v.array t vs) e = absurd cc
plain_tree (v.dictionary k t es) e = absurd cc
plain_tree (v.composite id n fs) e = absurd cc
plain_tree v.void e = refl
plain_tree v.nil e = refl
plain_tree (v.bool b) e = refl
plain_tree (v.number n) e = refl
plain_tree (v.string t) e = refl
plain_tree (v.character t) e = refl
plain_tree (v.address a) e = refl
plain_tree (v.path p) e = refl
plain_tree (v.meta t) e = refl
plain_tree (v.capability a n t) e = refl
plain_tree (v.reference a t to) e = refl

no_places : (k : Row) → count_places k ≡ 0 → k ≡ stop
no_places stop e = refl
no_places (gap r) e = absurd (omega (arith, e))
no_places (node l n s k r) e = absurd (omega (arith, e))

-- what is known of a row: of its places as elements, as entries under keys, and as fields under names
record Back (r : Row) : Type 0 where
  pub as_row : are_of_values r ≡ true → row_of (values_in r) ≡ r
  pub as_entries : (ks : List PureValue) → length ks ≡ count_places r → are_of_values r ≡ true → (keys (keyed ks (values_in r)) ≡ ks) × (entries_row (keyed ks (values_in r)) ≡ r)
  pub as_fields : (ns : List Name) → length ns ≡ count_places r → are_of_values r ≡ true → (names (named_values ns (values_in r)) ≡ ns) × (fields_row (named_values ns (values_in r)) ≡ r)

node_back : (n : ℕ) (s : NodeShape) (k : Row) → Back k → has_parts s (count_places k) ≡ true → are_of_values k ≡ true → tree_of (in_optionals n (shaped s (values_in k))) ≡ tree n s k
node_back n (plain x) k known e a =
    let empty : k ≡ stop = no_places k (eqb-true (count_places k) 0 (both_right (is_plain x) (count_places k == 0) e)) in
    optional_tree n x (plain x) stop (plain_tree x (both_left (is_plain x) (count_places k == 0) e)) ∙ ap (tree n (plain x)) (sym empty)
node_back n (link b l m) k known e a = absurd cc
node_back n (array t) k known e a = optional_tree n (v.array t (values_in k)) (array t) k (ap (tree 0 (array t)) (known.as_row a))
node_back n (dictionary p t ks) k known e a =
    let found = known.as_entries ks (eqb-true (length ks) (count_places k) e) a in
    optional_tree n (v.dictionary p t (keyed ks (values_in k))) (dictionary p t ks) k (λ i. tree 0 (dictionary p t (found.0 i)) (found.1 i))
node_back n (composite id m ns) k known e a =
    let found = known.as_fields ns (eqb-true (length ns) (count_places k) e) a in
    optional_tree n (v.composite id m (named_values ns (values_in k))) (composite id m ns) k (λ i. tree 0 (composite id m (found.0 i)) (found.1 i))

-- a place passes
abbrev passes : List ℕ → NodeShape → Row → Bool
passes l s k = none_named l && (has_parts s (count_places k) && are_of_values k)

-- the labels, and the tree
one_back : (l : List ℕ) (n : ℕ) (s : NodeShape) (k : Row) → Back k → passes l s k ≡ true → ([] ≡ l) × (tree_of (in_optionals n (shaped s (values_in k))) ≡ tree n s k)
one_back (l ∷ ls) n s k known e = absurd cc
one_back [] n s k known e = (refl, node_back n s k known (both_left (has_parts s (count_places k)) (are_of_values k) e) (both_right (has_parts s (count_places k)) (are_of_values k) e))

row_back : (l : List ℕ) (n : ℕ) (s : NodeShape) (k r : Row) → Back k → Back r → are_of_values (node l n s k r) ≡ true → row_of (values_in (node l n s k r)) ≡ node l n s k r
row_back l n s k r inside behind a =
    let one = one_back l n s k inside (both_left (passes l s k) (are_of_values r) a) in
    let rest = behind.as_row (both_right (passes l s k) (are_of_values r) a) in
    λ i. node (one.0 i) (one.1 i).optionals (one.1 i).shape (one.1 i).parts (rest i)

entries_back : (l : List ℕ) (n : ℕ) (s : NodeShape) (k r : Row) → Back k → Back r → (ks : List PureValue) → length ks ≡ count_places (node l n s k r) → are_of_values (node l n s k r) ≡ true
    → (keys (keyed ks (values_in (node l n s k r))) ≡ ks) × (entries_row (keyed ks (values_in (node l n s k r))) ≡ node l n s k r)
entries_back l n s k r inside behind [] e a = absurd (omega (arith, e))
entries_back l n s k r inside behind (x ∷ ks) e a =
    let one = one_back l n s k inside (both_left (passes l s k) (are_of_values r) a) in
    let rest = behind.as_entries ks (omega (arith, e)) (both_right (passes l s k) (are_of_values r) a) in
    (ap (λ (xs : List PureValue). x ∷ xs) rest.0, (λ i. node (one.0 i) (one.1 i).optionals (one.1 i).shape (one.1 i).parts (rest.1 i)))

fields_back : (l : List ℕ) (n : ℕ) (s : NodeShape) (k r : Row) → Back k → Back r → (ns : List Name) → length ns ≡ count_places (node l n s k r) → are_of_values (node l n s k r) ≡ true
    → (names (named_values ns (values_in (node l n s k r))) ≡ ns) × (fields_row (named_values ns (values_in (node l n s k r))) ≡ node l n s k r)
fields_back l n s k r inside behind [] e a = absurd (omega (arith, e))
fields_back l n s k r inside behind (x ∷ ns) e a =
    let one = one_back l n s k inside (both_left (passes l s k) (are_of_values r) a) in
    let rest = behind.as_fields ns (omega (arith, e)) (both_right (passes l s k) (are_of_values r) a) in
    (ap (λ (xs : List Name). x ∷ xs) rest.0, (λ i. node (one.0 i) (one.1 i).optionals (one.1 i).shape (one.1 i).parts (rest.1 i)))

no_entries_back : (ks : List PureValue) → length ks ≡ 0 → (keys (keyed ks (values_in stop)) ≡ ks) × (entries_row (keyed ks (values_in stop)) ≡ stop)
no_entries_back [] e = (refl, refl)
no_entries_back (x ∷ ks) e = absurd (omega (arith, e))

no_fields_back : (ns : List Name) → length ns ≡ 0 → (names (named_values ns (values_in stop)) ≡ ns) × (fields_row (named_values ns (values_in stop)) ≡ stop)
no_fields_back [] e = (refl, refl)
no_fields_back (x ∷ ns) e = absurd (omega (arith, e))

back : (r : Row) → Back r
back stop = record { as_row = λ a. refl; as_entries = λ ks e a. no_entries_back ks e; as_fields = λ ns e a. no_fields_back ns e }
back (gap r) = record { as_row = λ a. absurd (false≢true a); as_entries = λ ks e a. absurd (false≢true a); as_fields = λ ns e a. absurd (false≢true a) }
back (node l n s k r) = record { as_row = row_back l n s k r (back k) (back r); as_entries = entries_back l n s k r (back k) (back r); as_fields = fields_back l n s k r (back k) (back r) }

pub passes_of_value : (t : Tree) → is_of_value t ≡ true → IsOfValue t
passes_of_value t e = node_back t.optionals t.shape t.parts (back t.parts) (both_left (has_parts t.shape (count_places t.parts)) (are_of_values t.parts) e) (both_right (has_parts t.shape (count_places t.parts)) (are_of_values t.parts) e)

pub of_value_by_test : (b : Bool) (t : Tree) → b ≡ is_of_value t → IsTrue b ↔ IsOfValue t
of_value_by_test b t e = ((λ h. passes_of_value t (sym e ∙ h)), (λ h. e ∙ of_value_passes t h))

-- ---- the test as the code goes

place_first : (v : PlaceView) (rest : Row) → are_of_values (before v rest) ≡ (place_is_of_value v && are_of_values rest)
place_first vacant rest = refl
place_first (taken l t) rest = refl

from_place : (ps : List Place) (i : ℕ) (p : Place) (b : Bool) → i < length ps → p ≡ get_or ps i p → place_is_of_value (pure_place p) ≡ b → are_of_values (pure_row (drop i ps)) ≡ (b && are_of_values (pure_row (drop (suc i) ps)))
from_place ps i p b lt is holds =
    ap are_of_values (from_there ps i p lt is) ∙ place_first (pure_place p) (pure_row (drop (suc i) ps)) ∙ ap (λ (c : Bool). c && are_of_values (pure_row (drop (suc i) ps))) holds

pub row_turn : (ps : List Place) (i : ℕ) (p : Place) (all : Bool) → i < length ps → p ≡ get_or ps i p → place_is_of_value (pure_place p) ≡ true → are_of_values (pure_row (drop i ps)) ≡ all → are_of_values (pure_row (drop (i + 1) ps)) ≡ all
row_turn ps i p all lt is holds so = rw (add-one i) (sym (from_place ps i p true lt is holds) ∙ so)

pub row_break : (ps : List Place) (i : ℕ) (p : Place) (all : Bool) → i < length ps → p ≡ get_or ps i p → place_is_of_value (pure_place p) ≡ false → are_of_values (pure_row (drop i ps)) ≡ all → false ≡ all
row_break ps i p all lt is fails so = sym (from_place ps i p false lt is fails) ∙ so

pub row_end : (ps : List Place) (i : ℕ) (all : Bool) → length ps ≤ i → are_of_values (pure_row (drop i ps)) ≡ all → true ≡ all
row_end ps i all end so = sym (ap are_of_values (past ps i end)) ∙ so

count_later : (v : PlaceView) (row : Row) → count_places (before v row) ≡ suc (count_places row)
count_later vacant row = refl
count_later (taken l t) row = refl

counted : (ps : List Place) → length ps ≡ count_places (pure_row ps)
counted [] = refl
counted (p ∷ ps) = ap suc (counted ps) ∙ sym (count_later (pure_place p) (pure_row ps))

-- a tree by its parts
pub tree_at : (t : held.Tree) → pure_tree t ≡ record { optionals = t.optionals; shape = pure_shape t.shape; parts = pure_row t.parts.items }
tree_at t = fold_out-Tree PlaceView Tree place_step tree_step t

parts_are : (s : NodeShape) (ps : List Place) (n : ℕ) (b c : Bool) → n ≡ length ps → b ≡ has_parts s n → b ≡ c → (has_parts s (count_places (pure_row ps)) && are_of_values (pure_row ps)) ≡ (c && are_of_values (pure_row ps))
parts_are s ps n b c e is so = ap (λ (d : Bool). d && are_of_values (pure_row ps)) (sym (is ∙ ap (has_parts s) (e ∙ counted ps)) ∙ so)

pub tree_stops : (s : NodeShape) (ps : List Place) (n : ℕ) (b : Bool) → n ≡ length ps → b ≡ has_parts s n → b ≡ false → false ≡ (has_parts s (count_places (pure_row ps)) && are_of_values (pure_row ps))
tree_stops s ps n b e is refuses = sym (parts_are s ps n b false e is refuses)

pub tree_goes : (s : NodeShape) (ps : List Place) (n : ℕ) (b r : Bool) → n ≡ length ps → b ≡ has_parts s n → b ≡ true → r ≡ are_of_values (pure_row ps) → r ≡ (has_parts s (count_places (pure_row ps)) && are_of_values (pure_row ps))
tree_goes s ps n b r e is holds so = so ∙ sym (parts_are s ps n b true e is holds)
