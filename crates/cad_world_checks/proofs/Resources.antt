-- Each resource has an identity: the test as the code goes.
use Rattle.std.proofs.Common.{◌≡◌, ◌<◌, ◌≤◌, ◌+◌, ℕ, zero, suc, Bool, true, false, List, length, drop, get_or, refl, sym, ap, ◌∙◌, add-one}
use Rattle.std.specs.Prelude.{◌&&◌, not}
use Rattle.cad_rows.proofs.CopyLaws.{from_there, past}
use Rattle.cad_rows.specs.Views.{PlaceView, vacant, taken, before, pure_row, pure_place}
use Rattle.cad_rows.specs.declared.tree.Place.{Place}
use Rattle.cad_syntax.specs.declared.text.Name.{Name}
use Rattle.cad_syntax.specs.declared.type_id.TypeId.{TypeId}
use Rattle.cad_types.specs.Declarations.{is_resource_sort}
use Rattle.cad_values.specs.Shapes.{Shapes, has_sort, shape_of}
use Rattle.cad_world.specs.Fits.{has_identity, have_identities}
use Rattle.cad_world.specs.Rows.{NodeShape, composite, Row, Tree, alone}
use Rattle.cad_world_checks.specs.Identities.{tree_has_identities, place_has_identities}

and_joins : (a b c : Bool) → (a && (b && c)) ≡ ((a && b) && c)
and_joins true b c = refl
and_joins false b c = refl

and_true : (a : Bool) → (a && true) ≡ a
and_true true = refl
and_true false = refl

-- ---- one node

pub node_with : (k : Shapes) (id : TypeId) (n : ℕ) (names : List Name) → (n ≡ 0 → ⊥) → has_identity k (composite id n names) ≡ true
node_with k id zero names some = absurd (some refl)
node_with k id (suc n) names some = refl

pub node_without : (k : Shapes) (id : TypeId) (n : ℕ) (names : List Name) → n ≡ 0 → has_identity k (composite id n names) ≡ not (has_sort is_resource_sort (shape_of k id))
node_without k id n names none = ap (λ (m : ℕ). has_identity k (composite id m names)) none

-- ---- a tree

pub tree_stops : (k : Shapes) (s : NodeShape) (r : Row) (b : Bool) → b ≡ has_identity k s → b ≡ false → false ≡ (has_identity k s && have_identities k r)
tree_stops k s r b is refuses = sym (ap (λ (c : Bool). c && have_identities k r) (sym is ∙ refuses))

pub tree_goes : (k : Shapes) (s : NodeShape) (r : Row) (b a : Bool) → b ≡ has_identity k s → b ≡ true → a ≡ have_identities k r → a ≡ (has_identity k s && have_identities k r)
tree_goes k s r b a is holds so = so ∙ sym (ap (λ (c : Bool). c && have_identities k r) (sym is ∙ holds))

pub alone_is : (k : Shapes) (t : Tree) (b : Bool) → b ≡ tree_has_identities k t → b ≡ have_identities k (alone t)
alone_is k t b e = e ∙ ap (λ (c : Bool). has_identity k t.shape && c) (sym (and_true (have_identities k t.parts)))

-- ---- a row

place_first : (k : Shapes) (v : PlaceView) (rest : Row) → have_identities k (before v rest) ≡ (place_has_identities k v && have_identities k rest)
place_first k vacant rest = refl
place_first k (taken l t) rest = and_joins (has_identity k t.shape) (have_identities k t.parts) (have_identities k rest)

from_place : (k : Shapes) (ps : List Place) (i : ℕ) (p : Place) (b : Bool) → i < length ps → p ≡ get_or ps i p → place_has_identities k (pure_place p) ≡ b → have_identities k (pure_row (drop i ps)) ≡ (b && have_identities k (pure_row (drop (suc i) ps)))
from_place k ps i p b lt is holds =
    ap (have_identities k) (from_there ps i p lt is) ∙ place_first k (pure_place p) (pure_row (drop (suc i) ps)) ∙ ap (λ (c : Bool). c && have_identities k (pure_row (drop (suc i) ps))) holds

pub row_turn : (k : Shapes) (ps : List Place) (i : ℕ) (p : Place) (all : Bool) → i < length ps → p ≡ get_or ps i p → place_has_identities k (pure_place p) ≡ true → have_identities k (pure_row (drop i ps)) ≡ all → have_identities k (pure_row (drop (i + 1) ps)) ≡ all
row_turn k ps i p all lt is holds so = rw (add-one i) (sym (from_place k ps i p true lt is holds) ∙ so)

pub row_break : (k : Shapes) (ps : List Place) (i : ℕ) (p : Place) (all : Bool) → i < length ps → p ≡ get_or ps i p → place_has_identities k (pure_place p) ≡ false → have_identities k (pure_row (drop i ps)) ≡ all → false ≡ all
row_break k ps i p all lt is fails so = sym (from_place k ps i p false lt is fails) ∙ so

pub row_end : (k : Shapes) (ps : List Place) (i : ℕ) (all : Bool) → length ps ≤ i → have_identities k (pure_row (drop i ps)) ≡ all → true ≡ all
row_end k ps i all end so = sym (ap (have_identities k) (past ps i end)) ∙ so
