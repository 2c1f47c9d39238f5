-- Rows with a node's shape and parts exchanged, of their lists of places; and that this is the node with the label.
use Rattle.std.proofs.Common.{◌≡◌, ℕ, zero, suc, ◌<◌, ◌≤◌, List, [], ◌∷◌, length, get_or, set, Option, refl, sym, ap, ◌∙◌, arith}
use Rattle.cad_world.specs.Rows.{NodeShape, Row, Found}
use Rattle.cad_rows.specs.Views.{PlaceView, vacant, taken, before, pure_row, pure_place}
use Rattle.cad_rows.specs.Ways.{node_of_place, node_in, below}
use Rattle.cad_rows.specs.Exchanges.{reshaped, within, reshaped_place, within_place, below_place}
use Rattle.cad_rows.proofs.WayLaws.{node_there}
use Rattle.cad_rows.specs.declared.tree.Place.{Place}

reshaped_first : (s : NodeShape) (k : Row) (v : PlaceView) (row : Row) → reshaped 0 s k (before v row) ≡ before (reshaped_place s k v) row
reshaped_first s k vacant row = refl
reshaped_first s k (taken l t) row = refl

reshaped_later : (i : ℕ) (s : NodeShape) (k : Row) (v : PlaceView) (row : Row) → reshaped (suc i) s k (before v row) ≡ before v (reshaped i s k row)
reshaped_later i s k vacant row = refl
reshaped_later i s k (taken l t) row = refl

within_first : (g : Row → Row) (v : PlaceView) (row : Row) → within 0 g (before v row) ≡ before (within_place g v) row
within_first g vacant row = refl
within_first g (taken l t) row = refl

within_later : (i : ℕ) (g : Row → Row) (v : PlaceView) (row : Row) → within (suc i) g (before v row) ≡ before v (within i g row)
within_later i g vacant row = refl
within_later i g (taken l t) row = refl

pub reshaped_there : (i : ℕ) (ps : List Place) (old p : Place) (s : NodeShape) (k : Row) → i < length ps → old ≡ get_or ps i old → pure_place p ≡ reshaped_place s k (pure_place old) → pure_row (set ps i p) ≡ reshaped i s k (pure_row ps)
reshaped_there i [] old p s k inside is e = absurd (omega (arith, inside))
reshaped_there zero (q ∷ ps) old p s k inside is e =
    ap (λ v. before v (pure_row ps)) (e ∙ ap (λ x. reshaped_place s k (pure_place x)) is) ∙ sym (reshaped_first s k (pure_place q) (pure_row ps))
reshaped_there (suc i) (q ∷ ps) old p s k inside is e = ap (before (pure_place q)) (reshaped_there i ps old p s k (omega (arith, inside)) is e) ∙ sym (reshaped_later i s k (pure_place q) (pure_row ps))

pub reshaped_nowhere : (i : ℕ) (ps : List Place) (s : NodeShape) (k : Row) → length ps ≤ i → pure_row ps ≡ reshaped i s k (pure_row ps)
reshaped_nowhere i [] s k outside = refl
reshaped_nowhere zero (q ∷ ps) s k outside = absurd (omega (arith, outside))
reshaped_nowhere (suc i) (q ∷ ps) s k outside = ap (before (pure_place q)) (reshaped_nowhere i ps s k (omega (arith, outside))) ∙ sym (reshaped_later i s k (pure_place q) (pure_row ps))

pub within_there : (i : ℕ) (ps : List Place) (old p : Place) (g : Row → Row) → i < length ps → old ≡ get_or ps i old → pure_place p ≡ within_place g (pure_place old) → pure_row (set ps i p) ≡ within i g (pure_row ps)
within_there i [] old p g inside is e = absurd (omega (arith, inside))
within_there zero (q ∷ ps) old p g inside is e =
    ap (λ v. before v (pure_row ps)) (e ∙ ap (λ x. within_place g (pure_place x)) is) ∙ sym (within_first g (pure_place q) (pure_row ps))
within_there (suc i) (q ∷ ps) old p g inside is e = ap (before (pure_place q)) (within_there i ps old p g (omega (arith, inside)) is e) ∙ sym (within_later i g (pure_place q) (pure_row ps))

pub within_nowhere : (i : ℕ) (ps : List Place) (g : Row → Row) → length ps ≤ i → pure_row ps ≡ within i g (pure_row ps)
within_nowhere i [] g outside = refl
within_nowhere zero (q ∷ ps) g outside = absurd (omega (arith, outside))
within_nowhere (suc i) (q ∷ ps) g outside = ap (before (pure_place q)) (within_nowhere i ps g (omega (arith, outside))) ∙ sym (within_later i g (pure_place q) (pure_row ps))

below_one : (f : Row → Option Found) (v : PlaceView) → below f (node_of_place v) ≡ below_place f v
below_one f vacant = refl
below_one f (taken l t) = refl

pub below_there : (i : ℕ) (ps : List Place) (p : Place) (f : Row → Option Found) → i < length ps → p ≡ get_or ps i p → below f (node_in i (pure_row ps)) ≡ below_place f (pure_place p)
below_there i ps p f inside is = ap (below f) (node_there i ps p inside is) ∙ below_one f (pure_place p)
