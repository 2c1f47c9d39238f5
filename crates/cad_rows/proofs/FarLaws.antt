-- A way of one index, and a way that goes on.
use Rattle.std.proofs.Common.{◌≡◌, ℕ, ◌<◌, ◌≤◌, List, [], ◌∷◌, length, get_or, set, Some, None, refl, sym, ap, ◌∙◌, arith}
use Rattle.cad_world.specs.Rows.{NodeShape, Row, Found}
use Rattle.cad_rows.specs.Views.{pure_row, pure_place}
use Rattle.cad_rows.specs.Ways.{node_in, node_at, below}
use Rattle.cad_rows.specs.Exchanges.{reshaped, within, exchanged, within_place, below_place}
use Rattle.cad_rows.proofs.WayLaws.{node_nowhere}
use Rattle.cad_rows.proofs.ExchangeLaws.{within_there, within_nowhere, below_there}
use Rattle.cad_rows.specs.declared.tree.Place.{Place}

pub near_node : (i : ℕ) (rest : List ℕ) (row : Row) → length rest ≡ 0 → node_at (i ∷ rest) row ≡ node_in i row
near_node i [] row e = refl
near_node i (j ∷ rest) row e = absurd (omega (arith, e))

pub near_exchanged : (i : ℕ) (rest : List ℕ) (s : NodeShape) (k row : Row) → length rest ≡ 0 → exchanged (i ∷ rest) s k row ≡ reshaped i s k row
near_exchanged i [] s k row e = refl
near_exchanged i (j ∷ rest) s k row e = absurd (omega (arith, e))

far_node : (i : ℕ) (rest : List ℕ) (row : Row) → 0 < length rest → node_at (i ∷ rest) row ≡ below (λ q. node_at rest q) (node_in i row)
far_node i [] row e = absurd (omega (arith, e))
far_node i (j ∷ rest) row e = refl

far_row : (i : ℕ) (rest : List ℕ) (s : NodeShape) (k row : Row) → 0 < length rest → exchanged (i ∷ rest) s k row ≡ within i (λ q. exchanged rest s k q) row
far_row i [] s k row e = absurd (omega (arith, e))
far_row i (j ∷ rest) s k row e = refl

pub far_below : (i : ℕ) (rest : List ℕ) (row : Row) (x : Found) → 0 < length rest → Some x ≡ node_in i row → node_at rest x.tree.parts ≡ node_at (i ∷ rest) row
far_below i rest row x long e = ap (below (λ q. node_at rest q)) e ∙ sym (far_node i rest row long)

pub far_none : (i : ℕ) (rest : List ℕ) (row : Row) → 0 < length rest → None ≡ node_in i row → None ≡ node_at (i ∷ rest) row
far_none i rest row long e = ap (below (λ q. node_at rest q)) e ∙ sym (far_node i rest row long)

pub far_there : (i : ℕ) (rest : List ℕ) (ps : List Place) (p : Place) → 0 < length rest → i < length ps → p ≡ get_or ps i p → below_place (λ q. node_at rest q) (pure_place p) ≡ node_at (i ∷ rest) (pure_row ps)
far_there i rest ps p long inside is = sym (below_there i ps p (λ q. node_at rest q) inside is) ∙ sym (far_node i rest (pure_row ps) long)

pub far_nowhere : (i : ℕ) (rest : List ℕ) (ps : List Place) → 0 < length rest → length ps ≤ i → node_at (i ∷ rest) (pure_row ps) ≡ None
far_nowhere i rest ps long outside = far_node i rest (pure_row ps) long ∙ ap (below (λ q. node_at rest q)) (node_nowhere i ps outside)

pub far_exchanged : (i : ℕ) (rest : List ℕ) (ps : List Place) (old p : Place) (s : NodeShape) (k : Row) → 0 < length rest → i < length ps → old ≡ get_or ps i old → pure_place p ≡ within_place (λ q. exchanged rest s k q) (pure_place old) → pure_row (set ps i p) ≡ exchanged (i ∷ rest) s k (pure_row ps)
far_exchanged i rest ps old p s k long inside is e = within_there i ps old p (λ q. exchanged rest s k q) inside is e ∙ sym (far_row i rest s k (pure_row ps) long)

pub far_same : (i : ℕ) (rest : List ℕ) (ps : List Place) (s : NodeShape) (k : Row) → 0 < length rest → length ps ≤ i → pure_row ps ≡ exchanged (i ∷ rest) s k (pure_row ps)
far_same i rest ps s k long outside = within_nowhere i ps (λ q. exchanged rest s k q) outside ∙ sym (far_row i rest s k (pure_row ps) long)
