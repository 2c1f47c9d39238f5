-- What a way and a label tell.
use Rattle.std.specs.Prelude.{◌≡◌, ◌≤◌, ℕ, List, Some, true}
use Rattle.cad_world.specs.Marks.{marks}
use Rattle.cad_world.specs.Rows.{NodeShape, Row, Found, is_one_of, found, changed}
use Rattle.cad_rows.specs.Ways.{node_at}
use Rattle.cad_rows.specs.Exchanges.{exchanged}

-- Where a label stands once in a row at most, a node at a way that has it is the one that is found by it, and the one that is
-- changed by it.
abbrev pub IsTheNode : Type 0
IsTheNode =
    (p : ℕ) (way : List ℕ) (row : Row) (x : Found) → marks p row ≤ 1 → node_at way row ≡ Some x → is_one_of p x.labels ≡ true
    → (found p row ≡ Some x) × ((shape : NodeShape) (parts : Row) → changed p shape parts row ≡ exchanged way shape parts row)
