-- Rows in which no node has a label.
use Rattle.std.specs.Prelude.{ℕ, Bool, true, ◌&&◌, List, length, nat_eq}
use Rattle.cad_world.specs.Rows.{Row, stop, gap, node}

abbrev pub none : List ℕ → Bool
none labels = nat_eq (length labels) 0

abbrev pub unnamed : Row → Bool
unnamed stop = true
unnamed (gap r) = unnamed r
unnamed (node labels n shape parts r) = none labels && (unnamed parts && unnamed r)
