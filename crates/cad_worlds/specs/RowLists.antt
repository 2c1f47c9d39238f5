-- Rows in parts.
use Rattle.std.specs.Borrow.{Bor}
use Rattle.std.specs.Prelude.{List, ◌++◌, map}
use Rattle.cad_accounts.specs.Memory.{rows_in_blocks}
use Rattle.cad_accounts.specs.declared.row.Row.{Row}
use Rattle.cad_worlds.specs.declared.row_list.RowList.{RowList}

-- the rows, one behind another
abbrev pub rows_listed : RowList → List Row
rows_listed l = l.rows.now ++ rows_in_blocks l.blocks.now

-- the rows that are referred to
abbrev pub rows_at : List (Bor Row) → List Row
rows_at rows = map (λ (r : Bor Row). r.now) rows
