-- Rows of parts that are being made.
use Rattle.std.specs.Prelude.{List, [], ◌∷◌}
use Rattle.cad_paths.specs.Paths.{PathBody}
use Rattle.cad_moves.specs.Views.{PathItem, placed}

-- a row of parts before what follows
abbrev pub row_over : List PathItem → PathBody → PathBody
row_over [] rest = rest
row_over (i ∷ items) rest = placed i (row_over items rest)
