use Rattle.std.proofs.Common.{◌≡◌, ◌++◌, drop}
use Rattle.cad_evaluation.specs.Ending.{passing}
use Rattle.cad_rows.specs.Views.{pure_row}
use Rattle.cad_making.specs.Code.Ends.{told_in}
use Rattle.cad_making.proofs.ends.+types.Given as goal

abbrev pub invariant-add_row_types-loop-place : goal.invariant-add_row_types-loop-place
invariant-add_row_types-loop-place l = l.types ++ passing (told_in l.state) (pure_row (drop l.place-index l.row)) ≡ l.fn.types ++ passing (told_in l.state) (pure_row l.row)
