use Rattle.std.proofs.Common.{drop}
use Rattle.cad_casts.specs.Code.Rows.{RestIsAll}
use Rattle.cad_rows.specs.Views.{pure_row}
use Rattle.cad_syntax.specs.Types.{pure_type}
use Rattle.cad_casts.proofs.own_types.check_row.Given as goal

abbrev pub invariant-loop-place : goal.invariant-loop-place
invariant-loop-place l = RestIsAll (pure_type l.wanted) (pure_row (drop l.place-index l.row)) (pure_row l.row) l.state l.fn.state
