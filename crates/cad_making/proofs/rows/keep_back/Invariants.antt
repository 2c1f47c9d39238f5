use Rattle.std.proofs.Common.{◌≡◌, ◌-◌}
use Rattle.cad_world.specs.Rows.{back}
use Rattle.cad_rows.specs.Views.{pure_row}
use Rattle.cad_making.proofs.rows.keep_back.Given as goal

abbrev pub invariant-loop : goal.invariant-loop
invariant-loop l = back (l.n - l.counter) (pure_row l.row.items) ≡ back l.n (pure_row l.fn.row.items)
