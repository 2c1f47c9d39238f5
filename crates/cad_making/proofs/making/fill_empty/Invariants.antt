use Rattle.std.proofs.Common.{◌≡◌}
use Rattle.cad_world.specs.Rows.{empty_places}
use Rattle.cad_rows.specs.Views.{pure_row}
use Rattle.cad_making.proofs.making.fill_empty.Given as goal

abbrev pub invariant-loop : goal.invariant-loop
invariant-loop l = pure_row l.row.items ≡ empty_places l.counter
