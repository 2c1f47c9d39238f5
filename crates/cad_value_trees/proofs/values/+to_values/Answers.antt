use Rattle.std.proofs.Common.{map, arith}
use Rattle.cad_values.specs.Values.{pure_value}
use Rattle.cad_rows.specs.Views.{pure_row}
use Rattle.cad_value_trees.proofs.ValueLaws.{listed_end}
use Rattle.cad_value_trees.proofs.values.+to_values.Goals as goal

pub values_from_row-returns : goal.values_from_row-returns
values_from_row-returns t c = listed_end c.args.row.now c.loop-place.place-index (map pure_value c.loop-place.values.items) (pure_row c.args.row.now) (omega arith) c.loop-place.invariant
