use Rattle.std.proofs.Common.{map}
use Rattle.serde_json.specs.View.{view}
use Rattle.cad_rows.specs.Views.{pure_row}
use Rattle.cad_shapes.specs.Held.{shapes_of}
use Rattle.cad_run_worlds.proofs.Turns.{Leads, rest_types, type_at}
use Rattle.cad_run_worlds.proofs.arguments.push_arguments.Given as goal

abbrev pub invariant-loop-want : goal.invariant-loop-want
invariant-loop-want l =
    Leads (shapes_of l.shapes) (map type_at l.types) (map view l.arguments) (pure_row l.fn.row.items)
    (rest_types l.types l.want-index) (map view l.left) (pure_row l.row.items)
