use Rattle.std.proofs.Common.{◌≡◌}
use Rattle.cad_rows.specs.Views.{pure_row}
use Rattle.cad_world.specs.Rows.{empty_places, join}
use Rattle.cad_command_runs.proofs.stages.add_fields.Given as goal

abbrev pub invariant-loop : goal.invariant-loop
invariant-loop l = pure_row l.arguments.items ≡ join (empty_places l.counter) (pure_row l.fn.arguments.items)
