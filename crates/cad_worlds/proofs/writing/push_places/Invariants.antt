use Rattle.std.proofs.Common.{◌≡◌, ◌++◌, map, drop}
use Rattle.cad_rows.specs.Views.{pure_row}
use Rattle.cad_world.specs.Registers.{stored_from, row_values}
use Rattle.cad_worlds.specs.Standing.{coding, register_of}
use Rattle.cad_worlds.proofs.writing.push_places.Given as goal

abbrev pub invariant-loop-place : goal.invariant-loop-place
invariant-loop-place l = map register_of l.rows.items ++ stored_from coding l.address l.left (row_values (pure_row (drop l.place-index l.places))) ≡ map register_of l.fn.rows.items ++ stored_from coding l.address l.names (row_values (pure_row l.places))
