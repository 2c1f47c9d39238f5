use Rattle.std.proofs.Common.{◌↔◌, drop}
use Rattle.std.specs.List.{AllByRecursion}
use Rattle.cad_codec.specs.Forms.{HasBytes}
use Rattle.cad_rows.specs.Views.{pure_row}
use Rattle.cad_world.specs.Registers.{row_values}
use Rattle.cad_world_checks.proofs.bytes.row_has_bytes.Given as goal

abbrev pub invariant-loop-place : goal.invariant-loop-place
invariant-loop-place l = AllByRecursion HasBytes (row_values (pure_row (drop l.place-index l.row))) ↔ AllByRecursion HasBytes (row_values (pure_row l.row))
