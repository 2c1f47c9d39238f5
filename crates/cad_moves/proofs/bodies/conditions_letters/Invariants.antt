use Rattle.std.proofs.Common.{◌≡◌, map, drop}
use Rattle.cad_declarations.specs.Views.{condition_of}
use Rattle.cad_paths.specs.Bodies as spec
use Rattle.cad_moves.specs.Views.{item_of, reading_of}
use Rattle.cad_moves.specs.Code.Rows.{row_over}
use Rattle.cad_moves.proofs.bodies.conditions_letters.Given as goal

abbrev pub invariant-loop-condition : goal.invariant-loop-condition
invariant-loop-condition l = row_over (map item_of l.items.items) (spec.conditions_letters (reading_of l.reading) l.part (map condition_of (drop l.condition-index l.all))) ≡ spec.conditions_letters (reading_of l.reading) l.part (map condition_of l.all)
