use Rattle.std.proofs.Common.{◌≡◌, map, drop}
use Rattle.cad_declarations.specs.Views.{before_of}
use Rattle.cad_paths.specs.Bodies as spec
use Rattle.cad_moves.specs.Views.{item_of, reading_of}
use Rattle.cad_moves.specs.Code.Rows.{row_over}
use Rattle.cad_moves.proofs.bodies.before_letters.Given as goal

abbrev pub invariant-loop-before : goal.invariant-loop-before
invariant-loop-before l = row_over (map item_of l.items.items) (spec.before_letters (reading_of l.reading) l.part (map before_of (drop l.before-index l.all))) ≡ spec.before_letters (reading_of l.reading) l.part (map before_of l.all)
