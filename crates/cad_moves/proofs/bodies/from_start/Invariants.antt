use Rattle.std.proofs.Common.{◌≡◌, map, drop}
use Rattle.cad_declarations.specs.Views.{variable_of}
use Rattle.cad_paths.specs.Letters.{resources}
use Rattle.cad_paths.specs.Bodies as spec
use Rattle.cad_moves.specs.Views.{body_of, item_of, reading_of}
use Rattle.cad_moves.specs.Code.Rows.{row_over}
use Rattle.cad_moves.proofs.bodies.from_start.Given as goal

abbrev pub invariant-loop-variable : goal.invariant-loop-variable
invariant-loop-variable l = (row_over (map item_of l.items.items) (spec.from_start (map variable_of (drop l.variable-index l.variables)) l.at (body_of l.inner)) ≡ spec.from_start (map variable_of l.variables) l.at (body_of l.inner))
    × (body_of l.inner ≡ body_of l.fn.inner) × (reading_of l.reading ≡ resources)
