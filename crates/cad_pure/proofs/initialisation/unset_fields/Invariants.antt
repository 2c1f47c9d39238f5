use Rattle.std.proofs.Common.{◌≡◌, map, drop}
use Rattle.cad_paths.specs.Bodies as spec
use Rattle.cad_moves.specs.Code.Rows.{row_over}
use Rattle.cad_moves.specs.Views.{body_of, item_of}
use Rattle.cad_pure.proofs.initialisation.unset_fields.Given as goal

abbrev pub invariant-loop-i : goal.invariant-loop-i
invariant-loop-i l =
    (row_over (map item_of l.items.items) (spec.unset_fields l.i (drop l.i l.fields) l.at (body_of l.inner)) ≡ spec.unset_fields 0 l.fields l.at (body_of l.inner))
    × (body_of l.inner ≡ body_of l.fn.inner)
