use Rattle.std.proofs.Common.{◌∙◌, ap}
use Rattle.cad_world.specs.Rows.{owns}
use Rattle.cad_making.proofs.Fronts.{rest_taken}
use Rattle.cad_making.proofs.rows.owns_behind.Goals as goal

pub returns : goal.returns
returns c = c.row_owns.ensures ∙ ap owns (rest_taken c.args.n c.args.row.now)
