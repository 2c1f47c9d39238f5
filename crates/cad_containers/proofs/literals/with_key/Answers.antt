use Rattle.std.proofs.Common.{sym}
use Rattle.cad_rows.specs.Views.{pure_tree}
use Rattle.cad_containers.proofs.literals.with_key.Goals as goal

pub returns-in-Ok : goal.returns-in-Ok
returns-in-Ok c = c.with_value.ensures (pure_tree c.args.pair.key) (sym c.in-Ok.ensures)
