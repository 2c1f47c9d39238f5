use Rattle.cad_installations.proofs.Coming.{comes_first}
use Rattle.cad_rows.specs.Views.{pure_tree}
use Rattle.cad_installations.proofs.fitting.fitted_before.Goals as goal

pub returns-in-Ok-wedge : goal.returns-in-Ok-wedge
returns-in-Ok-wedge c = comes_first (pure_tree c.args.own) c.args.rest c.in-Ok.found c.wedge.new.row c.in-Ok.is c.in-Ok-wedge.ensures
