use Rattle.cad_installations.proofs.Coming.{fits_on, type_stops}
use Rattle.cad_rows.specs.Views.{pure_tree}
use Rattle.cad_syntax.specs.Types.{pure_type}
use Rattle.cad_types.specs.Views.{declarations}
use Rattle.cad_installations.proofs.fitting.fit_tree.Goals as goal

pub returns-in-Ok : goal.returns-in-Ok
returns-in-Ok c = fits_on (declarations c.args.kinds.now) (pure_type c.args.wanted.now) (pure_tree c.args.tree) c.in-Ok.own c.args.state.now c.own_type_of.new.state c.fit_own.result c.in-Ok.ensures c.fit_own.ensures

pub returns-in-Err : goal.returns-in-Err
returns-in-Err c = type_stops (declarations c.args.kinds.now) (pure_type c.args.wanted.now) (pure_tree c.args.tree) c.args.state.now c.own_type_of.new.state c.own_type_of.new.state c.in-Err.stop c.in-Err.ensures
