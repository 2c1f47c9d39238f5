use Rattle.std.proofs.Common.{Option, subst, sym}
use Rattle.cad_installations.specs.Code.Fitting.{fit_found}
use Rattle.cad_rows.specs.Views.{pure_tree}
use Rattle.cad_state.specs.Views.{FindsAndCarriesOut}
use Rattle.cad_syntax.specs.Types.{pure_type}
use Rattle.cad_types.specs.Views.{declarations}
use Rattle.cad_world.specs.Rows.{Tree}
use Rattle.cad_installations.proofs.Coming.{nothing_fits}
use Rattle.cad_installations.proofs.fitting.fit_place.Goals as goal

pub returns-in-Some : goal.returns-in-Some
returns-in-Some c = subst (λ (o : Option Tree). FindsAndCarriesOut pure_tree (fit_found (declarations c.args.kinds.now) (pure_type c.args.wanted.now) o) c.args.state.now c.fit_tree.new.state c.fit_tree.result) c.in-Some.ensures c.fit_tree.ensures

pub returns-in-None : goal.returns-in-None
returns-in-None c = nothing_fits (declarations c.args.kinds.now) (pure_type c.args.wanted.now) _ c.args.state.now c.args.state.now (sym c.in-None.ensures)
