use Rattle.std.proofs.Common.{subst}
use Rattle.cad_outcomes.specs.Outcomes.{no_value}
use Rattle.cad_rows.specs.Views.{pure_tree}
use Rattle.cad_state.specs.Views.{FindsAndCarriesOut}
use Rattle.cad_assignments.specs.Code.Fills.{key_added}
use Rattle.cad_assignments.proofs.entering.add_copy.Goals as goal

pub returns-in-Ok : goal.returns-in-Ok
returns-in-Ok c = subst (λ k. FindsAndCarriesOut no_value (key_added c.args.label k (pure_tree c.args.tree)) c.args.state.now c.add_key.new.state c.add_key.result) c.in-Ok.ensures c.add_key.ensures
