use Rattle.std.proofs.Common.{ap, subst}
use Rattle.cad_evaluation.specs.Callees.{destroyed_event}
use Rattle.cad_rows.specs.Views.{pure_row}
use Rattle.cad_state.specs.Views.{FindsAndCarriesOut}
use Rattle.cad_world.specs.Rows.{Row}
use Rattle.cad_expression_leaves.specs.Views.{tree_in}
use Rattle.cad_expressions.proofs.ends.make_event.Goals as goal

pub returns : goal.returns
returns g c = subst (λ (q : Row). FindsAndCarriesOut tree_in (g.E.Evaluator.calls c.args.evaluator.now (destroyed_event c.args.of.now c.args.label) q) c.args.state.now c.call.new.state c.call.result) (ap pure_row c.new-none.ensures.items) c.call.ensures
