use Rattle.cad_declarations.specs.Views.{place_of}
use Rattle.std.proofs.Common.{false}
use Rattle.cad_expression_leaves.specs.Code.Steps.{placed}
use Rattle.cad_expressions.proofs.Forms.{placed_keeps}
use Rattle.cad_expressions.proofs.place_forms.receiver_in.Goals as goal

pub returns : goal.returns
returns g c = c.receive_at.ensures.goes c.args.state.now (placed (g.E.Evaluator.front c.args.evaluator.now) (g.E.Evaluator.calls c.args.evaluator.now) (place_of c.args.place.now) false) (placed_keeps (g.E.Evaluator.front c.args.evaluator.now) (g.E.Evaluator.calls c.args.evaluator.now) (place_of c.args.place.now) false (g.met.E.Evaluator.keeps c.args.evaluator.now)) c.evaluate_place-found.ensures
