use Rattle.cad_expression_leaves.proofs.Going.{goes_on, goes_stopped}
use Rattle.cad_expression_leaves.specs.Code.Steps.{element_at, element_in}
use Rattle.std.proofs.Common.{sym, ◌∙◌}
use Rattle.cad_declarations.specs.Views.{term_of}
use Rattle.cad_expressions.proofs.Seconds.{no_element, an_element}
use Rattle.cad_expression_leaves.specs.Passed.{standing_of}
use Rattle.cad_state.specs.Views.{state_over}
use Rattle.cad_state.proofs.Finding.{find_same}
use Rattle.cad_evaluation.specs.Standing.{receiver_from}
use Rattle.cad_label_runs.proofs.Standing.{receiver_from_keeps}
use Rattle.cad_world.specs.State.{◌>>=◌}
use Rattle.cad_expressions.proofs.places.element_at.Goals as goal

pub returns-then-is_nowhere : goal.returns-then-is_nowhere
returns-then-is_nowhere g c = goes_on _ _ _ _ _ _ _ _ _ c.in-Ok.is (λ w ready. no_element (g.E.Evaluator.front c.args.evaluator.now) (g.E.Evaluator.calls c.args.evaluator.now) c.args.writes (term_of c.args.index.now) (standing_of c.in-Ok.place) (sym c.is_nowhere.ensures ∙ c.if-is_nowhere.true) (state_over w c.args.state.now))

pub returns-else-is_nowhere : goal.returns-else-is_nowhere
returns-else-is_nowhere g c = goes_on _ _ _ _ _ _ _ _ _ c.in-Ok.is
    (find_same standing_of (element_at (g.E.Evaluator.front c.args.evaluator.now) (g.E.Evaluator.calls c.args.evaluator.now) c.args.writes (term_of c.args.index.now) (standing_of c.in-Ok.place)) (receiver_from (standing_of c.in-Ok.place) >>= element_in (g.E.Evaluator.front c.args.evaluator.now) (g.E.Evaluator.calls c.args.evaluator.now) c.args.writes (term_of c.args.index.now)) c.args.state.now c.element_in.new.state c.element_in.result
    (λ w ready. an_element (g.E.Evaluator.front c.args.evaluator.now) (g.E.Evaluator.calls c.args.evaluator.now) c.args.writes (term_of c.args.index.now) (standing_of c.in-Ok.place) (sym c.is_nowhere.ensures ∙ c.if-is_nowhere.false) (state_over w c.args.state.now))
    (c.element_in.ensures.goes c.args.state.now (receiver_from (standing_of c.in-Ok.place)) (receiver_from_keeps (standing_of c.in-Ok.place)) c.receiver-received.ensures))

pub returns-in-Err : goal.returns-in-Err
returns-in-Err g c = goes_stopped _ _ _ _ _ _ _ _ c.in-Err.is
