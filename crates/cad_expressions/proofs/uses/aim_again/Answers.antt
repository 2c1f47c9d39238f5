use Rattle.std.proofs.Common.{Ok, Err}
use Rattle.cad_world.specs.State.{tick}
use Rattle.cad_labels.proofs.Forms.{keeps_spend}
use Rattle.cad_outcomes.specs.Outcomes.{no_value}
use Rattle.cad_state.proofs.Finding.{find_any, find_stopped, find_then}
use Rattle.cad_labels.specs.Laws.{AnyOne}
use Rattle.cad_expression_leaves.specs.Code.Steps.{aimed_again}
use Rattle.cad_expression_leaves.specs.Passed.{aimed}
use Rattle.cad_expression_leaves.specs.Passed.{at_spot, receiver_of}
use Rattle.cad_evaluation.specs.Reading.{composite_id}
use Rattle.cad_world.specs.State.{give, with_some}
use Rattle.cad_syntax.specs.declared.type_id.TypeId.{TypeId}
use Rattle.std.proofs.Common.{ℕ}
use Rattle.cad_expressions.proofs.uses.aim_again.Goals as goal

pub returns-in-Ok : goal.returns-in-Ok
unfolding aimed_again
returns-in-Ok c = find_then AnyOne tick (keeps_spend 1) no_value aimed (λ _. at_spot (receiver_of c.args.receiver.now) (λ spot. with_some (composite_id spot.tree) (λ id. with_some spot.label (λ l. give (id, l))))) tt c.args.state.now c.tick.new.self c.aim.new.state c.aim.result
    (find_any no_value tick c.args.state.now c.tick.new.self (Ok tt) c.in-Ok.ensures) (λ h. c.aim.ensures)

pub returns-in-Err : goal.returns-in-Err
unfolding aimed_again
returns-in-Err c = find_stopped {D = (TypeId × ℕ)} no_value aimed tick (λ _. at_spot (receiver_of c.args.receiver.now) (λ spot. with_some (composite_id spot.tree) (λ id. with_some spot.label (λ l. give (id, l))))) c.args.state.now c.tick.new.self c.tick.new.self c.in-Err.stop
    (find_any {B = Unit {0}} no_value tick c.args.state.now c.tick.new.self (Err c.in-Err.stop) c.in-Err.ensures)
