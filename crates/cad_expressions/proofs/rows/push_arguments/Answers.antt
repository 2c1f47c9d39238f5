use Rattle.std.proofs.Common.{rules, arith, Ok, Err}
use Rattle.cad_rows.specs.Views.{pure_row}
use Rattle.cad_expressions.proofs.Turns.{arguments_turn, arguments_stop, arguments_last}
use Rattle.cad_expressions.proofs.rows.push_arguments.Goals as goal

pub loop-a-preserved : goal.loop-a-preserved
loop-a-preserved g c = λ z rs r h. c.loop-a.invariant z rs r (arguments_turn (g.E.Evaluator.front c.args.evaluator.now) (g.E.Evaluator.calls c.args.evaluator.now) (g.met.E.Evaluator.keeps c.args.evaluator.now) c.args.all.now c.loop-a.a-index c.a-item.result (search rules) c.a-item.is _ _ c.loop-a.state _ _ z _ rs r c.value-found.ensures c.in-Ok.ensures h)

pub returns-in-Err : goal.returns-in-Err
returns-in-Err g c = c.loop-a.invariant c.push_value.new.state (pure_row c.push_value.new.row.items) (Err c.in-Err.stop) (arguments_stop (g.E.Evaluator.front c.args.evaluator.now) (g.E.Evaluator.calls c.args.evaluator.now) (g.met.E.Evaluator.keeps c.args.evaluator.now) c.args.all.now c.loop-a.a-index c.a-item.result (search rules) c.a-item.is (pure_row c.loop-a.row.items) (pure_row c.push_value.new.row.items) c.loop-a.state c.value-found.new.state c.push_value.new.state c.push_value.new.state c.value-found.result (pure_row c.push_value.new.row.items) c.in-Err.stop c.value-found.ensures c.in-Err.ensures)

pub returns : goal.returns
returns g c = c.loop-a.invariant c.loop-a.state (pure_row c.loop-a.row.items) (Ok tt) (arguments_last (g.E.Evaluator.front c.args.evaluator.now) (g.E.Evaluator.calls c.args.evaluator.now) (g.met.E.Evaluator.keeps c.args.evaluator.now) c.args.all.now c.loop-a.a-index (omega arith) (pure_row c.loop-a.row.items) c.loop-a.state)
