use Rattle.std.proofs.Common.{rules, arith, Ok, Err}
use Rattle.cad_syntax.specs.Types.{pure_type}
use Rattle.cad_expression_leaves.specs.Views.{pairs_of}
use Rattle.cad_expressions.proofs.Pairs.{entries_turn, entries_stop, entries_last}
use Rattle.cad_expressions.proofs.entries.push_entries.Goals as goal

pub loop-a-preserved : goal.loop-a-preserved
loop-a-preserved g c = λ z ps r h. c.loop-a.invariant z ps r (entries_turn (g.E.Evaluator.front c.args.evaluator.now) (g.E.Evaluator.calls c.args.evaluator.now) (g.met.E.Evaluator.keeps c.args.evaluator.now) (pure_type c.args.key.now) (pure_type c.args.value.now) c.args.all.now c.loop-a.a-index c.a-item.result (search rules) c.a-item.is (pairs_of c.loop-a.pairs) (pairs_of c.push_entry.new.pairs) c.loop-a.state c.evaluate_typed-own.new.state c.push_entry.new.state z c.evaluate_typed-own.result ps r c.evaluate_typed-own.ensures c.in-Ok.ensures h)

pub returns-in-Err : goal.returns-in-Err
returns-in-Err g c = c.loop-a.invariant c.push_entry.new.state (pairs_of c.push_entry.new.pairs) (Err c.in-Err.stop) (entries_stop (g.E.Evaluator.front c.args.evaluator.now) (g.E.Evaluator.calls c.args.evaluator.now) (g.met.E.Evaluator.keeps c.args.evaluator.now) (pure_type c.args.key.now) (pure_type c.args.value.now) c.args.all.now c.loop-a.a-index c.a-item.result (search rules) c.a-item.is (pairs_of c.loop-a.pairs) (pairs_of c.push_entry.new.pairs) c.loop-a.state c.evaluate_typed-own.new.state c.push_entry.new.state c.push_entry.new.state c.evaluate_typed-own.result (pairs_of c.push_entry.new.pairs) c.in-Err.stop c.evaluate_typed-own.ensures c.in-Err.ensures)

pub returns : goal.returns
returns g c = c.loop-a.invariant c.loop-a.state (pairs_of c.loop-a.pairs) (Ok tt) (entries_last (g.E.Evaluator.front c.args.evaluator.now) (g.E.Evaluator.calls c.args.evaluator.now) (g.met.E.Evaluator.keeps c.args.evaluator.now) (pure_type c.args.key.now) (pure_type c.args.value.now) c.args.all.now c.loop-a.a-index (omega arith) (pairs_of c.loop-a.pairs) c.loop-a.state)
