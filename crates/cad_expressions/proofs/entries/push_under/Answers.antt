use Rattle.cad_declarations.specs.Views.{term_of}
use Rattle.cad_labels.specs.Laws.{HasNone}
use Rattle.cad_state.proofs.Finding.{find_given, find_stopped, find_then}
use Rattle.cad_syntax.specs.Types.{pure_type}
use Rattle.cad_expression_leaves.specs.Code.Steps.{pair_of, pair_with, typed}
use Rattle.cad_expression_leaves.specs.Views.{pairs_of, tree_in}
use Rattle.cad_expressions.proofs.Pairs.{typed_keeps}
use Rattle.cad_expressions.proofs.entries.push_under.Goals as goal

pub returns-in-Ok : goal.returns-in-Ok
unfolding pair_with
returns-in-Ok g c = find_then HasNone (typed (g.E.Evaluator.front c.args.evaluator.now) (g.E.Evaluator.calls c.args.evaluator.now) (pure_type c.args.declared.now) (term_of c.args.term.now)) (typed_keeps (g.E.Evaluator.front c.args.evaluator.now) (g.E.Evaluator.calls c.args.evaluator.now) (g.met.E.Evaluator.keeps c.args.evaluator.now) (pure_type c.args.declared.now) (term_of c.args.term.now)) tree_in (λ (u : Unit {0}). pairs_of c.push_pair.new.pairs) (pair_of (tree_in c.args.key) (pairs_of c.args.pairs.now)) c.in-Ok.value c.args.state.now c.evaluate_typed.new.state c.evaluate_typed.new.state c.push_pair.result
    c.in-Ok.ensures (λ h. find_given (λ (u : Unit {0}). pairs_of c.push_pair.new.pairs) (pair_of (tree_in c.args.key) (pairs_of c.args.pairs.now) (tree_in c.in-Ok.value)) c.evaluate_typed.new.state c.push_pair.result c.push_pair.ensures)

pub returns-in-Err : goal.returns-in-Err
unfolding pair_with
returns-in-Err g c = find_stopped {D = Unit {0}} tree_in (λ (u : Unit {0}). pairs_of c.args.pairs.now) (typed (g.E.Evaluator.front c.args.evaluator.now) (g.E.Evaluator.calls c.args.evaluator.now) (pure_type c.args.declared.now) (term_of c.args.term.now)) (pair_of (tree_in c.args.key) (pairs_of c.args.pairs.now)) c.args.state.now c.evaluate_typed.new.state c.evaluate_typed.new.state c.in-Err.stop c.in-Err.ensures
