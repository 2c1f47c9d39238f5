use Rattle.std.proofs.Common.{map, refl, ap}
use Rattle.cad_expression_leaves.specs.Passed.{pure_pair}
use Rattle.cad_declarations.specs.Typed as e
use Rattle.cad_declarations.specs.Views.{pair_of}
use Rattle.cad_syntax.specs.Types.{pure_type}
use Rattle.cad_expression_leaves.specs.Code.Steps.{entries}
use Rattle.cad_expression_leaves.specs.Views.{pairs_of}
use Rattle.cad_expressions.proofs.Pairs.{begun_pairs, stopped_pairs}
use Rattle.cad_expressions.proofs.entries.evaluate_entries.Goals as goal

pub returns-in-Ok : goal.returns-in-Ok
returns-in-Ok g c = begun_pairs (entries (g.E.Evaluator.front c.args.evaluator.now) (g.E.Evaluator.calls c.args.evaluator.now) (pure_type c.args.key.now) (pure_type c.args.value.now) (e.entries_of (map pair_of c.args.all.now))) pairs_of c.push_entries.new.pairs (pairs_of c.push_entries.new.pairs) (pairs_of c.new-pairs.result) c.args.state.now c.push_entries.new.state refl (ap (map pure_pair) c.new-pairs.ensures.items) c.in-Ok.ensures

pub returns-in-Err : goal.returns-in-Err
returns-in-Err g c = stopped_pairs (entries (g.E.Evaluator.front c.args.evaluator.now) (g.E.Evaluator.calls c.args.evaluator.now) (pure_type c.args.key.now) (pure_type c.args.value.now) (e.entries_of (map pair_of c.args.all.now))) pairs_of (pairs_of c.push_entries.new.pairs) (pairs_of c.new-pairs.result) c.in-Err.stop c.args.state.now c.push_entries.new.state (ap (map pure_pair) c.new-pairs.ensures.items) c.in-Err.ensures
