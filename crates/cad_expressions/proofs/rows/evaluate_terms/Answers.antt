use Rattle.std.proofs.Common.{map, refl, ap}
use Rattle.cad_rows.specs.Views.{pure_row}
use Rattle.cad_declarations.specs.Typed as e
use Rattle.cad_declarations.specs.Views.{term_of}
use Rattle.cad_syntax.specs.Types.{pure_type}
use Rattle.cad_expression_leaves.specs.Code.Steps.{elements}
use Rattle.cad_expression_leaves.specs.Views.{items_row}
use Rattle.cad_expressions.proofs.Turns.{begun_row, stopped_row}
use Rattle.cad_expressions.proofs.rows.evaluate_terms.Goals as goal

pub returns-in-Ok : goal.returns-in-Ok
returns-in-Ok g c = begun_row (elements (g.E.Evaluator.front c.args.evaluator.now) (g.E.Evaluator.calls c.args.evaluator.now) (pure_type c.args.element.now) (e.terms_of (map term_of c.args.all.now))) items_row c.push_terms.new.row (pure_row c.push_terms.new.row.items) (pure_row c.new-row.result.items) c.args.state.now c.push_terms.new.state refl (ap pure_row c.new-row.ensures.items) c.in-Ok.ensures

pub returns-in-Err : goal.returns-in-Err
returns-in-Err g c = stopped_row (elements (g.E.Evaluator.front c.args.evaluator.now) (g.E.Evaluator.calls c.args.evaluator.now) (pure_type c.args.element.now) (e.terms_of (map term_of c.args.all.now))) items_row (pure_row c.push_terms.new.row.items) (pure_row c.new-row.result.items) c.in-Err.stop c.args.state.now c.push_terms.new.state (ap pure_row c.new-row.ensures.items) c.in-Err.ensures
