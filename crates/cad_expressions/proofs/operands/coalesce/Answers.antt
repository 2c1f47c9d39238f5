use Rattle.cad_declarations.specs.Views.{term_of}
use Rattle.cad_expressions.proofs.Seconds.{coalesce_goes}
use Rattle.cad_syntax.specs.Types.{pure_type}
use Rattle.cad_expressions.proofs.operands.coalesce.Goals as goal

pub returns : goal.returns
returns g c = coalesce_goes (g.E.Evaluator.front c.args.evaluator.now) (g.E.Evaluator.calls c.args.evaluator.now) c.args.takes_off (pure_type c.args.declared.now) (term_of c.args.right.now) _ _ _ _ _ (c.content_or_whole-found.ensures c.args.state.now) c.fill_nil.ensures
