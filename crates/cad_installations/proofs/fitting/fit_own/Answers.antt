use Rattle.std.proofs.Common.{sym, ◌∙◌}
use Rattle.cad_rows.specs.Views.{pure_tree}
use Rattle.cad_syntax.specs.Types.{pure_type}
use Rattle.cad_types.specs.Views.{declarations}
use Rattle.cad_installations.proofs.Coming.{fit_given, fit_refused}
use Rattle.cad_installations.proofs.fitting.fit_own.Goals as goal

pub returns-in-Ok-true : goal.returns-in-Ok-true
returns-in-Ok-true c = fit_given (declarations c.args.kinds.now) (pure_type c.args.wanted.now) (pure_tree c.args.tree) (pure_type c.args.own.now) c.wrapped.result (sym c.in-Ok-true.ensures ∙ c.in-Ok-true.field-0-test) c.wrapped.ensures

pub returns-in-Ok-false : goal.returns-in-Ok-false
returns-in-Ok-false c = fit_refused (declarations c.args.kinds.now) (pure_type c.args.wanted.now) (pure_tree c.args.tree) (pure_type c.args.own.now) (sym c.in-Ok-false.ensures ∙ c.in-Ok-false.field-0-test)
