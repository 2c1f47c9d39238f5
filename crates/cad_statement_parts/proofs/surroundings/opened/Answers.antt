use Rattle.cad_statement_parts.specs.Views.{surroundings_of}
use Rattle.cad_statement_parts.proofs.Around.{around_by}
use Rattle.std.proofs.Common.{◌∙◌}
use Rattle.cad_statement_parts.proofs.surroundings.opened.Goals as goal

pub returns : goal.returns
returns c = c.within.ensures ∙ around_by (surroundings_of c.args.w.now) c.args.locals.now _ _ c.in_ok-in_use.ensures c.in_ok-length.ensures
