use Rattle.cad_syntax.specs.Types.{pure_type}
use Rattle.cad_types.specs.Views.{declarations}
use Rattle.cad_types.proofs.Decision.{answer_tells}
use Rattle.cad_types.proofs.subtype.is_subtype.Goals as goal

pub returns : goal.returns
returns c =
    let declared_types = c.args.declared_types.now in
    answer_tells (declarations declared_types) c.is_below.result (pure_type c.args.a.now) (pure_type c.args.b.now) declared_types.closed c.is_below.ensures
