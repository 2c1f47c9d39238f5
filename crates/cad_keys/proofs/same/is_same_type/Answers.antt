use Rattle.cad_syntax.specs.Types.{pure_type}
use Rattle.cad_keys.proofs.Tests.{types_by}
use Rattle.cad_keys.proofs.same.is_same_type.Goals as goal

pub returns : goal.returns
returns c = types_by c.same.result (pure_type c.args.x.now) (pure_type c.args.y.now) c.same.ensures
