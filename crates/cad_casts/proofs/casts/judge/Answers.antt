use Rattle.cad_casts.proofs.CastLaws.{judged_so}
use Rattle.cad_syntax.specs.Types.{pure_type}
use Rattle.cad_casts.proofs.casts.judge.Goals as goal

pub returns-in_default : goal.returns-in_default
returns-in_default c =
    judged_so c.args.state.now c.args.kind (pure_type c.args.own) (pure_type c.args.wanted.now) c.is_instance-is_below.result c.in_default.not-Static
    c.is_instance-is_below.ensures.told c.is_instance-is_below.ensures.memory
