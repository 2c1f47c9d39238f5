use Rattle.std.proofs.Common.{arith, rules}
use Rattle.std.proofs.lemmas.Grind.{common_steps}
use Rattle.cad_parse_type.specs.Code.Reading as spec
use Rattle.cad_parse_type.specs.Code.Reading.{listed}
use Rattle.cad_parse_type.specs.Code.Views.{seen}
use Rattle.cad_parse_type.proofs.Turns.{one_more}
use Rattle.cad_parse_type.proofs.names.listed.Goals as goal

pub loop-turn-preserved : goal.loop-turn-preserved
unfolding listed
loop-turn-preserved c =
    let e = one_more (λ n. listed spec.dotted c.args.closing n c.loop-turn.found (seen c.loop-turn.rest)) _ c.loop-turn._turn c.loop-turn-test.true c.loop-turn.invariant in
    first_of (search rules, grind (arith, common_steps))
