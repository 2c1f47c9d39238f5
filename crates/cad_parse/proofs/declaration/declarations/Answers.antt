use Rattle.std.proofs.Common.{◌≡◌, ap, arith, rules}
use Rattle.std.proofs.lemmas.Grind.{common_steps}
use Rattle.cad_parse.specs.Code.Parts.{chain}
use Rattle.cad_parse.specs.Code.Reading as spec
use Rattle.cad_parse.specs.Code.Views.{declarations_in}
use Rattle.cad_parse_type.specs.Code.Views.{seen}
use Rattle.cad_parse_type.proofs.Turns.{one_more}
use Rattle.cad_parse.proofs.declaration.declarations.Goals as goal

pub returns-in_default : goal.returns-in_default
unfolding chain
returns-in_default c =
    let e = one_more (λ n. chain spec.declaration n (declarations_in c.loop-turn.found) (seen c.loop-turn.here)) _ c.loop-turn._turn c.loop-turn-test.true c.loop-turn.invariant in
    first_of (search rules, grind (arith, common_steps))

pub loop-turn-preserved : goal.loop-turn-preserved
unfolding chain
loop-turn-preserved c =
    let e = one_more (λ n. chain spec.declaration n (declarations_in c.loop-turn.found) (seen c.loop-turn.here)) _ c.loop-turn._turn c.loop-turn-test.true c.loop-turn.invariant in
    first_of (search rules, grind (arith, common_steps))
