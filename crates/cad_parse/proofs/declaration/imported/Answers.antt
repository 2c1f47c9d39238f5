use Rattle.std.proofs.Common.{◌≡◌, ap, arith, rules}
use Rattle.std.proofs.lemmas.Grind.{common_steps}
use Rattle.cad_parse.specs.Code.Reading.{imported}
use Rattle.cad_parse_type.specs.Code.Views.{seen}
use Rattle.cad_parse_type.proofs.Turns.{one_more}
use Rattle.cad_parse.proofs.declaration.imported.Goals as goal

pub returns-in-Some : goal.returns-in-Some
unfolding imported
returns-in-Some c =
    let e = one_more (λ n. imported n c.loop-turn.names (seen c.loop-turn.here)) _ c.loop-turn._turn c.loop-turn-test.true c.loop-turn.invariant in
    first_of (search rules, grind (arith, common_steps))

pub returns-in_default-after : goal.returns-in_default-after
unfolding imported
returns-in_default-after c =
    let e = one_more (λ n. imported n c.loop-turn.names (seen c.loop-turn.here)) _ c.loop-turn._turn c.loop-turn-test.true c.loop-turn.invariant in
    first_of (search rules, grind (arith, common_steps))

pub returns-in-Some-origin : goal.returns-in-Some-origin
unfolding imported
returns-in-Some-origin c =
    let e = one_more (λ n. imported n c.loop-turn.names (seen c.loop-turn.here)) _ c.loop-turn._turn c.loop-turn-test.true c.loop-turn.invariant in
    first_of (search rules, grind (arith, common_steps))

pub returns-in_default-name : goal.returns-in_default-name
unfolding imported
returns-in_default-name c =
    let e = one_more (λ n. imported n c.loop-turn.names (seen c.loop-turn.here)) _ c.loop-turn._turn c.loop-turn-test.true c.loop-turn.invariant in
    first_of (search rules, grind (arith, common_steps))

pub loop-turn-preserved : goal.loop-turn-preserved
unfolding imported
loop-turn-preserved c =
    let e = one_more (λ n. imported n c.loop-turn.names (seen c.loop-turn.here)) _ c.loop-turn._turn c.loop-turn-test.true c.loop-turn.invariant in
    first_of (search rules, grind (arith, common_steps))
