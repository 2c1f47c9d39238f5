use Rattle.std.proofs.Common.{◌≡◌, ap, arith, rules}
use Rattle.std.proofs.lemmas.Grind.{common_steps}
use Rattle.cad_grammar.specs.declared.token.Sign.TheVariants as s
use Rattle.cad_parse.specs.Code.Parts.{repeated}
use Rattle.cad_parse.specs.Code.Reading as spec
use Rattle.cad_parse.specs.Code.Views.{contract_members_in}
use Rattle.cad_parse_type.specs.Code.Views.{seen}
use Rattle.cad_parse_type.proofs.Turns.{one_more}
use Rattle.cad_parse.proofs.contract.contract_members.Goals as goal

pub returns-in-Some : goal.returns-in-Some
unfolding repeated
returns-in-Some c =
    let e = one_more (λ n. repeated spec.contract_member s.CloseBrace n (contract_members_in c.loop-turn.found) (seen c.loop-turn.here)) _ c.loop-turn._turn c.loop-turn-test.true c.loop-turn.invariant in
    first_of (search rules, grind (arith, common_steps))

pub returns-in_default-2 : goal.returns-in_default-2
unfolding repeated
returns-in_default-2 c =
    let e = one_more (λ n. repeated spec.contract_member s.CloseBrace n (contract_members_in c.loop-turn.found) (seen c.loop-turn.here)) _ c.loop-turn._turn c.loop-turn-test.true c.loop-turn.invariant in
    first_of (search rules, grind (arith, common_steps))

pub loop-turn-preserved : goal.loop-turn-preserved
unfolding repeated
loop-turn-preserved c =
    let e = one_more (λ n. repeated spec.contract_member s.CloseBrace n (contract_members_in c.loop-turn.found) (seen c.loop-turn.here)) _ c.loop-turn._turn c.loop-turn-test.true c.loop-turn.invariant in
    first_of (search rules, grind (arith, common_steps))
