use Rattle.std.proofs.Common.{arith, rules}
use Rattle.std.proofs.lemmas.Grind.{common_steps}
use Rattle.cad_grammar.specs.TypeGrammar.{dot_name}
use Rattle.cad_parse_type.specs.Code.Reading as spec
use Rattle.cad_parse_type.specs.Code.Reading.{climb}
use Rattle.cad_parse_type.specs.Code.Views.{seen}
use Rattle.cad_parse_type.proofs.Turns.{one_more}
use Rattle.cad_parse_type.proofs.names.with_further.Goals as goal

pub loop-turn-preserved : goal.loop-turn-preserved
unfolding climb
loop-turn-preserved c =
    let e = one_more (λ n. climb spec.appended dot_name n c.loop-turn.names (seen c.loop-turn.rest)) _ c.loop-turn._turn c.loop-turn-test.true c.loop-turn.invariant in
    first_of (search rules, grind (arith, common_steps))
