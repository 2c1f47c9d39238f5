use Rattle.std.proofs.Common.{◌≡◌, ap, arith, rules}
use Rattle.std.proofs.lemmas.Grind.{common_steps}
use Rattle.std.proofs.Common.{map}
use Rattle.cad_grammar.specs.declared.token.Sign.TheVariants as s
use Rattle.cad_grammar.specs.Views.{annotation_of}
use Rattle.cad_grammar.specs.declared.level.TypePosition.TheVariants as position
use Rattle.cad_parse_type.specs.Code.Reading as spec
use Rattle.cad_parse_type.specs.Code.Reading.{listed, read_core}
use Rattle.cad_parse_type.specs.Code.Views.{seen}
use Rattle.cad_parse_type.proofs.Turns.{deeper, one_more}
use Rattle.cad_parse_type.proofs.types.+types.Goals as goal

pub read_core-returns-then-depth-eq0 : goal.read_core-returns-then-depth-eq0
unfolding read_core
read_core-returns-then-depth-eq0 t c = let none : 0 ≡ c.args.depth = omega arith in ap (λ n. read_core n (seen c.args.spot)) none

pub read_core-returns : goal.read_core-returns
unfolding read_core
read_core-returns t c = rw (deeper (λ n. read_core n (seen c.args.spot)) c.args.depth (omega arith)) c.core_of.ensures

pub listed-returns-in-Some : goal.listed-returns-in-Some
unfolding listed
listed-returns-in-Some t c =
    let e = one_more (λ n. listed (spec.annotated (read_core c.args.depth) position.Anywhere) s.Greater n (map annotation_of c.loop-turn.found.items) (seen c.loop-turn.rest)) _ c.loop-turn._turn c.loop-turn-test.true c.loop-turn.invariant in
    first_of (search rules, grind (arith, common_steps))

pub listed-returns-in_default-2 : goal.listed-returns-in_default-2
unfolding listed
listed-returns-in_default-2 t c =
    let e = one_more (λ n. listed (spec.annotated (read_core c.args.depth) position.Anywhere) s.Greater n (map annotation_of c.loop-turn.found.items) (seen c.loop-turn.rest)) _ c.loop-turn._turn c.loop-turn-test.true c.loop-turn.invariant in
    first_of (search rules, grind (arith, common_steps))

pub listed-returns-in_default-resumed : goal.listed-returns-in_default-resumed
unfolding listed
listed-returns-in_default-resumed t c =
    let e = one_more (λ n. listed (spec.annotated (read_core c.args.depth) position.Anywhere) s.Greater n (map annotation_of c.loop-turn.found.items) (seen c.loop-turn.rest)) _ c.loop-turn._turn c.loop-turn-test.true c.loop-turn.invariant in
    first_of (search rules, grind (arith, common_steps))

pub listed-loop-turn-preserved : goal.listed-loop-turn-preserved
unfolding listed
listed-loop-turn-preserved t c =
    let e = one_more (λ n. listed (spec.annotated (read_core c.args.depth) position.Anywhere) s.Greater n (map annotation_of c.loop-turn.found.items) (seen c.loop-turn.rest)) _ c.loop-turn._turn c.loop-turn-test.true c.loop-turn.invariant in
    first_of (search rules, grind (arith, common_steps))
