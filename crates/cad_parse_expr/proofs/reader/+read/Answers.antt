use Rattle.std.proofs.Common.{◌≡◌, ap, arith, rules}
use Rattle.std.proofs.lemmas.Grind.{common_steps}
use Rattle.cad_grammar.specs.declared.token.Sign.TheVariants as s
use Rattle.cad_grammar.specs.declared.level.Level.TheVariants as level
use Rattle.cad_grammar.specs.Levels.{tighter}
use Rattle.cad_grammar.specs.ExpressionGrammar.{extend}
use Rattle.cad_grammar.specs.Views.{expr_of}
use Rattle.cad_parse_type.specs.Code.Reading.{climb, listed}
use Rattle.cad_parse_type.specs.Code.Views.{seen}
use Rattle.cad_parse_expr.specs.Code.Reading as spec
use Rattle.cad_parse_expr.specs.Code.Reading.{read}
use Rattle.cad_parse_expr.specs.Code.Views.{exprs_in, arguments_in, entries_in}
use Rattle.cad_parse_type.proofs.Turns.{deeper, one_more, no_more}
use Rattle.cad_parse_expr.proofs.reader.+read.Goals as goal

pub read-returns-then-depth-eq0 : goal.read-returns-then-depth-eq0
unfolding read
read-returns-then-depth-eq0 t c = let none : 0 ≡ c.args.depth = omega arith in ap (λ n. read n c.args.level (seen c.args.spot)) none

pub read-returns : goal.read-returns
unfolding read
read-returns t c = rw (deeper (λ n. read n c.args.level (seen c.args.spot)) c.args.depth (omega arith)) c.at.ensures

pub with_tails-returns-in-Ok-None : goal.with_tails-returns-in-Ok-None
unfolding climb
with_tails-returns-in-Ok-None t c =
    let e = one_more (λ n. climb extend (spec.tail (read c.args.depth) c.args.level (spec.at (read c.args.depth) (tighter c.args.level))) n (expr_of c.loop-turn.a) (seen c.loop-turn.rest)) _ c.loop-turn._turn c.loop-turn-test.true c.loop-turn.invariant in
    first_of (search rules, grind (arith, common_steps))

pub with_tails-loop-turn-preserved : goal.with_tails-loop-turn-preserved
unfolding climb
with_tails-loop-turn-preserved t c =
    let e = one_more (λ n. climb extend (spec.tail (read c.args.depth) c.args.level (spec.at (read c.args.depth) (tighter c.args.level))) n (expr_of c.loop-turn.a) (seen c.loop-turn.rest)) _ c.loop-turn._turn c.loop-turn-test.true c.loop-turn.invariant in
    first_of (search rules, grind (arith, common_steps))

pub with_tails-returns : goal.with_tails-returns
unfolding climb
with_tails-returns t c =
    let e = no_more (λ n. climb extend (spec.tail (read c.args.depth) c.args.level (spec.at (read c.args.depth) (tighter c.args.level))) n (expr_of c.loop-turn.a) (seen c.loop-turn.rest)) _ c.loop-turn._turn c.loop-turn-test.false c.loop-turn.invariant in
    first_of (search rules, grind (arith, common_steps))

pub arguments-returns-in-Some : goal.arguments-returns-in-Some
unfolding listed
arguments-returns-in-Some t c =
    let e = one_more (λ n. listed (spec.argument (read c.args.depth)) s.CloseParenthesis n (arguments_in c.loop-turn.found) (seen c.loop-turn.rest)) _ c.loop-turn._turn c.loop-turn-test.true c.loop-turn.invariant in
    first_of (search rules, grind (arith, common_steps))

pub arguments-returns-in_default-2 : goal.arguments-returns-in_default-2
unfolding listed
arguments-returns-in_default-2 t c =
    let e = one_more (λ n. listed (spec.argument (read c.args.depth)) s.CloseParenthesis n (arguments_in c.loop-turn.found) (seen c.loop-turn.rest)) _ c.loop-turn._turn c.loop-turn-test.true c.loop-turn.invariant in
    first_of (search rules, grind (arith, common_steps))

pub arguments-returns-in_default-resumed : goal.arguments-returns-in_default-resumed
unfolding listed
arguments-returns-in_default-resumed t c =
    let e = one_more (λ n. listed (spec.argument (read c.args.depth)) s.CloseParenthesis n (arguments_in c.loop-turn.found) (seen c.loop-turn.rest)) _ c.loop-turn._turn c.loop-turn-test.true c.loop-turn.invariant in
    first_of (search rules, grind (arith, common_steps))

pub arguments-loop-turn-preserved : goal.arguments-loop-turn-preserved
unfolding listed
arguments-loop-turn-preserved t c =
    let e = one_more (λ n. listed (spec.argument (read c.args.depth)) s.CloseParenthesis n (arguments_in c.loop-turn.found) (seen c.loop-turn.rest)) _ c.loop-turn._turn c.loop-turn-test.true c.loop-turn.invariant in
    first_of (search rules, grind (arith, common_steps))

pub elements-returns-in-Some : goal.elements-returns-in-Some
unfolding listed
elements-returns-in-Some t c =
    let e = one_more (λ n. listed (read c.args.depth level.Conditional) s.CloseBracket n (exprs_in c.loop-turn.found) (seen c.loop-turn.rest)) _ c.loop-turn._turn c.loop-turn-test.true c.loop-turn.invariant in
    first_of (search rules, grind (arith, common_steps))

pub elements-returns-in_default-2 : goal.elements-returns-in_default-2
unfolding listed
elements-returns-in_default-2 t c =
    let e = one_more (λ n. listed (read c.args.depth level.Conditional) s.CloseBracket n (exprs_in c.loop-turn.found) (seen c.loop-turn.rest)) _ c.loop-turn._turn c.loop-turn-test.true c.loop-turn.invariant in
    first_of (search rules, grind (arith, common_steps))

pub elements-returns-in_default-resumed : goal.elements-returns-in_default-resumed
unfolding listed
elements-returns-in_default-resumed t c =
    let e = one_more (λ n. listed (read c.args.depth level.Conditional) s.CloseBracket n (exprs_in c.loop-turn.found) (seen c.loop-turn.rest)) _ c.loop-turn._turn c.loop-turn-test.true c.loop-turn.invariant in
    first_of (search rules, grind (arith, common_steps))

pub elements-loop-turn-preserved : goal.elements-loop-turn-preserved
unfolding listed
elements-loop-turn-preserved t c =
    let e = one_more (λ n. listed (read c.args.depth level.Conditional) s.CloseBracket n (exprs_in c.loop-turn.found) (seen c.loop-turn.rest)) _ c.loop-turn._turn c.loop-turn-test.true c.loop-turn.invariant in
    first_of (search rules, grind (arith, common_steps))

pub entries-returns-in-Some : goal.entries-returns-in-Some
unfolding listed
entries-returns-in-Some t c =
    let e = one_more (λ n. listed (spec.entry (read c.args.depth)) s.CloseBrace n (entries_in c.loop-turn.found) (seen c.loop-turn.rest)) _ c.loop-turn._turn c.loop-turn-test.true c.loop-turn.invariant in
    first_of (search rules, grind (arith, common_steps))

pub entries-returns-in_default-2 : goal.entries-returns-in_default-2
unfolding listed
entries-returns-in_default-2 t c =
    let e = one_more (λ n. listed (spec.entry (read c.args.depth)) s.CloseBrace n (entries_in c.loop-turn.found) (seen c.loop-turn.rest)) _ c.loop-turn._turn c.loop-turn-test.true c.loop-turn.invariant in
    first_of (search rules, grind (arith, common_steps))

pub entries-returns-in_default-resumed : goal.entries-returns-in_default-resumed
unfolding listed
entries-returns-in_default-resumed t c =
    let e = one_more (λ n. listed (spec.entry (read c.args.depth)) s.CloseBrace n (entries_in c.loop-turn.found) (seen c.loop-turn.rest)) _ c.loop-turn._turn c.loop-turn-test.true c.loop-turn.invariant in
    first_of (search rules, grind (arith, common_steps))

pub entries-loop-turn-preserved : goal.entries-loop-turn-preserved
unfolding listed
entries-loop-turn-preserved t c =
    let e = one_more (λ n. listed (spec.entry (read c.args.depth)) s.CloseBrace n (entries_in c.loop-turn.found) (seen c.loop-turn.rest)) _ c.loop-turn._turn c.loop-turn-test.true c.loop-turn.invariant in
    first_of (search rules, grind (arith, common_steps))
