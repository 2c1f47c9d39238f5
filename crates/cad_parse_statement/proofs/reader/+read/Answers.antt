use Rattle.std.proofs.Common.{arith, rules}
use Rattle.std.proofs.lemmas.Grind.{common_steps}
use Rattle.cad_parse_type.specs.Code.Views.{seen}
use Rattle.cad_parse_type.proofs.Turns.{deeper, one_more, no_more}
use Rattle.cad_parse_statement.specs.Code.Reading.{a_statement, an_if, read, body, statements, cases, all_cases}
use Rattle.cad_parse_statement.specs.Code.Views.{stmts_in, cases_in}
use Rattle.cad_parse_statement.proofs.reader.+read.Goals as goal

pub read_statement-returns : goal.read_statement-returns
unfolding read
read_statement-returns t c = rw (deeper (λ n. read n a_statement (seen c.args.spot)) c.args.depth (omega arith)) c.statement.ensures

pub read_if-returns : goal.read_if-returns
unfolding read
read_if-returns t c = rw (deeper (λ n. read n an_if (seen c.args.spot)) c.args.depth (omega arith)) c.whole_if.ensures

pub body-loop-turn-init : goal.body-loop-turn-init
unfolding body seen
body-loop-turn-init t c = first_of (search rules, grind (arith, common_steps))

pub body-returns-then-ends : goal.body-returns-then-ends
unfolding statements
body-returns-then-ends t c =
    let e = one_more (λ n. statements (read c.args.depth a_statement) n (stmts_in c.loop-turn.found) (seen c.loop-turn.at)) _ c.loop-turn._turn c.loop-turn-test.true c.loop-turn.invariant in
    first_of (search rules, grind (arith, common_steps))

pub body-returns-in_default : goal.body-returns-in_default
unfolding statements
body-returns-in_default t c =
    let e = one_more (λ n. statements (read c.args.depth a_statement) n (stmts_in c.loop-turn.found) (seen c.loop-turn.at)) _ c.loop-turn._turn c.loop-turn-test.true c.loop-turn.invariant in
    first_of (search rules, grind (arith, common_steps))

pub body-returns-in_default-parted : goal.body-returns-in_default-parted
unfolding statements
body-returns-in_default-parted t c =
    let e = one_more (λ n. statements (read c.args.depth a_statement) n (stmts_in c.loop-turn.found) (seen c.loop-turn.at)) _ c.loop-turn._turn c.loop-turn-test.true c.loop-turn.invariant in
    first_of (search rules, grind (arith, common_steps))

pub body-loop-turn-preserved : goal.body-loop-turn-preserved
unfolding statements
body-loop-turn-preserved t c =
    let e = one_more (λ n. statements (read c.args.depth a_statement) n (stmts_in c.loop-turn.found) (seen c.loop-turn.at)) _ c.loop-turn._turn c.loop-turn-test.true c.loop-turn.invariant in
    first_of (search rules, grind (arith, common_steps))

pub body-returns : goal.body-returns
unfolding statements
body-returns t c =
    let e = no_more (λ n. statements (read c.args.depth a_statement) n (stmts_in c.loop-turn.found) (seen c.loop-turn.at)) _ c.loop-turn._turn c.loop-turn-test.false c.loop-turn.invariant in
    first_of (search rules, grind (arith, common_steps))

pub all_cases-loop-turn-init : goal.all_cases-loop-turn-init
unfolding all_cases seen
all_cases-loop-turn-init t c = first_of (search rules, grind (arith, common_steps))

pub all_cases-returns-in_default : goal.all_cases-returns-in_default
unfolding cases
all_cases-returns-in_default t c =
    let e = one_more (λ n. cases (read c.args.depth) n (cases_in c.loop-turn.found) (seen c.loop-turn.at)) _ c.loop-turn._turn c.loop-turn-test.true c.loop-turn.invariant in
    first_of (search rules, grind (arith, common_steps))

pub all_cases-returns-in_default-2 : goal.all_cases-returns-in_default-2
unfolding cases
all_cases-returns-in_default-2 t c =
    let e = one_more (λ n. cases (read c.args.depth) n (cases_in c.loop-turn.found) (seen c.loop-turn.at)) _ c.loop-turn._turn c.loop-turn-test.true c.loop-turn.invariant in
    first_of (search rules, grind (arith, common_steps))

pub all_cases-loop-turn-preserved : goal.all_cases-loop-turn-preserved
unfolding cases
all_cases-loop-turn-preserved t c =
    let e = one_more (λ n. cases (read c.args.depth) n (cases_in c.loop-turn.found) (seen c.loop-turn.at)) _ c.loop-turn._turn c.loop-turn-test.true c.loop-turn.invariant in
    first_of (search rules, grind (arith, common_steps))

pub all_cases-returns : goal.all_cases-returns
unfolding cases
all_cases-returns t c =
    let e = no_more (λ n. cases (read c.args.depth) n (cases_in c.loop-turn.found) (seen c.loop-turn.at)) _ c.loop-turn._turn c.loop-turn-test.false c.loop-turn.invariant in
    first_of (search rules, grind (arith, common_steps))
