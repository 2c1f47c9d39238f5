use Rattle.std.proofs.Common.{◌≡◌, ◌+◌, ◌-◌, ◌*◌}
use Rattle.cad_parse_type.specs.Code.Views.{seen}
use Rattle.cad_parse_statement.specs.Code.Views.{stmts_in, cases_in}
use Rattle.cad_parse_statement.specs.Code.Reading as spec
use Rattle.cad_parse_statement.proofs.reader.+read.Given as goal

abbrev pub decreases-read_statement : goal.decreases-read_statement
decreases-read_statement l = 64 * l.depth

abbrev pub decreases-read_if : goal.decreases-read_if
decreases-read_if l = 64 * l.depth

abbrev pub decreases-statement : goal.decreases-statement
decreases-statement l = 64 * l.depth + 8

abbrev pub decreases-whole_if : goal.decreases-whole_if
decreases-whole_if l = 64 * l.depth + 8

abbrev pub decreases-conditional : goal.decreases-conditional
decreases-conditional l = 64 * l.depth + 7

abbrev pub decreases-branches : goal.decreases-branches
decreases-branches l = 64 * l.depth + 6

abbrev pub decreases-otherwise : goal.decreases-otherwise
decreases-otherwise l = 64 * l.depth + 5

abbrev pub decreases-alternative : goal.decreases-alternative
decreases-alternative l = 64 * l.depth + 4

abbrev pub decreases-while_loop : goal.decreases-while_loop
decreases-while_loop l = 64 * l.depth + 6

abbrev pub decreases-for_loop : goal.decreases-for_loop
decreases-for_loop l = 64 * l.depth + 6

abbrev pub decreases-switch : goal.decreases-switch
decreases-switch l = 64 * l.depth + 7

abbrev pub decreases-sections : goal.decreases-sections
decreases-sections l = 64 * l.depth + 6

abbrev pub decreases-all_cases : goal.decreases-all_cases
decreases-all_cases l = 64 * l.depth + 5

abbrev pub decreases-one_case : goal.decreases-one_case
decreases-one_case l = 64 * l.depth + 4

abbrev pub decreases-default : goal.decreases-default
decreases-default l = 64 * l.depth + 4

abbrev pub decreases-block_at : goal.decreases-block_at
decreases-block_at l = 64 * l.depth + 3

abbrev pub decreases-body : goal.decreases-body
decreases-body l = 64 * l.depth + 2

abbrev pub invariant-body-loop-turn : goal.invariant-body-loop-turn
invariant-body-loop-turn l =
    spec.body (spec.read l.depth) (seen l.spot)
    ≡ spec.statements (spec.read l.depth spec.a_statement) (l._turn-end - l._turn) (stmts_in l.found) (seen l.at)

abbrev pub invariant-all_cases-loop-turn : goal.invariant-all_cases-loop-turn
invariant-all_cases-loop-turn l =
    spec.all_cases (spec.read l.depth) (seen l.spot)
    ≡ spec.cases (spec.read l.depth) (l._turn-end - l._turn) (cases_in l.found) (seen l.at)
