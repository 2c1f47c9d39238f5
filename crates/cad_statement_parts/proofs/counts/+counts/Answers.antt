use Rattle.std.proofs.Common.{rules, arith, ◌+◌, ◌∙◌, ap}
use Rattle.cad_statement_parts.proofs.Sums.{sum_ends, sum_ends_cases, sum_turn, sum_turn_cases}
use Rattle.cad_statement_parts.proofs.counts.+counts.Goals as goal

pub count_all-loop-statement-preserved : goal.count_all-loop-statement-preserved
count_all-loop-statement-preserved t c =
    sum_turn c.args.all.now c.loop-statement.statement-index c.statement-item.result (search rules) c.statement-item.is c.loop-statement.total _ _
    (c.in_ok-total.ensures ∙ ap (λ z. c.loop-statement.total + z) c.in_ok-inner.ensures) c.loop-statement.invariant

pub count_all-returns : goal.count_all-returns
count_all-returns t c = sum_ends c.args.all.now c.loop-statement.statement-index c.loop-statement.total _ (omega arith) c.loop-statement.invariant

pub count_cases-loop-case-preserved : goal.count_cases-loop-case-preserved
count_cases-loop-case-preserved t c =
    sum_turn_cases c.args.cases.now c.loop-case.case-index c.case-item.result (search rules) c.case-item.is c.loop-case.total _ _
    (c.in_ok-total.ensures ∙ ap (λ z. c.loop-case.total + z) c.in_ok-inner.ensures) c.loop-case.invariant

pub count_cases-returns : goal.count_cases-returns
count_cases-returns t c = sum_ends_cases c.args.cases.now c.loop-case.case-index c.loop-case.total _ (omega arith) c.loop-case.invariant
