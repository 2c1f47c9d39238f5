use Rattle.std.proofs.Common.{rules, ◌≡◌}
use Rattle.cad_scopes.specs.Views.{scope_of}
use Rattle.cad_stop_points.proofs.Walks.{statements_step, cases_step}
use Rattle.cad_stop_points.proofs.body_rows.+statements.Goals as goal

pub walk_cases-loop-case-preserved : goal.walk_cases-loop-case-preserved
walk_cases-loop-case-preserved t c =
    cases_step (scope_of c.args.scope) c.args.cases.now c.loop-case.case-index c.case-item.result (search rules) c.case-item.is c.loop-case.behind c.in_ok-behind.behind _
    c.in_ok-behind.ensures c.loop-case.invariant

pub walk_statements-loop-s-preserved : goal.walk_statements-loop-s-preserved
walk_statements-loop-s-preserved t c =
    statements_step (scope_of c.args.scope) c.args.all.now c.loop-s.s-index c.s-item.result (search rules) c.s-item.is c.loop-s.behind c.in_ok-behind.behind _
    c.in_ok-behind.ensures c.loop-s.invariant
