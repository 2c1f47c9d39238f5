use Rattle.std.proofs.Common.{rules, ◌≡◌}
use Rattle.cad_scopes.specs.Views.{scope_of}
use Rattle.cad_stop_points.proofs.Walks.{body_step}
use Rattle.cad_stop_points.proofs.body_rows.walk_body.Goals as goal

pub loop-s-preserved : goal.loop-s-preserved
loop-s-preserved c =
    body_step (scope_of c.args.scope) c.args.all.now c.loop-s.s-index c.s-item.result (search rules) c.s-item.is c.loop-s.behind c.in_ok-behind.behind _
    c.in_ok-behind.ensures c.loop-s.invariant
