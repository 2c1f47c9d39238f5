use Rattle.std.proofs.Common.{◌≡◌, ◌≢◌, sym, subst}
use Rattle.std.specs.Prelude.{map}
use Rattle.serde_json.specs.View.{view}
use Rattle.cad_acceptance.specs.Acceptance.{checked_of}
use Rattle.cad_replies.specs.Deployments.{Comes}
use Rattle.cad_fronts.specs.Views.{front_of}
use Rattle.cad_loads.specs.Loads.{program_in}
use Rattle.cad_runs.specs.Commands.{failed}
use Rattle.cad_store.specs.Stores.{held}
use Rattle.cad_run_outcomes.specs.Outcomes as spec
use Rattle.cad_worlds.specs.Standing.{world_of}
use Rattle.cad_answers.proofs.Comings.{comes_as}
use Rattle.cad_serve_parts.proofs.Results.{if_ok}
use Rattle.cad_answers.proofs.deploys.installed.Goals as goal

pub returns : goal.returns
returns c =
    let front = front_of c.args.verdicts.now in
    let w = world_of c.args.world in
    let p = program_in (checked_of c.args.checked) in
    let all = map view c.args.arguments.now in
    let found = c.in_ok-comes.ensures in
    if_ok c.with_changes.result (λ o.
    comes_as {P = λ x. x ≡ found.0} {Q = λ x. Comes front w p c.args.id c.args.code all c.args.limit x × (x ≢ spec.stays (failed 0))} o (held c.args.store.now)
    (λ x same. subst (λ (y : spec.Outcome). Comes front w p c.args.id c.args.code all c.args.limit y × (y ≢ spec.stays (failed 0))) (sym same) (found.1, found.2)))
    (c.with_changes.ensures found.0 found.3)
