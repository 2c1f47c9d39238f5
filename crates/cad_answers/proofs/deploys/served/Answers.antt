use Rattle.std.proofs.Common.{◌≢◌, List, ℕ, ◌∙◌, subst}
use Rattle.std.specs.Prelude.{map}
use Rattle.serde_json.specs.View.{view}
use Rattle.cad_acceptance.specs.Acceptance.{checked_of}
use Rattle.cad_replies.specs.Deployments.{Comes}
use Rattle.cad_fronts.specs.Views.{front_of}
use Rattle.cad_loads.specs.Loads.{program_in}
use Rattle.cad_runs.specs.Commands.{failed}
use Rattle.cad_store.specs.Stores.{held}
use Rattle.cad_run_outcomes.specs.Outcomes as spec
use Rattle.cad_worlds.specs.Standing.{world_of}
use Rattle.cad_answers.specs.Answer.{RunsDeploy, installs}
use Rattle.cad_answers.proofs.Comings.{comes_as}
use Rattle.cad_serve_parts.proofs.Results.{if_ok}
use Rattle.cad_answers.proofs.deploys.served.Goals as goal

-- the bytes are those of the code that was handed on (`as_bytes`)
pub returns-in-Ok : goal.returns-in-Ok
returns-in-Ok c =
    let front = front_of c.args.verdicts.now in
    let w = world_of c.args.world in
    let p = program_in (checked_of c.args.checked) in
    let all = map view c.args.arguments.now in
    if_ok c.installed.result (λ o h accepts.
    comes_as {P = λ x. Comes front w p c.args.id c.in-Ok.bytes all c.args.limit x × (x ≢ spec.stays (failed 0))} {Q = RunsDeploy w c.args.id c.args.code.now all c.args.limit} o (held c.args.store.now)
    (λ x k. installs c.requires.free accepts c.requires.right
    (subst (λ (text : List ℕ). Comes front w p c.args.id text all c.args.limit x) (c.in-Ok.ensures ∙ c.as_bytes.ensures.value) k.0) k.1)
    h)
    c.installed.ensures
