use Rattle.std.proofs.Common.{refl, sym, ◌∙◌, subst}
use Rattle.std.specs.Prelude.{map}
use Rattle.serde_json.specs.View.{view}
use Rattle.cad_runs.specs.Commands.{bad, deploy}
use Rattle.cad_store.specs.Stores.{held}
use Rattle.cad_syntax.specs.declared.type_id.TypeId.{TypeId}
use Rattle.cad_worlds.specs.Standing.{world_of}
use Rattle.cad_answers.specs.Answer.{RunsDeploy, Does, nowhere, deploys}
use Rattle.cad_answers.proofs.Comings.{comes_as}
use Rattle.cad_serve_parts.proofs.Results.{if_ok}
use Rattle.cad_answers.proofs.deploys.deploy_outcome.Goals as goal

pub returns-then-not-has_account : goal.returns-then-not-has_account
returns-then-not-has_account c = (bad 26, refl, nowhere (sym c.has_account.ensures ∙ c.if-not-has_account.true))

pub returns-in-Ok : goal.returns-in-Ok
returns-in-Ok c =
    let w = world_of c.args.world in
    let all = map view c.args.arguments.now in
    if_ok c.outcome_at.result
    (λ o.
    comes_as {P = RunsDeploy w c.in-Ok.id c.args.code.now all c.args.limit} {Q = Does w (deploy c.args.address c.args.name.now c.args.code.now all c.args.limit)} o (held c.args.store.now)
    (λ x h. deploys (sym c.has_account.ensures ∙ c.if-not-has_account.false) (subst (λ (id : TypeId). RunsDeploy w id c.args.code.now all c.args.limit x) c.in-Ok.ensures h)))
    c.outcome_at.ensures
