use Rattle.std.proofs.Common.{subst}
use Rattle.std.specs.Prelude.{map}
use Rattle.serde_json.specs.View.{view}
use Rattle.cad_runs.specs.Commands.{deploy}
use Rattle.cad_store.specs.Stores.{held}
use Rattle.cad_world.specs.State as definition
use Rattle.cad_worlds.specs.Standing.{world_of}
use Rattle.cad_answers.specs.Code.Outcomes.{Comes}
use Rattle.cad_answers.proofs.Comings.{stands_kept}
use Rattle.cad_serve_parts.proofs.Results.{if_ok}
use Rattle.cad_answers.proofs.commands.deploy_over.Goals as goal

pub deploy_outcome-requires-clause-kept : goal.deploy_outcome-requires-clause-kept
deploy_outcome-requires-clause-kept c = stands_kept (held c.args.store.now) (world_of c.in_ok-world.world) c.in_ok-world.ensures

-- over one World that the registers stand for, so over each
pub returns : goal.returns
returns c =
    if_ok c.deploy_outcome.result
    (λ o h w stands.
    subst (λ (x : definition.World). Comes o (held c.args.store.now) x (deploy c.args.address c.args.name.now c.args.code.now (map view c.args.arguments.now) c.args.limit))
    (c.one_world.ensures (held c.args.store.now) (world_of c.in_ok-world.world) w c.in_ok-world.ensures stands) h)
    c.deploy_outcome.ensures
