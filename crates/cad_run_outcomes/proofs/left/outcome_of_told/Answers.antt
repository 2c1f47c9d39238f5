use Rattle.std.proofs.Common.{IfOk, map, subst}
use Rattle.cad_json.specs.Told.{told}
use Rattle.cad_runs.specs.Commands.{ran}
use Rattle.cad_state.specs.Views.{contract_of}
use Rattle.cad_values.specs.Shapes.{declarations}
use Rattle.cad_values.specs.Values.{pure_value}
use Rattle.cad_world.specs.Shapes.{shapes}
use Rattle.cad_run_outcomes.specs.Outcomes.{Outcome, leads}
use Rattle.cad_run_outcomes.specs.Views.{TellsOver}
use Rattle.cad_run_outcomes.proofs.left.outcome_of_told.Goals as goal

pub returns-in-Ok : goal.returns-in-Ok
returns-in-Ok c = λ base kept.
    let all = map (told (declarations (shapes (map contract_of c.args.state.contracts.items)))) (map pure_value c.args.state.events.items) in
    subst (λ (o : Outcome). IfOk c.settled_left.result (λ it. TellsOver base it o)) (λ i. leads (ran (c.in-Ok.ensures.made i) (c.in-Ok.ensures.destroyed i) all) (c.in-Ok.ensures.world base kept i))
    (c.settled_left.ensures base all c.requires)
