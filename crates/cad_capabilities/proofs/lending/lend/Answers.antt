use Rattle.std.proofs.Common.{Option, ap, sym, ◌∙◌}
use Rattle.cad_capabilities.specs.Views.{capability_of}
use Rattle.cad_evaluation.specs.Capabilities.{lent_by}
use Rattle.cad_outcomes.proofs.Steps.{stops_on}
use Rattle.cad_state.specs.Views.{state_over}
use Rattle.cad_world.specs.Rows.{Tree}
use Rattle.cad_world.specs.State.{Outcome, bind, give, ok}
use Rattle.cad_evaluation.specs.Texts.{optional_tree}
use Rattle.cad_capabilities.proofs.lending.lend.Goals as goal

pub returns-in-Ok : goal.returns-in-Ok
returns-in-Ok c = λ w ready.
    let u = state_over w c.lend_if.new.state in
    ap (λ (o : Outcome (Option Tree)). bind o (λ t. give (optional_tree t))) (c.in-Ok.ensures w ready)
    ∙ ap (λ (t : Tree). ok t u) (sym c.optional_tree.ensures)

pub returns-in-Err : goal.returns-in-Err
returns-in-Err c = λ w ready.
    stops_on (lent_by (capability_of c.args.cap.now) (state_over w c.args.state.now)) (λ t. give (optional_tree t)) c.in-Err.stop (c.in-Err.ensures w ready)
