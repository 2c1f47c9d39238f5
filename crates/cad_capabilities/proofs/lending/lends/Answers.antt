use Rattle.std.proofs.Common.{Option, ap, sym, ◌∙◌}
use Rattle.std.specs.Option.{is_some}
use Rattle.cad_capabilities.specs.Views.{capability_of}
use Rattle.cad_evaluation.specs.Capabilities.{lent_by}
use Rattle.cad_evaluation.specs.Numbers.{bool_tree}
use Rattle.cad_outcomes.proofs.Steps.{stops_on}
use Rattle.cad_state.specs.Views.{state_over}
use Rattle.cad_world.specs.Rows.{Tree}
use Rattle.cad_world.specs.State.{Action, Outcome, bind, give, ok}
use Rattle.cad_capabilities.proofs.lending.lends.Goals as goal

-- whether something is lent, as a value
abbrev is_lent : Option Tree → Action Tree
is_lent t = give (bool_tree (is_some t))

pub returns-in-Ok : goal.returns-in-Ok
returns-in-Ok c = λ w ready.
    let u = state_over w c.lend_if.new.state in
    ap (λ (o : Outcome (Option Tree)). bind o is_lent) (c.in-Ok.ensures w ready) ∙ ap (λ (t : Tree). ok t u) (sym c.lent_tree.ensures)

pub returns-in-Err : goal.returns-in-Err
returns-in-Err c = λ w ready. stops_on (lent_by (capability_of c.args.cap.now) (state_over w c.args.state.now)) is_lent c.in-Err.stop (c.in-Err.ensures w ready)
