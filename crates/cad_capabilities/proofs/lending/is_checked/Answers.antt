use Rattle.std.proofs.Common.{Bool}
use Rattle.cad_evaluation.specs.Numbers.{truth_of}
use Rattle.cad_evaluation.specs.Storage.{check}
use Rattle.cad_outcomes.proofs.Steps.{gives_here, stops_on, then}
use Rattle.cad_rows.specs.Views.{pure_row, pure_tree}
use Rattle.cad_state.specs.Views.{state_over}
use Rattle.cad_syntax.specs.Types.{pure_type}
use Rattle.cad_world.specs.Rows.{Tree}
use Rattle.cad_world.specs.State.{Action, give, with_some}
use Rattle.cad_capabilities.proofs.lending.is_checked.Goals as goal

-- the truth that a value is
abbrev truth : Tree → Action Bool
truth t = with_some (truth_of t) give

pub returns-in-Ok : goal.returns-in-Ok
returns-in-Ok c = λ w ready.
    let s = state_over w c.args.state.now in
    let u = state_over w c.check.new.state in
    then (λ (is : Bool). is) (check (pure_type c.args.wanted.now) (pure_row c.args.row.now) c.args.address) truth (pure_tree c.in-Ok.told) s u u c.take_truth.result
    (c.in-Ok.ensures w ready) (gives_here (λ (is : Bool). is) (truth (pure_tree c.in-Ok.told)) c.take_truth.result u c.take_truth.ensures)

pub returns-in-Err : goal.returns-in-Err
returns-in-Err c = λ w ready.
    stops_on (check (pure_type c.args.wanted.now) (pure_row c.args.row.now) c.args.address (state_over w c.args.state.now)) truth c.in-Err.stop (c.in-Err.ensures w ready)
