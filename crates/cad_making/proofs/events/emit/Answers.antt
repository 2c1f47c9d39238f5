use Rattle.std.proofs.Common.{sym, ap}
use Rattle.cad_evaluation.specs.Ending.{emitted}
use Rattle.cad_outcomes.specs.Outcomes.{no_value}
use Rattle.cad_outcomes.proofs.Steps.{does_same}
use Rattle.cad_rows.specs.Views.{pure_tree}
use Rattle.cad_state.specs.Views.{state_over}
use Rattle.cad_values.specs.Values.{pure_value}
use Rattle.cad_making.specs.Code.Events.{told_of}
use Rattle.cad_making.proofs.events.emit.Goals as goal

pub returns-in-Ok : goal.returns-in-Ok
returns-in-Ok c = λ w. does_same no_value (emitted (pure_tree c.args.tree)) (told_of (pure_value c.in-Ok.value)) (state_over w c.args.state.now) (state_over w c.add_event.new.state) c.add_event.result
    (ap (λ v. told_of v (state_over w c.args.state.now)) (sym c.in-Ok.ensures)) (c.add_event.ensures w)
