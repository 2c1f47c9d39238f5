use Rattle.cad_evaluation.specs.Numbers.{bool_tree}
use Rattle.cad_state.specs.Views.{state_over}
use Rattle.cad_world.specs.Rows.{Tree}
use Rattle.cad_world.specs.State.{ok}
use Rattle.std.proofs.Common.{Bool, ap, sym, ◌∙◌}
use Rattle.cad_value_operations.proofs.types.instance_told.Goals as goal

pub returns-in-Ok : goal.returns-in-Ok
returns-in-Ok c = λ w. ap (λ (b : Bool). ok (bool_tree b) (state_over w c.args.state.now)) (sym (c.in-Ok.ensures.told w)) ∙ ap (λ (t : Tree). ok t (state_over w c.args.state.now)) (sym c.bool_tree.ensures)
