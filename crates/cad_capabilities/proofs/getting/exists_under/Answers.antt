use Rattle.std.proofs.Common.{Bool, ap, sym, ◌∙◌}
use Rattle.cad_evaluation.specs.Numbers.{bool_tree}
use Rattle.cad_state.specs.Views.{state_over}
use Rattle.cad_world.specs.Rows.{Tree}
use Rattle.cad_world.specs.State.{ok}
use Rattle.cad_capabilities.proofs.getting.exists_under.Goals as goal

pub returns-in-Ok : goal.returns-in-Ok
returns-in-Ok c = λ w.
    let s = state_over w c.args.state.now in
    ap (λ (b : Bool). ok (bool_tree b) s) (sym (c.in-Ok.ensures w)) ∙ ap (λ (t : Tree). ok t s) (sym c.bool_tree.ensures)
