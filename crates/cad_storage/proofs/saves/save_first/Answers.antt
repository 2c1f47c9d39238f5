use Rattle.cad_evaluation.specs.Storage.{saved}
use Rattle.cad_outcomes.specs.Outcomes.{Does}
use Rattle.cad_rows.specs.Views.{pure_tree}
use Rattle.cad_state.specs.Views.{state_over}
use Rattle.cad_storage.specs.Code.{at_stored}
use Rattle.cad_world.specs.Rows.{Tree}
use Rattle.cad_world.specs.State.{with_some}
use Rattle.std.proofs.Common.{Option, subst}
use Rattle.cad_storage.proofs.saves.save_first.Goals as goal

pub returns-in-Some : goal.returns-in-Some
returns-in-Some c = λ w.
    let a = c.args.address in
    let n = c.args.name in
    subst (λ (o : Option Tree). Does pure_tree (with_some o (λ (t : Tree). at_stored (saved a n t) a n)) (state_over w c.args.state.now) (state_over w c.save_value.new.state) c.save_value.result) c.in-Some.ensures (c.save_value.ensures w)
