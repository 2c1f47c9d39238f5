use Rattle.std.proofs.Common.{subst}
use Rattle.cad_outcomes.specs.Outcomes.{Stops}
use Rattle.cad_rows.specs.Views.{pure_tree}
use Rattle.cad_rows.specs.declared.tree.Tree.{Tree}
use Rattle.cad_state.specs.Views.{state_over}
use Rattle.cad_syntax.specs.Types.{pure_type}
use Rattle.cad_world.specs.Transfers.{transferred}
use Rattle.cad_statement_leaves.proofs.moves.transfer.Goals as goal

pub returns-in-Err : goal.returns-in-Err
returns-in-Err c accounts =
    subst (λ (t : Tree). Stops (transferred (pure_type c.args.target.now) (pure_tree t) (state_over accounts c.args.state.now)) c.in-Err.stop) c.deref_mut.ensures.value (c.in-Err.ensures accounts)
