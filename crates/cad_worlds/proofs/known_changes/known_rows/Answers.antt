use Rattle.std.proofs.Common.{◌∙◌, IfOk, List, ℕ, subst}
use Rattle.cad_accounts.specs.Memory.{rows_in_blocks}
use Rattle.cad_worlds.specs.Code.Passing.{LeavesOut}
use Rattle.cad_worlds.specs.RowLists.{rows_at}
use Rattle.cad_worlds.proofs.known_changes.known_rows.Goals as goal

pub returns : goal.returns
returns c =
    subst (λ (is : List ℕ). IfOk c.part_rows.result (λ rows. LeavesOut is (rows_at rows.items) (rows_in_blocks c.args.blocks.now))) (c.as_slice.ensures.value ∙ c.in_ok-indexes.ensures) c.part_rows.ensures
