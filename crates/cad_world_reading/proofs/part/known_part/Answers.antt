use Rattle.std.proofs.Common.{List, Bor, sym, subst}
use Rattle.cad_accounts.specs.Memory.{rows_in_blocks}
use Rattle.cad_accounts.specs.declared.row.Row.{Row}
use Rattle.cad_worlds.specs.Code.Passing.{LeavesOut}
use Rattle.cad_worlds.specs.RowLists.{rows_at}
use Rattle.cad_world_reading.proofs.PartKnown.{part_known}
use Rattle.cad_world_reading.proofs.part.known_part.Goals as goal

pub returns-in-Ok : goal.returns-in-Ok
returns-in-Ok c =
    let blocks = c.args.blocks.now in
    let wanted = c.args.wanted.now in
    let leaves = subst (λ (l : List (Bor Row)). LeavesOut wanted (rows_at l) (rows_in_blocks blocks)) (sym c.as_slice.ensures.value) c.in_ok-rows.ensures in
    part_known blocks wanted (rows_at c.as_slice.result.now) c.in-Ok.draft c.part_from.result c.requires leaves c.in-Ok.ensures c.part_from.ensures
