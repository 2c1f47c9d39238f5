use Rattle.std.proofs.Common.{◌∙◌, List, ap, sym, subst}
use Rattle.cad_accounts.specs.declared.row.Row.{Row}
use Rattle.cad_accounts.specs.Memory.{block_rows}
use Rattle.cad_accounts.specs.Code.Places.{IsPlace}
use Rattle.cad_accounts.specs.KeyOrder.{row_key}
use Rattle.cad_accounts.proofs.BlockEdits.{rows_there}
use Rattle.cad_accounts.proofs.registers.MapRegisters.find.Goals as goal

pub returns : goal.returns
returns c =
    let blocks = c.args.self.now.blocks.items in
    subst (λ (l : List Row). IsPlace row_key c.args.key.now l c.find.result) (ap block_rows c.index.ensures ∙ sym (rows_there blocks c.args.block c.index.result.now c.requires)) c.find.ensures
