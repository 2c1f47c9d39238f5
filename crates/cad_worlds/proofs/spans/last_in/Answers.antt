use Rattle.std.proofs.Common.{ap, ◌∙◌}
use Rattle.cad_accounts.specs.Memory.{block_rows}
use Rattle.cad_accounts.specs.declared.block.Block.{Block}
use Rattle.cad_worlds.proofs.Blocks.{last_block}
use Rattle.cad_worlds.specs.Code.Passing.{last_key}
use Rattle.cad_worlds.proofs.spans.last_in.Goals as goal

pub returns-in-len1-up : goal.returns-in-len1-up
returns-in-len1-up c =
    c.last_key.ensures ∙ ap last_key c.rows.ensures.rows ∙ ap (λ (b : Block). last_key (block_rows b)) c.last-item.is ∙ last_block c.args.blocks.now c.last-item.result c.in-len1-up.len_at_least
