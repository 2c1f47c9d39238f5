use Rattle.std.proofs.Common.{ap, ◌∙◌}
use Rattle.cad_accounts.specs.declared.row.Row.{Row}
use Rattle.cad_worlds.proofs.Blocks.{last_of}
use Rattle.cad_worlds.proofs.spans.last_key.Goals as goal

pub returns-in-len1-up : goal.returns-in-len1-up
returns-in-len1-up c = c.as_slice.ensures ∙ ap (λ (r : Row). r.key.0) c.last-item.is ∙ last_of c.args.rows.now c.last-item.result c.in-len1-up.len_at_least
