use Rattle.std.proofs.Common.{ap, ◌∙◌}
use Rattle.cad_parse_expr.proofs.Place.{last_of}
use Rattle.cad_parse_expr.proofs.cursor.end_of.Goals as goal

pub returns-in-len1-up : goal.returns-in-len1-up
returns-in-len1-up c = ap (λ t. t.end) c.last-item.is ∙ last_of c.args.tokens.now c.last-item.result c.in-len1-up.len_at_least
