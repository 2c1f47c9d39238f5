use Rattle.cad_lex.proofs.Quotes.{behind_first}
use Rattle.cad_lex.proofs.lexer.token.Goals as goal

pub quotation-requires : goal.quotation-requires
quotation-requires c = behind_first c.args.bytes.now c.requires c.in-len1-up.len_at_least c.if-first-eq34.true
