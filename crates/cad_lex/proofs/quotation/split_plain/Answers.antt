use Rattle.std.proofs.Common.{IsUtf8, sym, ap, ◌∙◌, subst, take, length, ◌-◌}
use Rattle.cad_grammar.specs.Lexes.{is_plain}
use Rattle.cad_lex.proofs.Runs.{take_behind}
use Rattle.cad_lex.proofs.Quotes.{plain_is_utf8}
use Rattle.cad_lex.proofs.quotation.split_plain.Goals as goal

pub text_of-requires : goal.text_of-requires
text_of-requires c =
    let bytes = c.args.bytes.now in
    subst IsUtf8 (sym (ap (λ l. take (length bytes - length l) bytes) c.behind_plain-rest.ensures ∙ take_behind is_plain bytes)) (plain_is_utf8 bytes c.requires)
