use Rattle.std.proofs.Common.{IsUtf8, sym, ap, ◌∙◌, subst, take, length, ◌-◌}
use Rattle.cad_syntax.specs.Names.{is_part_of_name}
use Rattle.cad_lex.proofs.Runs.{take_behind, word_is_utf8}
use Rattle.cad_lex.proofs.word.split_word.Goals as goal

pub text_of-requires : goal.text_of-requires
text_of-requires c =
    let bytes = c.args.bytes.now in
    subst IsUtf8 (sym (ap (λ l. take (length bytes - length l) bytes) c.behind_word-rest.ensures ∙ take_behind is_part_of_name bytes)) (word_is_utf8 bytes)
