-- What `parse` reads where no `+` stands first.
use Rattle.std.proofs.Common.{◌∙◌, lit<}
use Rattle.std.proofs.lemmas.Bool.{false≢true}
use Rattle.std.proofs.lemmas.Str.Pattern.{starts_char}
use Rattle.cad_num.proofs.ReadTexts.{whole_from_parse}
use Rattle.cad_num.proofs.decimal.read_whole.Goals as goal

pub returns : goal.returns
returns c =
    let text = c.args.text.now in
    let test = starts_char 43 text _ c.if-starts_with.ensures.cases (lit< tt) (lit< tt) in
    c.ok.ensures.value ∙ whole_from_parse text _ c.parse.ensures.value.0 (λ e. false≢true (test.1 e))
