use Rattle.std.proofs.Common.{ap, sym, ◌∙◌}
use Rattle.std.specs.Cmp.Lexicographic.{bytes_decides}
use Rattle.cad_keys.proofs.Tests.{ascii_form, texts_by}
use Rattle.cad_text.specs.Texts.{normal_form}
use Rattle.cad_keys.proofs.same.is_same_text.Goals as goal

pub returns-then-is_ascii-2 : goal.returns-then-is_ascii-2
returns-then-is_ascii-2 c =
    let same = bytes_decides c.args.x.now c.args.y.now in
    let of_x = ascii_form c.args.x.now c.if-is_ascii.ensures.cases in
    let of_y = ascii_form c.args.y.now c.if-is_ascii-2.ensures.cases in
    texts_by c.eq.result (normal_form c.args.x.now) (normal_form c.args.y.now) (
      λ h. ap normal_form (same.0 (sym c.eq.ensures ∙ h)),
      λ h. c.eq.ensures ∙ same.1 (sym of_x ∙ h ∙ of_y),
    )
