use Rattle.std.proofs.Common.{encode_utf8_all, sym, ap, ◌∙◌}
use Rattle.std.proofs.lemmas.Str.{encodes-chars, encodes_same}
use Rattle.std.specs.Cmp.Lexicographic.{bytes_decides}
use Rattle.cad_text.specs.Texts.{normal_form}
use Rattle.cad_text.proofs.normal.equal.Goals as goal

pub returns-then-branch-2 : goal.returns-then-branch-2
returns-then-branch-2 c =
    let same = bytes_decides c.args.a.now c.args.b.now in
    let of_a = c.in_ok-is_nfc.ensures.answer.0 c.if-branch.true in
    let of_b = c.in_ok-is_nfc-2.ensures.answer.0 c.if-branch-2.true in (
      λ h. ap normal_form (same.0 (sym c.eq.ensures ∙ h)),
      λ h. c.eq.ensures ∙ same.1 (sym (encodes-chars _ c.utf8.a) ∙ ap encode_utf8_all (sym of_a ∙ encodes_same _ _ h ∙ of_b) ∙ encodes-chars _ c.utf8.b),
    )
