use Rattle.cad_outcomes.specs.Outcomes.{Gives}
use Rattle.cad_rows.specs.Views.{pure_row, pure_tree}
use Rattle.cad_value_operations.specs.Code.Members.{text_member}
use Rattle.cad_value_operations.specs.declared.groups.TextMember.{TextMember}
use Rattle.std.proofs.Common.{ap, subst, sym, ◌∙◌}
use Rattle.cad_value_operations.proofs.leaves.of_text.Goals as goal

pub returns-in-Length : goal.returns-in-Length
returns-in-Length c = λ s. ap (λ (m : TextMember). text_member m c.args.text.now (pure_row c.args.row.now) s) c.in-Length.is ∙ c.text_length.ensures s

pub returns-in-Bytes : goal.returns-in-Bytes
returns-in-Bytes c = subst (λ (m : TextMember). Gives pure_tree (text_member m c.args.text.now (pure_row c.args.row.now)) c.text_bytes.result) (sym c.in-Bytes.is) c.text_bytes.ensures

pub returns-in-Concat : goal.returns-in-Concat
returns-in-Concat c = subst (λ (m : TextMember). Gives pure_tree (text_member m c.args.text.now (pure_row c.args.row.now)) c.concat.result) (sym c.in-Concat.is) c.concat.ensures

pub returns-in-Slice : goal.returns-in-Slice
returns-in-Slice c = subst (λ (m : TextMember). Gives pure_tree (text_member m c.args.text.now (pure_row c.args.row.now)) c.slice.result) (sym c.in-Slice.is) c.slice.ensures

pub returns-in-Decoded : goal.returns-in-Decoded
returns-in-Decoded c = subst (λ (m : TextMember). Gives pure_tree (text_member m c.args.text.now (pure_row c.args.row.now)) c.text_decoded.result) (sym c.in-Decoded.is) c.text_decoded.ensures
