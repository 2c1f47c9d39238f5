use Rattle.cad_outcomes.specs.Outcomes.{Gives}
use Rattle.cad_rows.specs.Views.{pure_row, pure_tree}
use Rattle.cad_value_operations.specs.Code.Members.{number_member}
use Rattle.cad_value_operations.specs.declared.groups.NumberMember.{NumberMember}
use Rattle.std.proofs.Common.{subst, sym}
use Rattle.cad_value_operations.proofs.leaves.on_number.Goals as goal

pub returns-in-Told : goal.returns-in-Told
returns-in-Told c = subst (λ (m : NumberMember). Gives pure_tree (number_member m (pure_tree c.args.tree.now) (pure_row c.args.row.now)) c.number_text.result) (sym c.in-Told.is) c.number_text.ensures

pub returns-in-Bytes : goal.returns-in-Bytes
returns-in-Bytes c = subst (λ (m : NumberMember). Gives pure_tree (number_member m (pure_tree c.args.tree.now) (pure_row c.args.row.now)) c.number_bytes.result) (sym c.in-Bytes.is) c.number_bytes.ensures

pub returns-in-Saturated : goal.returns-in-Saturated
returns-in-Saturated c = subst (λ (m : NumberMember). Gives pure_tree (number_member m (pure_tree c.args.tree.now) (pure_row c.args.row.now)) c.saturated.result) (sym c.in-Saturated.is) c.saturated.ensures
