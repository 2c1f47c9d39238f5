use Rattle.cad_outcomes.specs.Outcomes.{Gives}
use Rattle.cad_rows.specs.Views.{pure_row, pure_tree}
use Rattle.cad_value_operations.specs.Code.Members.{leaf_member}
use Rattle.cad_value_operations.specs.declared.groups.Group.{Group}
use Rattle.std.proofs.Common.{subst, sym}
use Rattle.cad_value_operations.proofs.leaves.leaf.Goals as goal

pub returns-in-Text : goal.returns-in-Text
returns-in-Text c = subst (λ (g : Group). Gives pure_tree (leaf_member g (pure_tree c.args.tree.now) (pure_row c.args.row.now)) c.on_text.result) (sym c.in-Text.is) c.on_text.ensures

pub returns-in-Character : goal.returns-in-Character
returns-in-Character c = subst (λ (g : Group). Gives pure_tree (leaf_member g (pure_tree c.args.tree.now) (pure_row c.args.row.now)) c.on_character.result) (sym c.in-Character.is) (c.on_character.ensures (pure_row c.args.row.now))

pub returns-in-Number : goal.returns-in-Number
returns-in-Number c = subst (λ (g : Group). Gives pure_tree (leaf_member g (pure_tree c.args.tree.now) (pure_row c.args.row.now)) c.on_number.result) (sym c.in-Number.is) c.on_number.ensures

pub returns-in-Address : goal.returns-in-Address
returns-in-Address c = subst (λ (g : Group). Gives pure_tree (leaf_member g (pure_tree c.args.tree.now) (pure_row c.args.row.now)) c.on_address.result) (sym c.in-Address.is) (c.on_address.ensures (pure_row c.args.row.now))

pub returns-in-Identifier : goal.returns-in-Identifier
returns-in-Identifier c = subst (λ (g : Group). Gives pure_tree (leaf_member g (pure_tree c.args.tree.now) (pure_row c.args.row.now)) c.on_type.result) (sym c.in-Identifier.is) (c.on_type.ensures (pure_row c.args.row.now))
