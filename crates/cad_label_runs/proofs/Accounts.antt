-- Accounts: labels are kept apart, and values in hand have none.
use Rattle.cad_syntax.specs.Types.{basic, reference}
use Rattle.cad_syntax.specs.declared.address.Address.{Address}
use Rattle.cad_syntax.specs.declared.types.Basic.{Basic}
use Rattle.cad_syntax.specs.declared.types.Basic.TheVariants as b
use Rattle.cad_values.specs.Values as v
use Rattle.cad_world.specs.Rows.{Tree}
use Rattle.cad_world.specs.State.{Action}
use Rattle.cad_world.specs.Receivers.{Spot}
use Rattle.cad_world.specs.Trees.{of_plain}
use Rattle.cad_evaluation.specs.Texts.{in_tree}
use Rattle.cad_evaluation.specs.Accounts.{account_reference, account_in_value, on_account, read_address, read_part_of}
use Rattle.std.proofs.Common.{refl}
use Rattle.cad_labels.specs.Laws.{HasNone, Keeps}
use Rattle.cad_world.specs.State.{give}
use Rattle.cad_label_runs.proofs.Values.{account_none}
use Rattle.cad_labels.proofs.Forms.{keeps_give, keeps_some}

pub on_account_keeps : (x1 : Basic) (x2 : Spot) (x3 : Address → Action Tree) → ((y0 : Address) → Keeps HasNone (x3 y0)) → Keeps HasNone (on_account x1 x2 x3)
on_account_keeps part spot f h_f = keeps_some HasNone (in_tree (account_in_value part) spot.tree) _ (λ w1. h_f w1)

pub read_address_keeps : (x1 : Spot) → Keeps HasNone (read_address x1)
read_address_keeps spot = on_account_keeps b.Account spot _ (λ a. keeps_give HasNone (of_plain (v.address a)) (λ p. refl))

pub read_part_of_keeps : (x1 : Basic) (x2 : Basic) (x3 : Spot) → Keeps HasNone (read_part_of x1 x2 x3)
read_part_of_keeps whole part spot = on_account_keeps whole spot _ (λ a. keeps_some HasNone spot.rights (λ own. give (account_reference (reference own (basic part)) a)) (λ own. keeps_give HasNone (account_reference (reference own (basic part)) a) (account_none (reference own (basic part)) a)))
