-- Accounts: the same while the units last.
use Rattle.std.specs.Option.{is_some}
use Rattle.cad_syntax.specs.Types.{basic, reference}
use Rattle.cad_syntax.specs.declared.address.Address.{Address}
use Rattle.cad_syntax.specs.declared.types.Basic.{Basic}
use Rattle.cad_syntax.specs.declared.types.Basic.TheVariants as b
use Rattle.cad_values.specs.Values as v
use Rattle.cad_world.specs.Rows.{Tree}
use Rattle.cad_world.specs.State.{Action}
use Rattle.cad_world.specs.Labels.{account_at}
use Rattle.cad_world.specs.Receivers.{Spot}
use Rattle.cad_world.specs.Trees.{of_plain}
use Rattle.cad_evaluation.specs.Texts.{in_tree}
use Rattle.cad_evaluation.specs.Accounts.{account_reference, account_in_value, on_account, there, read_address, read_part_of}
use Rattle.cad_bounds.proofs.Same.{Runs, Same, same_give, same_some, same_guard}

pub same_on_account : (R : Runs) (x1 : Basic) (x2 : Spot) (x3 x3' : Address → Action Tree) → ((y0 : Address) → Same R (x3 y0) (x3' y0)) → Same R (on_account x1 x2 x3) (on_account x1 x2 x3')
same_on_account R part spot f f' h_f = same_some R (in_tree (account_in_value part) spot.tree) _ _ h_f

pub same_there : (R : Runs) (x1 : Address) (x2 x2' : Action Tree) → Same R x2 x2' → Same R (there x1 x2) (there x1 x2')
same_there R a p p' h_p = λ s low. (same_guard R (is_some (account_at s.accounts a.0)) _ _ h_p) s low

pub same_read_address : (R : Runs) (x1 : Spot) → Same R (read_address x1) (read_address x1)
same_read_address R spot = same_on_account R b.Account spot _ _ (λ a. (same_give R (of_plain (v.address a))))

pub same_read_part_of : (R : Runs) (x1 : Basic) (x2 : Basic) (x3 : Spot) → Same R (read_part_of x1 x2 x3) (read_part_of x1 x2 x3)
same_read_part_of R whole part spot = same_on_account R whole spot _ _ (λ a. (same_some R spot.rights _ _ (λ own. (same_give R (account_reference (reference own (basic part)) a)))))
