use Rattle.cad_outcomes.specs.Outcomes.{Gives}
use Rattle.cad_rows.specs.Views.{pure_tree}
use Rattle.cad_value_operations.specs.Code.Members.{address_member}
use Rattle.cad_value_operations.specs.declared.groups.AddressMember.{AddressMember}
use Rattle.std.proofs.Common.{subst, sym}
use Rattle.cad_value_operations.proofs.leaves.of_address.Goals as goal

pub returns-in-Told : goal.returns-in-Told
returns-in-Told c = subst (λ (m : AddressMember). Gives pure_tree (address_member m c.args.address) c.address_text.result) (sym c.in-Told.is) c.address_text.ensures

pub returns-in-Bytes : goal.returns-in-Bytes
returns-in-Bytes c = subst (λ (m : AddressMember). Gives pure_tree (address_member m c.args.address) c.address_bytes.result) (sym c.in-Bytes.is) c.address_bytes.ensures
