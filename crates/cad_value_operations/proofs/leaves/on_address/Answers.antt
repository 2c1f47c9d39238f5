use Rattle.cad_outcomes.specs.Outcomes.{Gives}
use Rattle.cad_rows.specs.Views.{pure_tree}
use Rattle.cad_syntax.specs.declared.address.Address.{Address}
use Rattle.cad_value_operations.specs.Code.Members.{address_member}
use Rattle.cad_world.specs.State.{with_some}
use Rattle.std.proofs.Common.{Option, subst}
use Rattle.cad_value_operations.proofs.leaves.on_address.Goals as goal

pub returns-in-Some : goal.returns-in-Some
returns-in-Some c = λ row. subst (λ (o : Option Address). Gives pure_tree (with_some o (address_member c.args.member)) c.of_address.result) c.in-Some.ensures c.of_address.ensures
