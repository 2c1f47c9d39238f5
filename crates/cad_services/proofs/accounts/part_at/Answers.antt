use Rattle.cad_outcomes.specs.Outcomes.{Gives}
use Rattle.cad_rows.specs.Views.{pure_tree}
use Rattle.cad_services.specs.Code.Services.{give_part}
use Rattle.cad_syntax.specs.declared.address.Address.{Address}
use Rattle.cad_world.specs.State.{with_some}
use Rattle.std.proofs.Common.{Option, subst}
use Rattle.std.specs.Prelude.{option_map}
use Rattle.cad_services.proofs.accounts.part_at.Goals as goal

pub returns-in-Some : goal.returns-in-Some
returns-in-Some c = subst (λ (o : Option Address). Gives pure_tree (with_some o (λ a. with_some (option_map (λ own. own.now) c.args.spot.rights) (λ own. give_part own c.args.part a))) c.lent_part.result) c.in-Some.ensures c.lent_part.ensures
