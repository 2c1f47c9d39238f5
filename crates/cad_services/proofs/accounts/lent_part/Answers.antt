use Rattle.cad_outcomes.specs.Outcomes.{Gives}
use Rattle.cad_rows.specs.Views.{pure_tree}
use Rattle.cad_services.specs.Code.Services.{lend_part}
use Rattle.cad_syntax.specs.declared.types.Authorization.{Authorization}
use Rattle.std.proofs.Common.{Bor, Option, subst, sym}
use Rattle.std.specs.Prelude.{option_map}
use Rattle.cad_services.proofs.accounts.lent_part.Goals as goal

pub returns-in-Some : goal.returns-in-Some
returns-in-Some c = subst (λ (o : Option (Bor Authorization)). Gives pure_tree (lend_part (option_map (λ (own : Bor Authorization). own.now) o) c.args.part c.args.address) c.part_tree.result) (sym c.in-Some.is) c.part_tree.ensures
