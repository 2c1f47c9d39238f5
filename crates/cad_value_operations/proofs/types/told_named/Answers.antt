use Rattle.cad_outcomes.specs.Outcomes.{Gives}
use Rattle.cad_syntax.specs.Types.{pure_type}
use Rattle.cad_syntax.specs.declared.types.CadType.{CadType}
use Rattle.cad_value_operations.specs.Code.Members.{named, told_of}
use Rattle.cad_world.specs.State.{give, ok}
use Rattle.std.proofs.Common.{Bor, Option, ap, option_map, subst, sym}
use Rattle.cad_value_operations.proofs.types.told_named.Goals as goal

pub returns-in-Some : goal.returns-in-Some
returns-in-Some c =
    subst (λ (o : Option (Bor CadType)). Gives told_of (give (named (option_map (λ (t : Bor CadType). pure_type t.now) o))) c.told_type.result) (sym c.in-Some.is) c.told_type.ensures

pub returns-in-None : goal.returns-in-None
returns-in-None c = λ s. ap (λ (o : Option (Bor CadType)). ok (named (option_map (λ (t : Bor CadType). pure_type t.now) o)) s) c.in-None.is
