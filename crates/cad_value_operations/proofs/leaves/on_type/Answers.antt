use Rattle.cad_evaluation.specs.Texts.{text_tree}
use Rattle.cad_evaluation.specs.TypeTexts.{identifier}
use Rattle.cad_outcomes.specs.Outcomes.{Gives}
use Rattle.cad_rows.specs.Views.{pure_tree}
use Rattle.cad_syntax.specs.Types.{PureType}
use Rattle.cad_world.specs.State.{give, with_some}
use Rattle.std.proofs.Common.{Option, subst}
use Rattle.cad_value_operations.proofs.leaves.on_type.Goals as goal

pub returns-in-Some : goal.returns-in-Some
returns-in-Some c = λ row. subst (λ (o : Option PureType). Gives pure_tree (with_some o (λ type. give (text_tree (identifier type)))) c.identifier.result) c.in-Some.ensures c.identifier.ensures
