use Rattle.std.proofs.Common.{Option, subst, sym}
use Rattle.cad_outcomes.specs.Outcomes.{Gives}
use Rattle.cad_rows.specs.Views.{pure_tree}
use Rattle.cad_operators.specs.Answers as answers
use Rattle.cad_operators.specs.declared.numbers.Operation.{Operation}
use Rattle.cad_operators.proofs.operators.calculated.Goals as goal

pub returns-in-Some : goal.returns-in-Some
returns-in-Some c =
    subst (λ (o : Option Operation). Gives pure_tree (answers.calculated o (pure_tree c.args.a.now) (pure_tree c.args.b.now)) c.on_numbers.result) (sym c.in-Some.is) c.on_numbers.ensures
