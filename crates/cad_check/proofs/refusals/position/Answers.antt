use Rattle.std.proofs.Common.{subst, sym}
use Rattle.std.specs.Prelude.{option_copied}
use Rattle.std.specs.Result.{IfOk}
use Rattle.cad_declarations.specs.Views.{part_of, tables_of}
use Rattle.cad_check.specs.Answers.{Tells, position_refused}
use Rattle.cad_check.specs.declared.refusals.BodyPhase.{BodyPhase}
use Rattle.cad_check.proofs.Refused.{impure_told}
use Rattle.cad_check.proofs.refusals.position.Goals as goal

pub returns-in-Moves : goal.returns-in-Moves
returns-in-Moves c =
    subst (λ (p : BodyPhase). IfOk c.moved_at.result (λ at. Tells (position_refused (tables_of c.args.tables.now) p (option_copied c.args.owner) c.args.rules.now (part_of c.args.body.now)) at)) (sym c.in-Moves.is)
    c.moved_at.ensures

pub returns-in-Purity : goal.returns-in-Purity
returns-in-Purity c =
    subst (λ (p : BodyPhase). Tells (position_refused (tables_of c.args.tables.now) p (option_copied c.args.owner) c.args.rules.now (part_of c.args.body.now)) c.impurity.result) (sym c.in-Purity.is)
    (impure_told (tables_of c.args.tables.now) (part_of c.args.body.now) c.impurity.result c.impurity.ensures)

pub returns-in-Initialisation : goal.returns-in-Initialisation
returns-in-Initialisation c =
    subst (λ (p : BodyPhase). IfOk c.unset_at.result (λ at. Tells (position_refused (tables_of c.args.tables.now) p (option_copied c.args.owner) c.args.rules.now (part_of c.args.body.now)) at)) (sym c.in-Initialisation.is)
    c.unset_at.ensures
