use Rattle.std.proofs.Common.{Bool, subst, sym}
use Rattle.cad_evaluation.specs.Uses.{wrapped_if}
use Rattle.cad_outcomes.specs.Outcomes.{Gives}
use Rattle.cad_rows.specs.Views.{pure_tree}
use Rattle.cad_world.specs.State.{give}
use Rattle.cad_standing.proofs.references.wrapped_if.Goals as goal

pub returns-then-wraps : goal.returns-then-wraps
returns-then-wraps c = subst (λ (b : Bool). Gives pure_tree (give (wrapped_if b (pure_tree c.args.reference))) c.wrapped.result) (sym c.if-wraps.true) c.wrapped.ensures
