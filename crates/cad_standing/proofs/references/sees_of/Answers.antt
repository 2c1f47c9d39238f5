use Rattle.cad_world.specs.Rows.{Tree}
use Rattle.cad_rows.specs.Views.{pure_shape}
use Rattle.std.proofs.Common.{Bool, Some, subst, sym, ◌∙◌}
use Rattle.cad_evaluation.specs.Casts.{borrowed}
use Rattle.cad_standing.specs.Code.Plans.{PlansAnywhere, reference_by}
use Rattle.cad_standing.proofs.ReferenceLaws.{sees_optional}
use Rattle.cad_standing.proofs.references.sees_of.Goals as goal

pub returns-then-wraps : goal.returns-then-wraps
returns-then-wraps c = λ a x parts.
    let t : Tree = record { optionals = c.args.optionals; shape = pure_shape c.args.shape.now; parts = parts } in
    subst (λ (b : Bool). PlansAnywhere (reference_by a x b) (borrowed a x c.args.one b (Some t)) c.sees_in_optional.result) (sym c.if-wraps.true)
    (sees_optional a x c.args.one t c.sees_in_optional.result (sym c.is_reference_shape.ensures ∙ c.if-is_reference_shape.false) (c.sees_in_optional.ensures a x parts))
