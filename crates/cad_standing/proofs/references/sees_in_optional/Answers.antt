use Rattle.cad_world.specs.Rows.{Tree}
use Rattle.cad_rows.specs.Views.{pure_shape}
use Rattle.std.proofs.Common.{Bool, true, Ok, ℕ, Some, subst, sym}
use Rattle.cad_outcomes.specs.Outcomes.{Gives}
use Rattle.cad_standing.specs.Code.Plans.{PlansAnywhere, reference_by}
use Rattle.cad_evaluation.specs.Casts.{refer_optional}
use Rattle.cad_evaluation.specs.Changing.{content_of}
use Rattle.cad_evaluation.specs.Uses.{nil_of}
use Rattle.cad_standing.proofs.ReferenceLaws.{sees_nil, sees_content, sees_none}
use Rattle.cad_standing.proofs.references.sees_in_optional.Goals as goal

pub returns-then-is_nil : goal.returns-then-is_nil
returns-then-is_nil c = λ a x parts.
    let t : Tree = record { optionals = c.args.optionals; shape = pure_shape c.args.shape.now; parts = parts } in
    sees_nil a x c.args.one t (subst (λ (b : Bool). Gives {B = Bool} (λ k. k) (nil_of (content_of t)) (Ok b)) c.if-is_nil.true (c.in-Ok.ensures parts))

pub returns-else-is_nil : goal.returns-else-is_nil
returns-else-is_nil c = λ a x parts.
    let t : Tree = record { optionals = c.args.optionals; shape = pure_shape c.args.shape.now; parts = parts } in
    subst (λ (n : ℕ). PlansAnywhere (reference_by a x true) (refer_optional a x c.args.one (content_of t) t) (Ok (Some n))) (sym c.one_less.ensures)
    (sees_content a x c.args.one t (subst (λ (b : Bool). Gives {B = Bool} (λ k. k) (nil_of (content_of t)) (Ok b)) c.if-is_nil.false (c.in-Ok.ensures parts)))

pub returns-in-Err : goal.returns-in-Err
returns-in-Err c = λ a x parts.
    sees_none a x c.args.one (record { optionals = c.args.optionals; shape = pure_shape c.args.shape.now; parts = parts }) c.in-Err.stop (c.in-Err.ensures parts)
