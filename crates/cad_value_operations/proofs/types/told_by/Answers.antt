use Rattle.cad_outcomes.specs.Outcomes.{Gives}
use Rattle.cad_receivers.specs.Views.{spot_of}
use Rattle.cad_value_operations.specs.Code.Members.{PureTold, by_copy, named, told_if, told_of}
use Rattle.cad_world.specs.Rows.{Tree}
use Rattle.cad_world.specs.State.{give, ok}
use Rattle.std.proofs.Common.{Bool, ap, subst, sym, ◌∙◌}
use Rattle.cad_value_operations.proofs.types.told_by.Goals as goal

pub returns-then-is_met : goal.returns-then-is_met
returns-then-is_met c =
    subst (λ (o : PureTold). Gives told_of (give o) c.told_named.result)
    (ap named c.target_in.ensures ∙ ap (λ (b : Bool). told_if b (spot_of c.args.spot).tree) (sym c.if-is_met.true ∙ c.is_met.ensures)) c.told_named.ensures

pub returns-in-Ok : goal.returns-in-Ok
returns-in-Ok c = λ s.
    ap (λ (b : Bool). ok (told_if b (spot_of c.args.spot).tree) s) (sym c.is_met.ensures ∙ c.if-is_met.false)
    ∙ ap (λ (t : Tree). ok (by_copy t) s) (sym c.in-Ok.ensures)
