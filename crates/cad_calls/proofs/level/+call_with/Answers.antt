use Rattle.std.proofs.Common.{◌∙◌, ap, arith, sym, ◌-◌}
use Rattle.cad_calls.specs.Unnamed.{unnamed}
use Rattle.cad_execution.specs.Passed.{callee_of}
use Rattle.cad_rows.specs.Views.{pure_row}
use Rattle.cad_calls.proofs.Levels.{level_below}
use Rattle.cad_calls.proofs.Unnamed.{has_none}
use Rattle.cad_calls.proofs.level.+call_with.Goals as goal

pub returns-then-is_unnamed : goal.returns-then-is_unnamed
returns-then-is_unnamed g t c =
    level_below (g.E.FrontEnd.front c.args.end.now) (c.args.fuel - 1) c.args.fuel (callee_of c.args.callee) (pure_row c.args.arguments.items) c.args.state.now c.call_at.new.state c.call_at.result (omega (arith, c.if-fuel-eq0.false)) (c.call_at.ensures (has_none (pure_row c.args.arguments.items) (ap (λ l. unnamed (pure_row l)) (sym c.as_slice.ensures.value) ∙ sym c.is_unnamed.ensures ∙ c.if-is_unnamed.true)))
