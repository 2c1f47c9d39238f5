use Rattle.std.proofs.Common.{◌∙◌, ◌+◌, ◌-◌, ap, arith}
use Rattle.cad_world.specs.Rows.{back}
use Rattle.cad_rows.specs.Views.{pure_row}
use Rattle.cad_making.proofs.Fronts.{back_turn}
use Rattle.cad_making.proofs.rows.keep_back.Goals as goal

pub loop-preserved : goal.loop-preserved
loop-preserved c =
    ap (λ xs. back (c.args.n - (c.loop.counter + 1)) (pure_row xs)) c.remove-place.ensures.items
    ∙ back_turn c.args.n c.loop.counter (c.loop.counter + 1) c.loop.row.items (omega arith) (omega (arith, c.loop-test.true)) (omega (arith, c.len-left.ensures, c.if-left-eq0.false, c.loop.row.ok.0))
    ∙ c.loop.invariant
