use Rattle.std.proofs.Common.{◌+◌, ◌∙◌, take, sym, arith}
use Rattle.cad_worlds.proofs.Passing.{by_span}
use Rattle.cad_worlds.proofs.selection.passed_rows.Goals as goal

pub loop-passed-preserved-then-is_passed : goal.loop-passed-preserved-then-is_passed
loop-passed-preserved-then-is_passed c = (
  omega (arith, c.next_look-look.ensures.inside),
  c.loop-passed.invariant.1,
  by_span c.args.indexes.now c.span_of.result (take (c.next_look-look.result + 1) c.args.rows.now) (sym c.is_passed.ensures ∙ c.if-is_passed.true) (sym c.span_of.ensures),
)
