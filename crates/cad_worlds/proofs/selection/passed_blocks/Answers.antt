use Rattle.std.proofs.Common.{◌+◌, ◌∙◌, take, sym, arith}
use Rattle.cad_worlds.proofs.Fronts.{by_front}
use Rattle.cad_worlds.proofs.selection.passed_blocks.Goals as goal

pub loop-passed-preserved-then-is_passed : goal.loop-passed-preserved-then-is_passed
loop-passed-preserved-then-is_passed c = (
  omega (arith, c.next_look-look.ensures.inside),
  c.loop-passed.invariant.1,
  by_front c.args.indexes.now c.span_in.result (take (c.next_look-look.result + 1) c.args.blocks.now) (sym c.is_passed.ensures ∙ c.if-is_passed.true) (sym c.span_in.ensures),
)
