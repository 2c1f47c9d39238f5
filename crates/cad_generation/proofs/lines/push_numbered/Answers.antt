use Rattle.cad_generation.proofs.Texts.{numbered_text, next_number_is}
use Rattle.cad_generation.proofs.lines.push_numbered.Goals as goal

pub loop-preserved : goal.loop-preserved
loop-preserved c = (
  numbered_text c.args.bytes.now.items c.loop.bytes.items c.push_line.new.bytes.items c.in_ok-line.line c.args.n c.loop.counter c.loop.x c.next_number-x.result
      c.loop.invariant.0 c.loop.invariant.1 c.next_number-x.ensures c.in_ok-line.ensures c.in_ok-push_line.ensures,
  next_number_is c.args.n c.loop.counter c.loop.x c.next_number-x.result c.loop.invariant.1 c.next_number-x.ensures,
)
