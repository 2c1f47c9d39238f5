use Rattle.std.proofs.Common.{arith}
use Rattle.cad_serve_parts.specs.Held.{longest}
use Rattle.cad_serve_parts.proofs.Holding.{hold_short, hold_long}
use Rattle.cad_serve_parts.proofs.line.hold.Goals as goal

pub returns-then-len-lt-LONGEST : goal.returns-then-len-lt-LONGEST
returns-then-len-lt-LONGEST c = λ pending is long.
    hold_short longest c.args.held.now.items c.push.new.self.items pending c.args.byte c.args.long is long (omega (arith, c.args.held.now.ok.0)) c.in_ok-push.ensures.items

pub returns : goal.returns
returns c = λ pending is long.
    hold_long longest c.args.held.now.items pending c.args.byte is (omega (arith, c.args.held.now.ok.0))
