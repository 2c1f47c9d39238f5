use Rattle.cad_syntax.proofs.Hex.{hex_pushed, hex_none}
use Rattle.cad_syntax.proofs.address.+push_hex.Goals as goal

pub returns-then-count-eq0 : goal.returns-then-count-eq0
returns-then-count-eq0 t c = hex_none _ _ c.args.number c.if-count-eq0.true

pub returns : goal.returns
returns t c =
    hex_pushed _ _ _ _ c.args.count c.args.number c.if-count-eq0.false c.in_ok-push_hex.ensures c.hex_digit.ensures c.in_ok-push.ensures.ok
