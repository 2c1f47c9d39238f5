use Rattle.std.proofs.Common.{sym, ◌∙◌, ◌-◌, arith}
use Rattle.cad_wire.proofs.Members.{last_one}
use Rattle.cad_wire.proofs.body.is_ascending.Goals as goal

pub returns : goal.returns
returns c = sym (c.loop-i.invariant ∙ last_one c.args.entries.now (c.loop-i.i - 1) (omega arith))
