use Rattle.std.proofs.Common.{sym, ◌∙◌, arith}
use Rattle.cad_worlds.proofs.KnownPlaces.{known_more}
use Rattle.cad_worlds.proofs.keys.are_known.Goals as goal

pub loop-index-preserved : goal.loop-index-preserved
loop-index-preserved c j low high =
    known_more c.args.known.now c.args.from c.loop-index.index c.loop-index.invariant (sym c.has_index.ensures ∙ c.if-not-has_index.false) j low (omega (arith, high))

pub returns : goal.returns
returns c so j low high = c.loop-index.invariant j low (omega (arith, high))
