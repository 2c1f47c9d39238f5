use Rattle.std.proofs.Common.{sym, ◌∙◌, add-one, arith}
use Rattle.cad_worlds.proofs.KnownPlaces.{index_past, index_here, index_end}
use Rattle.cad_worlds.proofs.keys.has_index.Goals as goal

pub loop-one-preserved : goal.loop-one-preserved
loop-one-preserved c =
    rw add-one (index_past c.args.known.now c.loop-one.one-index c.one-item.result c.args.index (omega arith) c.one-item.is (λ e. absurd (omega (arith, e))) ∙ c.loop-one.invariant)

pub returns-then-one-index : goal.returns-then-one-index
returns-then-one-index c =
    sym (sym c.loop-one.invariant ∙ index_here c.args.known.now c.loop-one.one-index c.one-item.result c.args.index (omega arith) c.one-item.is (omega arith))

pub returns : goal.returns
returns c =
    sym (sym c.loop-one.invariant ∙ index_end c.args.known.now c.loop-one.one-index c.args.index (omega arith))
