use Rattle.std.proofs.Common.{arith, subst, take_all}
use Rattle.std.specs.List.{All}
use Rattle.std.proofs.lemmas.List.Elements.{All-more}
use Rattle.cad_fits.specs.Table.{HasToldKey}
use Rattle.cad_fits.proofs.table.are_told.Goals as goal

pub loop-entry-preserved : goal.loop-entry-preserved
loop-entry-preserved c =
    let told : HasToldKey c.entry-item.result = c.in_ok-has_told_key.ensures c.if-not-branch.false in
    All-more HasToldKey c.args.entries.now c.loop-entry.entry-index c.entry-item.result (omega arith) c.loop-entry.invariant (subst HasToldKey c.entry-item.is told)

pub returns : goal.returns
returns c right = subst (All HasToldKey) (take_all c.loop-entry.entry-index c.args.entries.now (omega arith)) c.loop-entry.invariant
