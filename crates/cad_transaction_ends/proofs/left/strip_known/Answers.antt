use Rattle.std.proofs.Common.{◌+◌, arith}
use Rattle.cad_transaction_ends.proofs.Kept.{none_kept, one_kept, all_kept}
use Rattle.cad_transaction_ends.proofs.KnownAccounts.{placed, kept_placed, with_kept}
use Rattle.cad_transaction_ends.proofs.left.strip_known.Goals as goal

pub loop-i-init : goal.loop-i-init
loop-i-init c = none_kept placed kept_placed c.args.known.now.items

pub loop-i-preserved : goal.loop-i-preserved
loop-i-preserved c =
    one_kept placed kept_placed c.loop-i.i (c.loop-i.i + 1) c.loop-i.known.items c.args.known.now.items c.strip_one.new.one c.index_mut.result.now (omega arith)
    (omega (arith, c.loop-i-test.true, c.len-i-end.ensures, c.args.known.now.ok.0, c.loop-i.invariant.same)) c.loop-i.invariant c.index_mut.ensures.value
    (λ m. (c.strip_one.ensures.index m, c.strip_one.ensures.account m))

pub returns : goal.returns
returns c = λ base count kept.
    with_kept base count c.loop-i.known.items c.args.known.now.items
    (all_kept placed kept_placed c.loop-i.i c.loop-i.known.items c.args.known.now.items (omega (arith, c.loop-i-test.false, c.len-i-end.ensures, c.args.known.now.ok.0)) c.loop-i.invariant) kept
