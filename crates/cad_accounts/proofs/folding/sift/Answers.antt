use Rattle.cad_accounts.proofs.OneByOne.{one_more}
use Rattle.cad_accounts.proofs.folding.sift.Goals as goal

pub loop-record-preserved : goal.loop-record-preserved
loop-record-preserved c m = one_more c.loop-record.sifted c.take_all.new.sifted c.in-Some.record c.loop-record.yielded m (c.loop-record.invariant m) (c.in_ok-take_all.ensures m)
