use Rattle.std.proofs.Common.{arith}
use Rattle.cad_fits.proofs.Each.{not_so, is_so}
use Rattle.cad_state.specs.Views.{publication_of}
use Rattle.cad_world_checks.specs.Checks.{LentHasBytes}
use Rattle.cad_world_checks.proofs.AllOf.{one_fails, one_more, all_hold}
use Rattle.cad_world_checks.proofs.bytes.publications_have_bytes.Goals as goal

pub returns-then-not-branch : goal.returns-then-not-branch
returns-then-not-branch c =
    one_fails LentHasBytes publication_of c.args.published.now c.loop-publication.publication-index c.publication-item.result (omega arith) c.publication-item.is (not_so c.in_ok-publication_has_bytes.field-0 c.in_ok-publication_has_bytes.ensures c.if-not-branch.true) c.loop-publication.invariant

pub loop-publication-preserved : goal.loop-publication-preserved
loop-publication-preserved c = one_more LentHasBytes publication_of c.args.published.now c.loop-publication.publication-index c.publication-item.result (omega arith) c.publication-item.is (is_so c.in_ok-publication_has_bytes.field-0 c.in_ok-publication_has_bytes.ensures c.if-not-branch.false) c.loop-publication.invariant

pub returns : goal.returns
returns c = all_hold LentHasBytes publication_of c.args.published.now c.loop-publication.publication-index (omega arith) c.loop-publication.invariant
