use Rattle.std.proofs.Common.{arith}
use Rattle.cad_fits.proofs.Each.{not_so, is_so}
use Rattle.cad_world_checks.proofs.AllOf.{place_fails, place_more, places_hold}
use Rattle.cad_world_checks.proofs.bytes.row_has_bytes.Goals as goal

pub returns-then-not-branch : goal.returns-then-not-branch
returns-then-not-branch c =
    place_fails c.args.row.now c.loop-place.place-index c.place-item.result (omega arith) c.place-item.is (not_so c.in_ok-place_has_bytes.field-0 c.in_ok-place_has_bytes.ensures c.if-not-branch.true) c.loop-place.invariant

pub loop-place-preserved : goal.loop-place-preserved
loop-place-preserved c =
    place_more c.args.row.now c.loop-place.place-index c.place-item.result (omega arith) c.place-item.is (is_so c.in_ok-place_has_bytes.field-0 c.in_ok-place_has_bytes.ensures c.if-not-branch.false) c.loop-place.invariant

pub returns : goal.returns
returns c = places_hold c.args.row.now c.loop-place.place-index (omega arith) c.loop-place.invariant
