use Rattle.std.proofs.Common.{arith}
use Rattle.cad_fits.proofs.Each.{not_so, is_so}
use Rattle.cad_rows.specs.Views.{pure_row}
use Rattle.cad_shapes.specs.Held.{shapes_of}
use Rattle.cad_world.specs.Sound.{AreStored}
use Rattle.cad_world_checks.proofs.Kept.{stored_turn, stored_break, stored_end, as_many}
use Rattle.cad_world_checks.proofs.Soundness.{never}
use Rattle.cad_world_checks.proofs.sound.are_stored.Goals as goal

pub returns-then-not-are_as_many : goal.returns-then-not-are_as_many
returns-then-not-are_as_many c =
    never {P = AreStored (shapes_of c.args.shapes.now) c.args.names.now (pure_row c.args.places.now)} (λ s. not_so c.are_as_many.result c.are_as_many.ensures c.if-not-are_as_many.true (as_many (shapes_of c.args.shapes.now) c.args.names.now c.args.places.now s))

pub returns-then-not-branch : goal.returns-then-not-branch
returns-then-not-branch c =
    stored_break (shapes_of c.args.shapes.now) c.args.names.now c.args.places.now c.loop-i.i c.index-names-i.result c.index-places-i.result (is_so c.are_as_many.result c.are_as_many.ensures c.if-not-are_as_many.false) c.loop-i-test.true c.index-names-i.is c.index-places-i.is
    (not_so c.in_ok-is_kept_place.field-0 c.in_ok-is_kept_place.ensures c.if-not-branch.true) c.loop-i.invariant

pub loop-i-preserved : goal.loop-i-preserved
loop-i-preserved c =
    stored_turn (shapes_of c.args.shapes.now) c.args.names.now c.args.places.now c.loop-i.i c.index-names-i.result c.index-places-i.result (is_so c.are_as_many.result c.are_as_many.ensures c.if-not-are_as_many.false) c.loop-i-test.true c.index-names-i.is c.index-places-i.is
    (is_so c.in_ok-is_kept_place.field-0 c.in_ok-is_kept_place.ensures c.if-not-branch.false) c.loop-i.invariant

pub returns : goal.returns
returns c = stored_end (shapes_of c.args.shapes.now) c.args.names.now c.args.places.now c.loop-i.i (is_so c.are_as_many.result c.are_as_many.ensures c.if-not-are_as_many.false) (omega arith) c.loop-i.invariant
