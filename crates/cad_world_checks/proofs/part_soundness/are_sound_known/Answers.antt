use Rattle.std.proofs.Common.{arith}
use Rattle.cad_fits.proofs.Each.{not_so, is_so}
use Rattle.cad_shapes.specs.Held.{shapes_of}
use Rattle.cad_world.specs.Sound.{SoundAccount}
use Rattle.cad_world_checks.proofs.AllOf.{one_fails, one_more, all_hold}
use Rattle.cad_world_checks.specs.Code.Summaries.{account_in}
use Rattle.cad_world_checks.proofs.part_soundness.are_sound_known.Goals as goal

pub returns-then-not-branch : goal.returns-then-not-branch
returns-then-not-branch c =
    one_fails (SoundAccount (shapes_of c.args.shapes.now)) account_in c.args.known.now c.loop-one.one-index c.one-item.result (omega arith) c.one-item.is (not_so c.in_ok-is_sound_account.field-0 c.in_ok-is_sound_account.ensures c.if-not-branch.true) c.loop-one.invariant

pub loop-one-preserved : goal.loop-one-preserved
loop-one-preserved c = one_more (SoundAccount (shapes_of c.args.shapes.now)) account_in c.args.known.now c.loop-one.one-index c.one-item.result (omega arith) c.one-item.is (is_so c.in_ok-is_sound_account.field-0 c.in_ok-is_sound_account.ensures c.if-not-branch.false) c.loop-one.invariant

pub returns : goal.returns
returns c = all_hold (SoundAccount (shapes_of c.args.shapes.now)) account_in c.args.known.now c.loop-one.one-index (omega arith) c.loop-one.invariant
