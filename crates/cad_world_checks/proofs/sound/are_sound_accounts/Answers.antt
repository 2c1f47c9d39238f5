use Rattle.std.proofs.Common.{arith, true, false, map}
use Rattle.cad_fits.proofs.Each.{not_so, is_so}
use Rattle.cad_shapes.specs.Held.{shapes_of}
use Rattle.cad_state.specs.Views.{account_of}
use Rattle.cad_world.specs.Sound.{SoundAccount}
use Rattle.cad_world_checks.proofs.AllOf.{one_fails, one_more, all_hold}
use Rattle.cad_world_checks.proofs.Soundness.{all_of}
use Rattle.cad_world_checks.proofs.sound.are_sound_accounts.Goals as goal

pub returns-then-not-branch : goal.returns-then-not-branch
returns-then-not-branch c =
    all_of (SoundAccount (shapes_of c.args.shapes.now)) false (map account_of c.args.accounts.now)
    (one_fails (SoundAccount (shapes_of c.args.shapes.now)) account_of c.args.accounts.now c.loop-account.account-index c.account-item.result (omega arith) c.account-item.is (not_so c.in_ok-is_sound_account.field-0 c.in_ok-is_sound_account.ensures c.if-not-branch.true) c.loop-account.invariant)

pub loop-account-preserved : goal.loop-account-preserved
loop-account-preserved c = one_more (SoundAccount (shapes_of c.args.shapes.now)) account_of c.args.accounts.now c.loop-account.account-index c.account-item.result (omega arith) c.account-item.is (is_so c.in_ok-is_sound_account.field-0 c.in_ok-is_sound_account.ensures c.if-not-branch.false) c.loop-account.invariant

pub returns : goal.returns
returns c = all_of (SoundAccount (shapes_of c.args.shapes.now)) true (map account_of c.args.accounts.now)
    (all_hold (SoundAccount (shapes_of c.args.shapes.now)) account_of c.args.accounts.now c.loop-account.account-index (omega arith) c.loop-account.invariant)
