use Rattle.std.proofs.Common.{◌↔◌, map, drop}
use Rattle.std.specs.List.{AllByRecursion}
use Rattle.cad_shapes.specs.Held.{shapes_of}
use Rattle.cad_state.specs.Views.{account_of}
use Rattle.cad_world.specs.Sound.{SoundAccount}
use Rattle.cad_world_checks.proofs.sound.are_sound_accounts.Given as goal

abbrev pub invariant-loop-account : goal.invariant-loop-account
invariant-loop-account l = AllByRecursion (SoundAccount (shapes_of l.shapes)) (map account_of (drop l.account-index l.accounts)) ↔ AllByRecursion (SoundAccount (shapes_of l.shapes)) (map account_of l.accounts)
