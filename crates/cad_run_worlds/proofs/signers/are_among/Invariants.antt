use Rattle.std.proofs.Common.{◌≡◌, drop, length}
use Rattle.std.specs.List.{list_all}
use Rattle.cad_runs.specs.Commands.{is_account}
use Rattle.cad_world.specs.State.{World}
use Rattle.cad_run_worlds.proofs.signers.are_among.Given as goal

abbrev pub invariant-loop-address : goal.invariant-loop-address
invariant-loop-address l = (w : World) → l.count ≡ length w.accounts → list_all (is_account w) (drop l.address-index l.all) ≡ list_all (is_account w) l.all
