use Rattle.std.proofs.Common.{arith}
use Rattle.std.proofs.lemmas.List.{length-map}
use Rattle.cad_state.specs.Views.{account_of}
use Rattle.cad_worlds.specs.Standing.{world_of}
use Rattle.cad_run_worlds.proofs.signers.has_account.Goals as goal

pub returns : goal.returns
returns c =
    c.is_one_of.ensures (world_of c.args.world.now) (omega (arith, length-map c.args.world.now.accounts.items account_of, c.args.world.now.accounts.ok.0, c.len.ensures))
