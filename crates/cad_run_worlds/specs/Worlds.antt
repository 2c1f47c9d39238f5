-- The World over which a program runs.
use Rattle.std.specs.Prelude.{List, map}
use Rattle.cad_state.specs.Views.{accounts_over, contract_of}
use Rattle.cad_world.specs.State.{Account, World}
use Rattle.cad_run_worlds.specs.declared.run_worlds.RunWorld.{RunWorld}

-- the accounts that aren't known are as they are among these
abbrev pub run_world : List Account → RunWorld → World
run_world base x = record { accounts = accounts_over base x.accounts; contracts = map contract_of x.contracts.items; next_identity = x.next_identity }
