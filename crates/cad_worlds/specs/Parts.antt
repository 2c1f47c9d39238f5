-- A World of which some accounts are known, over those that it was read of.
use Rattle.std.specs.Prelude.{List, map}
use Rattle.cad_state.specs.Parts.{with_known}
use Rattle.cad_state.specs.Views.{contract_of}
use Rattle.cad_world.specs.State as s
use Rattle.cad_worlds.specs.declared.part.WorldPart.{WorldPart}

-- the accounts that aren't known are as they are among these
abbrev pub world_over : List s.Account → WorldPart → s.World
world_over base x = record { accounts = with_known base x.count x.known.items; contracts = map contract_of x.contracts.items; next_identity = x.next_identity }
