-- What a run leaves, as the World that it is.
use Rattle.std.specs.Prelude.{List, map}
use Rattle.cad_state.specs.Views.{accounts_over, contract_of}
use Rattle.cad_transaction_ends.specs.declared.left.Left.{Left}
use Rattle.cad_world.specs.Begin.{kept_account, kept_contract}
use Rattle.cad_world.specs.Orders.{contract_before, sorted_in}
use Rattle.cad_world.specs.State.{Account, State, World}

-- the accounts that the run doesn't know are as they are among these
abbrev pub left_over : List Account → Left → World
left_over base x = record {
  accounts = accounts_over base x.accounts;
  contracts = map contract_of x.contracts.items;
  next_identity = x.next_identity;
}

-- what stands in a state, as it stands there
abbrev pub world_in : State → World
world_in s = record { accounts = s.accounts; contracts = s.contracts; next_identity = s.next_identity }

-- as it is kept: the World that a state leaves is this of what stands in it
abbrev pub kept_world : World → World
kept_world w = record {
  accounts = map kept_account w.accounts;
  contracts = sorted_in contract_before (map kept_contract w.contracts);
  next_identity = w.next_identity;
}
