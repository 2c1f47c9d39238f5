-- The state in which a run begins, and the World that a state leaves.
use Rattle.std.specs.Prelude.{◌≡◌, ℕ, false, List, [], ◌∷◌, map, true}
use Rattle.cad_world.specs.Rows.{stop, bare}
use Rattle.cad_world.specs.State.{Account, Contract, Program, World, State}
use Rattle.cad_world.specs.Labels.{on_account}
use Rattle.cad_world.specs.Orders.{rises, sorted_in, contract_before}
use Rattle.std.specs.List.{list_all}

-- no account
abbrev pub empty_world : World
empty_world = record { accounts = []; contracts = []; next_identity = 1 }

-- an account in which nothing is
abbrev pub new_account : Account
new_account = record { identifiers = []; stored = stop; published = []; controllers = []; next_controller = 1 }

-- no node has a label: it gets one when something names it
abbrev pub begun : Program → ℕ → World → State
begun program units w = record {
  frames = [];
  making = stop;
  accounts = w.accounts;
  contracts = w.contracts;
  program = program;
  events = [];
  made = [];
  destroyed = [];
  added = [];
  next_label = 0;
  next_identity = w.next_identity;
  units = units;
  depth = 0;
}

-- an account and a contract as they are kept: without labels, and no initializer runs
abbrev pub kept_account : Account → Account
kept_account = on_account bare

abbrev pub kept_contract : Contract → Contract
kept_contract c = record c { value = bare c.value; is_running = false }

-- contracts that were added come to their place in the order
abbrev pub left_world : State → World
left_world s = record {
  accounts = map kept_account s.accounts;
  contracts = sorted_in contract_before (map kept_contract s.contracts);
  next_identity = s.next_identity;
}

-- ---- laws

-- a World as it stands between runs
pub record IsKept (w : World) : Type 0 where
  pub accounts : map kept_account w.accounts ≡ w.accounts
  pub contracts : map kept_contract w.contracts ≡ w.contracts
  pub rising : rises contract_before w.contracts ≡ true

-- a World read back from the state that it begins is itself
abbrev pub ReadsBack : Type 0
ReadsBack = (program : Program) (units : ℕ) (w : World) → IsKept w → left_world (begun program units w) ≡ w
