-- What the state of a run is: the state of the definition, over accounts that the run leaves as they are where it doesn't know them.
use Rattle.std.specs.Prelude.{◌≡◌, ℕ, List, None, Result, map, reverse}
use Rattle.cad_outcomes.specs.Outcomes.{Does}
use Rattle.cad_outcomes.specs.declared.stop.Stop.{Stop}
use Rattle.cad_declarations.specs.Views.{tables_of, bodies_of}
use Rattle.cad_declarations.specs.declared.program.Checked.{Checked}
use Rattle.cad_values.specs.Values.{pure_value}
use Rattle.cad_world.specs.Labels.{found_in_accounts}
use Rattle.cad_world.specs.Marks.{AreGivenOnce}
use Rattle.cad_world.specs.State as s
use Rattle.cad_rows.specs.Views.{pure_row}
pub use Rattle.cad_state.specs.Accounts.{publication_of, controller_of, account_of}
use Rattle.cad_state.specs.Parts.{with_known}
use Rattle.cad_state.specs.declared.state.Accounts.{Accounts}
use Rattle.cad_state.specs.declared.state.Accounts.TheVariants as v
use Rattle.cad_state.specs.declared.state.Call.{Call}
use Rattle.cad_state.specs.declared.state.Contract.{Contract}
use Rattle.cad_state.specs.declared.state.RunState.{RunState}

abbrev pub program_of : Checked → s.Program
program_of x = record { tables = tables_of x.tables; bodies = bodies_of x.bodies }

abbrev pub frame_of : Call → s.Frame
frame_of x = record {
  within = x.within;
  self = x.own;
  initializes = x.initializes;
  variables = pure_row x.variables.items;
  before = pure_row x.before.items;
  result = pure_row x.result.items;
}

-- all that the run has; or so many, of which those that it doesn't know are as they are among these
unfoldable pub accounts_over : List s.Account → Accounts → List s.Account
accounts_over base (v.All all) = map account_of all.items
accounts_over base (v.Part count known) = with_known base count known.items

abbrev pub contract_of : Contract → s.Contract
contract_of x = record {
  id = x.id;
  code = x.code.value;
  program = program_of x.checked.value;
  value = pure_row x.value.items;
  is_running = x.is_running;
}

-- the state over these accounts, which count where the run doesn't know its own
abbrev pub state_over : List s.Account → RunState → s.State
state_over accounts x = record {
  frames = reverse (map frame_of x.calls.items);
  making = pure_row x.making.items;
  accounts = accounts_over accounts x.accounts;
  contracts = map contract_of x.contracts.items;
  program = program_of x.checked.value;
  events = map pure_value x.events.items;
  made = x.made;
  destroyed = x.destroyed;
  added = x.added;
  next_label = x.next_label;
  next_identity = x.next_identity;
  units = x.units;
  depth = x.depth;
}

-- nothing in these accounts has a label
abbrev pub AreUnnamed : List s.Account → Type 0
AreUnnamed accounts = (p : ℕ) → found_in_accounts p accounts ≡ None

-- each label stands on one node, and on none in the accounts
pub record IsReady (accounts : List s.Account) (x : RunState) : Type 0 where
  pub unnamed : AreUnnamed accounts
  pub once : AreGivenOnce (state_over accounts x)

-- a call that carries out an action, whatever the accounts are
abbrev pub CarriesOut : {A B : Type 0} → (B → A) → s.Action A → RunState → RunState → Result B Stop → Type 0
CarriesOut view action before after result = (accounts : List s.Account) → Does view action (state_over accounts before) (state_over accounts after) result

-- the same where nodes are found by their labels
abbrev pub FindsAndCarriesOut : {A B : Type 0} → (B → A) → s.Action A → RunState → RunState → Result B Stop → Type 0
FindsAndCarriesOut view action before after result =
    (accounts : List s.Account) → IsReady accounts before → Does view action (state_over accounts before) (state_over accounts after) result
