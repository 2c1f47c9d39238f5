-- The nodes of a state: found by a label, changed by a label, and named.
use Rattle.std.specs.Prelude.{ℕ, zero, suc, Bool, false, List, [], ◌∷◌, Option, Some, None, map, option_map, if◌then◌else◌}
use Rattle.cad_syntax.specs.TypeIds.{same_id}
use Rattle.cad_syntax.specs.declared.text.Name.{Name}
use Rattle.cad_syntax.specs.declared.type_id.TypeId.{TypeId}
use Rattle.cad_declarations.specs.Names.{same_name}
use Rattle.cad_world.specs.Rows.{NodeShape, Row, stop, Slot, out, slot, Found, either, found, changed, is_one_of}
use Rattle.cad_world.specs.State.{Account, Contract, Frame, State}

-- ---- every row of a state

abbrev pub found_in_frames : ℕ → List Frame → Option Found
found_in_frames p [] = None
found_in_frames p (f ∷ fs) = either (found p f.variables) (either (found p f.before) (either (found p f.result) (found_in_frames p fs)))

abbrev pub found_in_accounts : ℕ → List Account → Option Found
found_in_accounts p [] = None
found_in_accounts p (a ∷ all) = either (found p a.stored) (found_in_accounts p all)

abbrev pub found_in_contracts : ℕ → List Contract → Option Found
found_in_contracts p [] = None
found_in_contracts p (c ∷ all) = either (found p c.value) (found_in_contracts p all)

-- At: the node with the label, wherever it stands
abbrev pub at : ℕ → State → Option Found
at p s = either (found_in_frames p s.frames) (either (found p s.making) (either (found_in_accounts p s.accounts) (found_in_contracts p s.contracts)))

-- what is done to every row
abbrev pub on_frame : (Row → Row) → Frame → Frame
on_frame g f = record f { variables = g f.variables; before = g f.before; result = g f.result }

abbrev pub on_account : (Row → Row) → Account → Account
on_account g a = record a { stored = g a.stored }

abbrev pub on_contract : (Row → Row) → Contract → Contract
on_contract g c = record c { value = g c.value }

abbrev pub on_rows : (Row → Row) → State → State
on_rows g s = record s {
  frames = map (on_frame g) s.frames;
  making = g s.making;
  accounts = map (on_account g) s.accounts;
  contracts = map (on_contract g) s.contracts;
}

-- the node with the label gets another shape and another row
abbrev pub with_node : ℕ → NodeShape → Row → State → State
with_node p shape parts s = on_rows (changed p shape parts) s

-- two labels are of one node
abbrev pub is_label_of : ℕ → Option Found → Bool
is_label_of p None = false
is_label_of p (Some f) = is_one_of p f.labels

abbrev pub same_node : State → ℕ → ℕ → Bool
same_node s p q = is_label_of q (at p s)

-- ---- accounts by their addresses, and the newest call

abbrev pub account_at : List Account → ℕ → Option Account
account_at all zero = None
account_at [] (suc n) = None
account_at (a ∷ all) (suc zero) = Some a
account_at (a ∷ all) (suc (suc n)) = account_at all (suc n)

abbrev pub change_account : ℕ → (Account → Account) → List Account → List Account
change_account zero g all = all
change_account (suc n) g [] = []
change_account (suc zero) g (a ∷ all) = g a ∷ all
change_account (suc (suc n)) g (a ∷ all) = a ∷ change_account (suc n) g all

abbrev pub with_account : ℕ → (Account → Account) → State → State
with_account address g s = record s { accounts = change_account address g s.accounts }

abbrev pub position_of : Name → List Name → Option ℕ
position_of name [] = None
position_of name (n ∷ ns) = if same_name n name then Some 0 else option_map suc (position_of name ns)

-- what an account stores under an identifier
abbrev pub stored_at : Option ℕ → Row → Slot
stored_at None r = out
stored_at (Some i) r = slot i r

abbrev pub stored_in : Name → Option Account → Slot
stored_in name None = out
stored_in name (Some a) = stored_at (position_of name a.identifiers) a.stored

abbrev pub stored_slot : State → ℕ → Name → Slot
stored_slot s address name = stored_in name (account_at s.accounts address)

abbrev pub at_position : (ℕ → Row → Row) → Option ℕ → Row → Row
at_position g None r = r
at_position g (Some i) r = g i r

abbrev pub on_stored : (ℕ → Row → Row) → Name → Account → Account
on_stored g name a = record a { stored = at_position g (position_of name a.identifiers) a.stored }

abbrev pub on_newest : (Frame → Frame) → List Frame → List Frame
on_newest g [] = []
on_newest g (f ∷ fs) = g f ∷ fs

abbrev pub with_frame : (Frame → Frame) → State → State
with_frame g s = record s { frames = on_newest g s.frames }

abbrev pub first_of : List Frame → Option Frame
first_of [] = None
first_of (f ∷ fs) = Some f

abbrev pub newest : State → Option Frame
newest s = first_of s.frames

abbrev pub with_variables : (Row → Row) → State → State
with_variables g s = with_frame (λ f. record f { variables = g f.variables }) s

abbrev pub variables_of : Option Frame → Row
variables_of None = stop
variables_of (Some f) = f.variables

-- the variables of the newest call
abbrev pub variables : State → Row
variables s = variables_of (newest s)

-- the value of the contract with this identifier is changed
abbrev pub change_value : TypeId → (Row → Row) → List Contract → List Contract
change_value id g [] = []
change_value id g (c ∷ all) = if same_id c.id id then record c { value = g c.value } ∷ all else c ∷ change_value id g all

abbrev pub value_in : List Contract → TypeId → Slot
value_in [] id = out
value_in (c ∷ all) id = if same_id c.id id then slot 0 c.value else value_in all id
