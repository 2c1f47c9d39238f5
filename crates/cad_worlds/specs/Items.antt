-- What the registers of a World say, one by one, and what is made of it.
use Rattle.std.specs.Prelude.{ℕ, suc, ◌<◌, ◌^◌, ◌==◌, false, List, [], ◌∷◌, ◌++◌, length, map, flat_map, if◌then◌else◌}
use Rattle.std.specs.Str.{IsUtf8}
use Rattle.cad_codec.specs.Forms.{HasBytes, TypeHasBytes}
use Rattle.cad_codec.specs.Ranges.{TextInRange}
use Rattle.cad_codec.specs.ValueBytes.{value_bytes}
use Rattle.cad_loads.specs.Loads.{Source, loaded_of, source_of}
use Rattle.cad_syntax.specs.declared.text.Name.{Name}
use Rattle.cad_syntax.specs.declared.type_id.TypeId.{TypeId}
use Rattle.cad_values.specs.Values.{PureValue, capability}
use Rattle.cad_wire.specs.Fields.{number_field}
use Rattle.cad_world.specs.Begin.{new_account}
use Rattle.cad_world.specs.Labels.{change_account}
use Rattle.cad_world.specs.Orders.{contract_name}
use Rattle.cad_world.specs.Registers.{Register, register, head_key, next_key, code_key, fields_key, stored_key, published_register, controller_register, row_values}
use Rattle.cad_world.specs.Rows.{Row, alone, add_last}
use Rattle.cad_world.specs.State.{Publication, Controller, Account, Contract, Program, World}
use Rattle.cad_world.specs.Trees.{tree_of}
use Rattle.cad_worlds.specs.Standing.{coding, AreOneText}

-- what one register says
pub data Item : Type 0 where
  -- how many accounts there are, and the next identity
  head : ℕ → ℕ → Item
  -- the address, and the number of the next controller
  next : ℕ → ℕ → Item
  -- a contract, and its code
  code : TypeId → List ℕ → Item
  -- a contract, and its value
  fields : TypeId → PureValue → Item
  -- the address, and what is stored under an identifier
  stored : ℕ → Name → PureValue → Item
  published : ℕ → Publication → Item
  controlled : ℕ → Controller → Item

-- the register that says it
abbrev pub told : Item → Register
told (head count identity) = register head_key (number_field count ++ number_field identity)
told (next n number) = register (next_key n) (number_field number)
told (code id bytes) = register (code_key id.address.0 (contract_name id)) bytes
told (fields id v) = register (fields_key id.address.0 (contract_name id)) (value_bytes v)
told (stored n i v) = register (stored_key n i) (value_bytes v)
told (published n p) = published_register coding n p
told (controlled n c) = controller_register coding n c

-- nothing else has this register
abbrev pub IsTold : Item → Type 0
IsTold (head count identity) = (count < 2 ^ 64) × (identity < 2 ^ 64)
IsTold (next n number) = (n < 2 ^ 64) × (number < 2 ^ 64)
IsTold (code id bytes) = (id.address.0 < 2 ^ 64) × AreOneText id.names
IsTold (fields id v) = (id.address.0 < 2 ^ 64) × AreOneText id.names × HasBytes v
IsTold (stored n i v) = (n < 2 ^ 64) × IsUtf8 i.0 × HasBytes v
IsTold (published n p) = (n < 2 ^ 64) × IsUtf8 p.identifier.0 × HasBytes (capability (record { 0 = n }) p.number p.lent)
IsTold (controlled n c) = (n < 2 ^ 64) × (c.number < 2 ^ 64) × TextInRange c.target.0 × TextInRange c.tag × TypeHasBytes c.borrow

-- ---- what they make, one behind another

-- a World without the programs of its contracts
pub record Draft : Type 0 where
  pub accounts : List Account
  pub sources : List Source
  -- the values of contracts, each a row of one place
  pub values : List Row
  pub next_identity : ℕ

abbrev pub empty_draft : Draft
empty_draft = record { accounts = []; sources = []; values = []; next_identity = 1 }

abbrev pub with_value : Name → PureValue → Account → Account
with_value i v a = record a { identifiers = a.identifiers ++ i ∷ []; stored = add_last (tree_of v) a.stored }

abbrev pub with_publication : Publication → Account → Account
with_publication p a = record a { published = a.published ++ p ∷ [] }

abbrev pub with_controller : Controller → Account → Account
with_controller c a = record a { controllers = a.controllers ++ c ∷ [] }

-- nothing but the number of its next controller
abbrev pub begun_account : ℕ → Account
begun_account number = record new_account { next_controller = number }

abbrev pub on_account_at : ℕ → (Account → Account) → Draft → Draft
on_account_at n g d = record d { accounts = change_account n g d.accounts }

-- values come in the order of codes
abbrev pub put : Item → Draft → Draft
put (head count identity) d = record d { next_identity = identity }
put (next n number) d = record d { accounts = d.accounts ++ begun_account number ∷ [] }
put (code id bytes) d = record d { sources = d.sources ++ record { id = id; code = bytes } ∷ [] }
put (fields id v) d = record d { values = d.values ++ alone (tree_of v) ∷ [] }
put (stored n i v) d = on_account_at n (with_value i v) d
put (published n p) d = on_account_at n (with_publication p) d
put (controlled n c) d = on_account_at n (with_controller c) d

abbrev pub put_all : List Item → Draft → Draft
put_all [] d = d
put_all (x ∷ xs) d = put_all xs (put x d)

-- ---- Worlds and their drafts

abbrev pub draft_of : World → Draft
draft_of w = record {
  accounts = w.accounts;
  sources = map (λ c. source_of (loaded_of c)) w.contracts;
  values = map (λ c. c.value) w.contracts;
  next_identity = w.next_identity;
}

abbrev pub programs_of : World → List Program
programs_of w = map (λ c. c.program) w.contracts

-- the contracts of these codes, programs and values
abbrev pub contracts_from : List Source → List Program → List Row → List Contract
contracts_from (s ∷ ss) (p ∷ ps) (v ∷ vs) = record { id = s.id; code = s.code; program = p; value = v; is_running = false } ∷ contracts_from ss ps vs
contracts_from _ _ _ = []

-- the World of a draft, where its codes are these programs
abbrev pub world_from : Draft → List Program → World
world_from d ps = record { accounts = d.accounts; contracts = contracts_from d.sources ps d.values; next_identity = d.next_identity }

-- ---- what the registers of a World say

-- of each account, with addresses from n on
abbrev pub each : (ℕ → Account → List Item) → ℕ → List Account → List Item
each f n [] = []
each f n (a ∷ all) = f n a ++ each f (suc n) all

abbrev pub head_items : World → List Item
head_items w = if length w.accounts == 0 then [] else head (length w.accounts) w.next_identity ∷ []

abbrev pub next_items : ℕ → Account → List Item
next_items n a = next n a.next_controller ∷ []

abbrev pub stored_from : ℕ → List Name → List PureValue → List Item
stored_from n (i ∷ is) (v ∷ vs) = stored n i v ∷ stored_from n is vs
stored_from n _ _ = []

abbrev pub stored_items : ℕ → Account → List Item
stored_items n a = stored_from n a.identifiers (row_values a.stored)

abbrev pub published_items : ℕ → Account → List Item
published_items n a = map (published n) a.published

abbrev pub controlled_items : ℕ → Account → List Item
controlled_items n a = map (controlled n) a.controllers

abbrev pub code_item : Contract → Item
code_item c = code c.id c.code

abbrev pub fields_items : Contract → List Item
fields_items c = map (fields c.id) (row_values c.value)

abbrev pub items_of : World → List Item
items_of w =
    head_items w ++ (each next_items 1 w.accounts
    ++ (map code_item w.contracts ++ (flat_map fields_items w.contracts
    ++ (each stored_items 1 w.accounts ++ (each published_items 1 w.accounts
    ++ each controlled_items 1 w.accounts)))))
