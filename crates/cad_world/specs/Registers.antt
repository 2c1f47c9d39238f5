-- The registers of a World: each a key and its bytes. How values and types are written as bytes is a parameter.
use Rattle.std.specs.Prelude.{◌≡◌, ℕ, suc, ◌+◌, List, [], ◌∷◌, ◌++◌, length, map, Option, Some, None, if◌then◌else◌, ◌==◌}
use Rattle.std.specs.Cmp.Lexicographic.{pointwise}
use Rattle.std.specs.List.{flat_map}
use Rattle.cad_syntax.specs.Types.{PureType}
use Rattle.cad_syntax.specs.declared.text.Name.{Name}
use Rattle.cad_values.specs.Values.{PureValue, capability}
use Rattle.cad_wire.specs.Body.{body_bytes}
use Rattle.cad_wire.specs.Fields.{number_field, bytes_field}
use Rattle.cad_wire.specs.declared.entry.Entry.{Entry}
use Rattle.cad_world.specs.Rows.{Row, stop, gap, node}
use Rattle.cad_world.specs.State.{Publication, Controller, Account, Contract, World}
use Rattle.cad_world.specs.Trees.{value_of}
use Rattle.cad_world.specs.Orders.{contract_name}

-- values and types as bytes
pub record Coding : Type 0 where
  pub value : PureValue → List ℕ
  pub type : PureType → List ℕ

pub record Register : Type 0 where
  pub key : List ℕ
  pub bytes : List ℕ

abbrev pub register : List ℕ → List ℕ → Register
register key bytes = record { key = key; bytes = bytes }

-- ---- keys: what the register is of, the address, and the name, the identifier or the number

abbrev pub head_key : List ℕ
head_key = 0 ∷ []

abbrev pub next_key : ℕ → List ℕ
next_key address = 1 ∷ number_field address

abbrev pub code_key : ℕ → List ℕ → List ℕ
code_key address name = 2 ∷ (number_field address ++ name)

abbrev pub fields_key : ℕ → List ℕ → List ℕ
fields_key address name = 3 ∷ (number_field address ++ name)

abbrev pub stored_key : ℕ → Name → List ℕ
stored_key address identifier = 4 ∷ (number_field address ++ identifier.0)

abbrev pub published_key : ℕ → Name → List ℕ
published_key address identifier = 5 ∷ (number_field address ++ identifier.0)

abbrev pub controller_key : ℕ → ℕ → List ℕ
controller_key address number = 6 ∷ (number_field address ++ number_field number)

-- ---- the registers of each kind, in the order of their keys

-- how many accounts there are, and the next identity, where there is an account
abbrev pub head_registers : World → List Register
head_registers w = if length w.accounts == 0 then [] else register head_key (number_field (length w.accounts) ++ number_field w.next_identity) ∷ []

-- of each account, with addresses from n on
abbrev pub of_accounts : (ℕ → Account → List Register) → ℕ → List Account → List Register
of_accounts f n [] = []
of_accounts f n (a ∷ all) = f n a ++ of_accounts f (suc n) all

-- the number of its next controller
abbrev pub next_register : ℕ → Account → List Register
next_register n a = register (next_key n) (number_field a.next_controller) ∷ []

abbrev pub code_register : Contract → Register
code_register c = register (code_key c.id.address.0 (contract_name c.id)) c.code

-- the values in the places of a row
abbrev pub row_values : Row → List PureValue
row_values stop = []
row_values (gap r) = row_values r
row_values (node l n s k r) = value_of (record { optionals = n; shape = s; parts = k }) ∷ row_values r

abbrev pub fields_registers : Coding → Contract → List Register
fields_registers coding c = map (λ v. register (fields_key c.id.address.0 (contract_name c.id)) (coding.value v)) (row_values c.value)

-- the values under these identifiers
abbrev pub stored_from : Coding → ℕ → List Name → List PureValue → List Register
stored_from coding n (i ∷ is) (v ∷ vs) = register (stored_key n i) (coding.value v) ∷ stored_from coding n is vs
stored_from coding n _ _ = []

abbrev pub stored_registers : Coding → ℕ → Account → List Register
stored_registers coding n a = stored_from coding n a.identifiers (row_values a.stored)

abbrev pub published_register : Coding → ℕ → Publication → Register
published_register coding n p = register (published_key n p.identifier) (coding.value (capability (record { 0 = n }) p.number p.lent))

abbrev pub published_registers : Coding → ℕ → Account → List Register
published_registers coding n a = map (published_register coding n) a.published

-- the identifier in storage, the tag, and the type that may be borrowed
abbrev pub controller_register : Coding → ℕ → Controller → Register
controller_register coding n c = register (controller_key n c.number) (bytes_field c.target.0 ++ (bytes_field c.tag ++ coding.type c.borrow))

abbrev pub controller_registers : Coding → ℕ → Account → List Register
controller_registers coding n a = map (controller_register coding n) a.controllers

-- all registers of a World, in byte order of their keys
abbrev pub registers : Coding → World → List Register
registers coding w =
    head_registers w ++ (of_accounts next_register 1 w.accounts
    ++ (map code_register w.contracts ++ (flat_map (fields_registers coding) w.contracts
    ++ (of_accounts (stored_registers coding) 1 w.accounts ++ (of_accounts (published_registers coding) 1 w.accounts
    ++ of_accounts (controller_registers coding) 1 w.accounts)))))

-- ---- as a finite map, and their size

-- the bytes under a key
abbrev pub bytes_under : List Register → List ℕ → Option (List ℕ)
bytes_under [] key = None
bytes_under (r ∷ rs) key = if pointwise ◌==◌ key r.key then Some r.bytes else bytes_under rs key

abbrev pub map_of : Coding → World → List ℕ → Option (List ℕ)
map_of coding w = bytes_under (registers coding w)

abbrev pub entry : Register → Entry
entry r = record { key = record { 0 = r.key }; value = Some r.bytes }

-- how many bytes one record of all registers has, with the gate behind it: a gate, 8 bytes of length, the body and a gate
abbrev pub size : Coding → World → ℕ
size coding w = 10 + length (body_bytes (map entry (registers coding w)))
