-- Worlds between commands, and the registers that stand for them.
use Rattle.std.specs.Prelude.{◌≡◌, ◌<◌, ◌^◌, ℕ, List, [], ◌∷◌, length, map}
use Rattle.std.specs.List.{AllByRecursion}
use Rattle.std.specs.Str.{IsUtf8}
use Rattle.cad_accounts.specs.Registers.{Map}
use Rattle.cad_accounts.specs.declared.row.Row.{Row}
use Rattle.cad_codec.specs.Forms.{HasBytes, TypeHasBytes}
use Rattle.cad_codec.specs.TypeBytes.{type_bytes}
use Rattle.cad_codec.specs.ValueBytes.{value_bytes}
use Rattle.cad_loads.specs.Loads.{Loads, loaded_of}
use Rattle.cad_state.specs.Views.{account_of, contract_of}
use Rattle.cad_syntax.specs.declared.text.Name.{Name}
use Rattle.cad_world.specs.Registers.{Coding, Register, map_of, row_values}
use Rattle.cad_world.specs.Sound.{Accepts, Sound}
use Rattle.cad_world.specs.State as s
use Rattle.cad_worlds.specs.declared.kept.World.{World}

-- how values and types are written
abbrev pub coding : Coding
coding = record { value = value_bytes; type = type_bytes }

abbrev pub world_of : World → s.World
world_of x = record { accounts = map account_of x.accounts.items; contracts = map contract_of x.contracts.items; next_identity = x.next_identity }

-- any program is accepted as any code
abbrev pub any_accepted : Accepts
any_accepted contracts place code p = Unit {0}

-- it is sound, whatever programs the codes of its contracts are
abbrev pub IsSoundButCode : s.World → Type 0
IsSoundButCode w = Sound any_accepted w

-- it is sound, and its contracts were deployed one after another
abbrev pub IsSound : s.World → Type 0
IsSound w = IsSoundButCode w × Loads (map loaded_of w.contracts)

-- a register of the program as one of the definition
abbrev pub register_of : Row → Register
register_of row = record { key = row.key.0; bytes = row.value }

-- No other values and types have the bytes of those in it. Of what programs leave this holds but for a path's text that isn't
-- UTF-8, a number that 64 bits can't tell, 2^32 bytes or more in one text, and a type that nests deeper than is read.
pub record AccountHasBytes (a : s.Account) : Type 0 where
  pub stored : AllByRecursion HasBytes (row_values a.stored)
  pub lent : AllByRecursion (λ p. TypeHasBytes p.lent) a.published
  pub borrowed : AllByRecursion (λ c. TypeHasBytes c.borrow × (length c.target.0 < 2 ^ 32)) a.controllers

-- one name, which is a text
abbrev pub AreOneText : List Name → Type 0
AreOneText (n ∷ []) = IsUtf8 n.0
AreOneText _ = ⊥

pub record ContractHasBytes (c : s.Contract) : Type 0 where
  pub name : AreOneText c.id.names
  pub value : AllByRecursion HasBytes (row_values c.value)

pub record WorldHasBytes (w : s.World) : Type 0 where
  pub accounts : AllByRecursion AccountHasBytes w.accounts
  pub contracts : AllByRecursion ContractHasBytes w.contracts

-- these are the registers of a sound World, whose values no others have the bytes of
pub record StandsFor (m : Map) (w : s.World) : Type 0 where
  pub are : (key : List ℕ) → m key ≡ map_of coding w key
  pub sound : IsSound w
  pub has_bytes : WorldHasBytes w

-- what is read back of a World's registers
abbrev pub Becomes : s.World → s.World → Type 0
Becomes v u = StandsFor (map_of coding v) u
