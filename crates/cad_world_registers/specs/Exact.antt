-- Registers that say nothing but what is read of them.
use Rattle.std.specs.Prelude.{◌≡◌, ◌<◌, ◌^◌, ◌+◌, ℕ, List, [], ◌∷◌, Some, length, map}
use Rattle.cad_accounts.specs.declared.row.Row.{Row}
use Rattle.cad_codec.specs.Forms.{HasBytes, TypeHasBytes}
use Rattle.cad_wire.specs.Fields.{AreBytes}
use Rattle.cad_world.specs.Registers.{Register}
use Rattle.cad_world.specs.State.{Account, Program, World}
use Rattle.cad_world_registers.specs.Meaning.{parts_of}
use Rattle.cad_world_registers.specs.Told.{all_made}
use Rattle.cad_world_registers.specs.declared.parts.Parts.{Parts}
use Rattle.cad_worlds.specs.Items.{Item, head, next, code, fields, stored, published, controlled, told, Draft, empty_draft, world_from}
use Rattle.cad_worlds.specs.Standing.{AreOneText, register_of}

-- a row's key and its bytes are bytes
abbrev pub RowFits : Row → Type 0
RowFits row = AreBytes row.key.0 × AreBytes row.value

abbrev pub RegisterFits : Register → Type 0
RegisterFits r = AreBytes r.key × AreBytes r.bytes

-- a register from which this is read is the one that says it, and it has bytes of its own
abbrev pub IsSaid : Register → Item → Type 0
IsSaid r (head count identity) = Unit {0}
IsSaid r (next n number) = Unit {0}
IsSaid r (code id bytes) = AreOneText id.names
IsSaid r (fields id v) = HasBytes v
IsSaid r (stored n i v) = (r ≡ told (stored n i v)) × HasBytes v
IsSaid r (published n p) = (r ≡ told (published n p)) × TypeHasBytes p.lent
IsSaid r (controlled n c) = (r ≡ told (controlled n c)) × TypeHasBytes c.borrow × (length c.target.0 < 2 ^ 32)

-- rows make this
abbrev pub AreMade : List Row → Parts → Type 0
AreMade rows x = all_made (map register_of rows) empty_draft ≡ Some (parts_of x)

-- a World is what rows make, with some programs
pub record IsMadeOf (rows : List Row) (w : World) : Type 0 where
  pub draft : Draft
  pub programs : List Program
  pub made : all_made (map register_of rows) empty_draft ≡ Some draft
  pub is : w ≡ world_from draft programs

-- how many registers an account has of what it stores, publishes and controls
abbrev pub held : Account → ℕ
held a = length a.identifiers + (length a.published + length a.controllers)

abbrev pub counted : List Account → ℕ
counted [] = 0
counted (a ∷ all) = held a + counted all
