-- The laws of Worlds as registers.
use Rattle.std.specs.Prelude.{◌≡◌, ℕ, true, List, map}
use Rattle.cad_accounts.specs.KeyOrder.{rise}
use Rattle.cad_accounts.specs.Registers.{Map, at, are_rising, size_of}
use Rattle.cad_accounts.specs.declared.row.Row.{Row}
use Rattle.cad_loads.specs.Loads.{Loaded, Loads, source_of}
use Rattle.cad_world.specs.Registers.{Register, registers, size}
use Rattle.cad_world.specs.State.{World}
use Rattle.cad_worlds.specs.Standing.{coding, IsSoundButCode, StandsFor, register_of}

abbrev pub register_key : Register → List ℕ
register_key x = x.key

-- the registers of a sound World stand in byte order of their keys, each key once
abbrev pub RegistersRise : Type 0
RegistersRise = (w : World) → IsSoundButCode w → rise register_key (registers coding w) ≡ true

-- rows in that order that stand for a World are its registers, and have its size
pub record AreRegisters (rows : List Row) (w : World) : Type 0 where
  pub are : map register_of rows ≡ registers coding w
  pub size_is : size_of rows ≡ size coding w

abbrev pub RowsAreRegisters : Type 0
RowsAreRegisters = (rows : List Row) (w : World) → are_rising rows ≡ true → StandsFor (at rows) w → AreRegisters rows w

-- contracts that were deployed are known by their codes
abbrev pub AreKnownByCode : Type 0
AreKnownByCode = (a b : List Loaded) → Loads a → Loads b → map source_of a ≡ map source_of b → a ≡ b

-- one map of registers stands for one World, as far as contracts are known by their codes
abbrev pub OneWorld : Type 0
OneWorld = AreKnownByCode → (m : Map) (w v : World) → StandsFor m w → StandsFor m v → w ≡ v
