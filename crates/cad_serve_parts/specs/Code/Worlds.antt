-- Registers that a run goes on from.
use Rattle.std.specs.Prelude.{List}
use Rattle.cad_accounts.specs.Registers.{Map, Leads}
use Rattle.cad_wire.specs.declared.entry.Entry.{Entry}
use Rattle.cad_world.specs.State.{World}
use Rattle.cad_worlds.specs.Standing.{StandsFor, Becomes}

-- they stand for a World
abbrev pub AreSound : Map → Type 0
AreSound m = (w : World) × StandsFor m w

-- these changes lead to registers that stand for what a World becomes
abbrev pub LeadsOn : Map → World → List Entry → Type 0
LeadsOn m v changes = (new : Map) × Leads m new changes × (u : World) × StandsFor new u × Becomes v u
