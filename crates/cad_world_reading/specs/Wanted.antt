-- The part of a World of which some accounts are wanted.
use Rattle.std.specs.Prelude.{◌≡◌, ℕ, List}
use Rattle.cad_state.specs.Parts.{known_in}
use Rattle.cad_world.specs.State.{World}
use Rattle.cad_world_registers.specs.Wanted.{wanted_account}
use Rattle.cad_worlds.specs.Parts.{world_over}
use Rattle.cad_worlds.specs.declared.part.WorldPart.{WorldPart}

-- of a World those accounts are known that are wanted, as they are there; over its accounts, what is known is that World
pub record IsPartOf (wanted : List ℕ) (w : World) (x : WorldPart) : Type 0 where
  pub known : (i : ℕ) → known_in x.known.items i ≡ wanted_account wanted w.accounts i
  pub is : world_over w.accounts x ≡ w
