-- Registers of Worlds that a run leaves.
use Rattle.std.proofs.Common.{◌≡◌, List, map, Option, Some, None, option_map, Result, Ok, Err, IfOk, ap, ◌∙◌, subst}
use Rattle.std.specs.Prelude.{IfNone}
use Rattle.cad_accounts.specs.Registers.{Map, at}
use Rattle.cad_accounts.specs.declared.row.Row.{Row}
use Rattle.cad_world.specs.Registers.{Register, registers, bytes_under}
use Rattle.cad_world.specs.State.{World}
use Rattle.cad_worlds.proofs.OneWorld.{at_rows}
use Rattle.cad_worlds.specs.Standing.{coding, Becomes, StandsFor, register_of, world_of}
use Rattle.cad_worlds.specs.declared.kept.World as own
use Rattle.cad_serve_parts.specs.Code.Worlds.{AreSound}

-- the registers that were written of one World stand for another
pub becomes_by : (rows : List Row) (v u : World) → map register_of rows ≡ registers coding v → StandsFor (at rows) u → Becomes v u
becomes_by rows v u are stands = subst (λ (m : Map). StandsFor m u) (λ i key. (at_rows rows key ∙ ap (λ (xs : List Register). bytes_under xs key) are) i) stands

none_some : {A : Type 0} (x : A) → None ≡ Some x → ⊥
none_some x e = cc

-- what isn't read stands for none
pub read_none : {E : Type 0} {m : Map} (r : Result (Option own.World) E) → ((v : World) → StandsFor m v → IfOk r (λ o. option_map world_of o ≡ Some v)) → IfOk r (λ o. IfNone o (AreSound m → ⊥))
read_none (Ok None) only = λ sound. none_some sound.0 (only sound.0 sound.1)
read_none (Ok (Some x)) only = tt
read_none (Err e) only = tt
