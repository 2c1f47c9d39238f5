use Rattle.std.proofs.Common.{◌≡◌, ◌++◌, ℕ, List}
use Rattle.cad_generation.specs.Lines.{transfers}
use Rattle.cad_generation.specs.Numbers.{number}
use Rattle.cad_store.specs.Stores.{held, room_of, IsOn}
use Rattle.cad_world.specs.State.{World}
use Rattle.cad_serve.specs.Code.Counted.{HasRunAll}
use Rattle.cad_serve_parts.specs.Code.Worlds.{AreSound}
use Rattle.cad_serve.proofs.generating.add_transfers.Given as goal

abbrev pub invariant-loop : goal.invariant-loop
invariant-loop g l =
    ((w : World) (before : List (List ℕ)) → HasRunAll w before l.initial.counts l.initial.store → HasRunAll w (before ++ transfers l.n l.counter) l.counts l.store)
    × (l.x ≡ number l.n l.counter)
    × AreSound (held l.store)
    × (g.H.Host.tells → IsOn (g.H.Host.trace l.host) l.store)
    × (room_of l.store ≡ room_of l.initial.store)
