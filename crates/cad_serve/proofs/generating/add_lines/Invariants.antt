use Rattle.std.proofs.Common.{◌≡◌, ◌++◌, ℕ, List, take}
use Rattle.cad_store.specs.Stores.{held, room_of, IsOn}
use Rattle.cad_world.specs.State.{World}
use Rattle.cad_serve.specs.Code.Counted.{HasRunAll}
use Rattle.cad_serve_parts.specs.Code.Worlds.{AreSound}
use Rattle.cad_serve.proofs.generating.add_lines.Given as goal

abbrev pub invariant-loop-line : goal.invariant-loop-line
invariant-loop-line g l =
    ((w : World) (before : List (List ℕ)) → HasRunAll w before l.initial.counts l.initial.store → HasRunAll w (before ++ take l.line-index l.lines) l.counts l.store)
    × AreSound (held l.store)
    × (g.H.Host.tells → IsOn (g.H.Host.trace l.host) l.store)
    × (room_of l.store ≡ room_of l.initial.store)
