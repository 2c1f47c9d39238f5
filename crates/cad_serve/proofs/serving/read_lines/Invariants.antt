use Rattle.std.proofs.Common.{◌≡◌, ◌≤◌, ◌<◌, ◌+◌, ◌-◌, length}
use Rattle.cad_world.specs.State.{World}
use Rattle.cad_worlds.specs.Standing.{StandsFor}
use Rattle.cad_serve_parts.specs.Code.Worlds.{AreSound}
use Rattle.cad_store.specs.Stores.{held, room_of, IsOn}
use Rattle.cad_serve.specs.Code.Progress.{Between}
use Rattle.cad_serve.specs.Code.Ending.{input_bound}
use Rattle.cad_serve.proofs.serving.read_lines.Given as goal

abbrev pub invariant-loop-taken : goal.invariant-loop-taken
invariant-loop-taken g l =
    (g.H.Host.tells → (w : World) → StandsFor (held l.initial.store) w → Between l.line l.store w (g.H.Host.left l.initial.host) (g.H.Host.trace l.initial.host) (g.H.Host.left l.host) (g.H.Host.trace l.host))
    × (g.H.Host.tells → length (g.H.Host.left l.initial.host) ≡ l.taken + length (g.H.Host.left l.host))
    × (g.H.Host.input_faults l.host ≡ g.H.Host.input_faults l.initial.host)
    × (g.H.Host.output_faults l.host ≡ g.H.Host.output_faults l.initial.host)
    × (g.H.Host.disk_faults l.host ≡ g.H.Host.disk_faults l.initial.host)
    × AreSound (held l.store)
    × (g.H.Host.tells → IsOn (g.H.Host.trace l.host) l.store)
    × (room_of l.store ≡ room_of l.initial.store)
    × (l.taken ≤ input_bound)
    × (0 < length l.buffer)

abbrev pub decreases-loop-taken : goal.decreases-loop-taken
decreases-loop-taken g l = input_bound - l.taken
