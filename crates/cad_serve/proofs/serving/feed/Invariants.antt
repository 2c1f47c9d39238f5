use Rattle.std.proofs.Common.{◌≡◌, take}
use Rattle.cad_host.specs.Disk.{taken}
use Rattle.cad_serve_parts.specs.Code.Worlds.{AreSound}
use Rattle.cad_store.specs.Stores.{held, room_of, IsOn}
use Rattle.cad_serve.specs.Code.Progress.{Goes}
use Rattle.cad_serve.proofs.serving.feed.Given as goal

abbrev pub invariant-loop-byte : goal.invariant-loop-byte
invariant-loop-byte g l =
    (g.H.Host.tells → Goes l.initial.line l.initial.store l.line l.store (take l.byte-index l.bytes) (g.H.Host.trace l.initial.host) (g.H.Host.trace l.host))
    × (g.H.Host.output_faults l.host ≡ g.H.Host.output_faults l.initial.host)
    × (g.H.Host.disk_faults l.host ≡ g.H.Host.disk_faults l.initial.host)
    × (g.H.Host.tells → g.H.Host.left l.host ≡ g.H.Host.left l.initial.host)
    × (g.H.Host.input_faults l.host ≡ g.H.Host.input_faults l.initial.host)
    × AreSound (held l.store)
    × (g.H.Host.tells → IsOn (g.H.Host.trace l.host) l.store)
    × (room_of l.store ≡ room_of l.initial.store)
    × (g.H.Host.tells → taken (g.H.Host.trace l.host) ≡ taken (g.H.Host.trace l.initial.host))
