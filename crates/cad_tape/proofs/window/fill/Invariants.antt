use Rattle.std.proofs.Common.{◌≡◌, ◌≤◌, ◌+◌, ◌-◌, List, ℕ, drop, vec_len}
use Rattle.cad_host.specs.Disk.{reads}
use Rattle.cad_tape.specs.Code.Scanning.{IsAlong}
use Rattle.cad_tape.proofs.window.fill.Given as goal

abbrev pub invariant-pieces : goal.invariant-pieces
invariant-pieces g l = record {
  inside : l.window.place + vec_len l.bytes ≤ l.window.end;
  story : g.H.Host.tells → g.H.Host.trace l.host ≡ g.H.Host.trace l.fn.host;
  stays : g.H.Host.tells → g.H.Host.left l.host ≡ g.H.Host.left l.fn.host;
  disk : g.H.Host.disk_faults l.host ≡ g.H.Host.disk_faults l.fn.host;
  input : g.H.Host.input_faults l.host ≡ g.H.Host.input_faults l.fn.host;
  output : g.H.Host.output_faults l.host ≡ g.H.Host.output_faults l.fn.host;
  along : g.H.Host.tells → (bytes : List ℕ) → bytes ≡ reads (g.H.Host.trace l.fn.host) l.fn.window.tape
      → IsAlong bytes (drop l.fn.window.from l.fn.window.bytes.items) l.fn.window.place l.fn.window.end → IsAlong bytes l.bytes.items l.window.place l.window.end;
}

abbrev pub decreases-pieces : goal.decreases-pieces
decreases-pieces g l = l.need - vec_len l.bytes
