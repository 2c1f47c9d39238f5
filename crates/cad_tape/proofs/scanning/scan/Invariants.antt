use Rattle.std.proofs.Common.{◌≡◌, ◌≤◌, ◌-◌, drop}
use Rattle.cad_host.specs.Disk.{reads}
use Rattle.cad_tape.specs.Code.Scanning.{IsAlong}
use Rattle.cad_tape.proofs.Going.{Going}
use Rattle.cad_tape.proofs.scanning.scan.Given as goal

abbrev pub invariant-records : goal.invariant-records
invariant-records g l = record {
  tape : l.window.tape ≡ l.fn.tape;
  story : g.H.Host.tells → g.H.Host.trace l.host ≡ g.H.Host.trace l.fn.host;
  stays : g.H.Host.tells → g.H.Host.left l.host ≡ g.H.Host.left l.fn.host;
  disk : g.H.Host.disk_faults l.host ≡ g.H.Host.disk_faults l.fn.host;
  input : g.H.Host.input_faults l.host ≡ g.H.Host.input_faults l.fn.host;
  output : g.H.Host.output_faults l.host ≡ g.H.Host.output_faults l.fn.host;
  along : g.H.Host.tells → IsAlong (reads (g.H.Host.trace l.fn.host) l.fn.tape) (drop l.window.from l.window.bytes.items) l.window.place l.window.end;
  going : g.H.Host.tells → Going (reads (g.H.Host.trace l.fn.host) l.fn.tape) l.window.place l.records;
}

abbrev pub decreases-records : goal.decreases-records
decreases-records g l = l.window.end - l.window.place
