use Rattle.std.proofs.Common.{take}
use Rattle.cad_host.specs.Disk.{state}
use Rattle.cad_host.specs.Code.Replay.{IsReplayed}
use Rattle.cad_host.specs.Record.{trace_of}
use Rattle.cad_host.proofs.replay.image_of.Given as goal

abbrev pub invariant-loop-call : goal.invariant-loop-call
invariant-loop-call l = IsReplayed l.fill (state l.tape (trace_of (take l.call-index l.calls))) l.reads.items l.image.items
