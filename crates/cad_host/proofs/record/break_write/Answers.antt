use Rattle.std.proofs.Common.{◌≤◌, inr, length, ap, subst, arith}
use Rattle.cad_host.specs.Disk.{reads}
use Rattle.cad_host.specs.Record.{trace_of}
use Rattle.cad_host.proofs.Kept.{half_breaks}
use Rattle.cad_host.proofs.record.break_write.Goals as goal

pub returns-in-Ok-clause-breaks : goal.returns-in-Ok-clause-breaks
returns-in-Ok-clause-breaks c =
    let inside : c.args.at ≤ length (reads (trace_of c.args.calls.now.items) c.args.tape) = omega (arith, c.requires.place, ap length (c.requires.reads c.args.tape)) in
    half_breaks c.args.calls.now.items _ c.args.tape c.args.at c.args.bytes.now inside (inr c.in-Ok.ensures.trace)
