use Rattle.std.proofs.Common.{◌≡◌, ◌-◌}
use Rattle.cad_wire.specs.Reading.{entries_at}
use Rattle.cad_wire.proofs.Members.{with_front}
use Rattle.cad_wire.proofs.body.read_members.Given as goal

abbrev pub invariant-loop : goal.invariant-loop
invariant-loop l = with_front l.entries (entries_at (l.count - l.counter) l.reader) ≡ entries_at l.count l.fn.reader
