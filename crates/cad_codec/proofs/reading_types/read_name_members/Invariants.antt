use Rattle.std.proofs.Common.{◌≡◌, ◌-◌}
use Rattle.cad_codec.specs.Code.Fields.{members_at, name_at}
use Rattle.cad_codec.proofs.Members.{with_front}
use Rattle.cad_codec.proofs.reading_types.read_name_members.Given as goal

abbrev pub invariant-loop : goal.invariant-loop
invariant-loop l = with_front l.names (members_at name_at (l.count - l.counter) l.reader) ≡ members_at name_at l.count l.fn.reader
