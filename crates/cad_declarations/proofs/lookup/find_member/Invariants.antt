use Rattle.std.proofs.Common.{◌≡◌, drop, map}
use Rattle.cad_declarations.specs.Members as spec
use Rattle.cad_declarations.specs.Views.{member_of}
use Rattle.cad_declarations.proofs.lookup.find_member.Given as goal

abbrev pub invariant-loop-member : goal.invariant-loop-member
invariant-loop-member l = spec.member_in (map member_of (drop l.member-index l.members)) l.name ≡ spec.member_in (map member_of l.members) l.name
