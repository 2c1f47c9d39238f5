use Rattle.std.proofs.Common.{◌≡◌, drop, map}
use Rattle.cad_declarations.specs.Views.{member_body_of}
use Rattle.cad_world.specs.Declared.{function_in}
use Rattle.cad_access.proofs.declared.function_in.Given as goal

abbrev pub invariant-loop-member : goal.invariant-loop-member
invariant-loop-member l = function_in (map member_body_of (drop l.member-index l.members)) l.name ≡ function_in (map member_body_of l.members) l.name
