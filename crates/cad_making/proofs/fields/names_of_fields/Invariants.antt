use Rattle.std.proofs.Common.{◌≡◌, ◌++◌, map, drop}
use Rattle.cad_declarations.specs.Views.{member_of}
use Rattle.cad_evaluation.specs.Making.{field_names}
use Rattle.cad_making.proofs.fields.names_of_fields.Given as goal

abbrev pub invariant-loop-member : goal.invariant-loop-member
invariant-loop-member l = l.names ++ field_names (map member_of (drop l.member-index l.members)) ≡ field_names (map member_of l.members)
