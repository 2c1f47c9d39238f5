use Rattle.std.proofs.Common.{◌≡◌, map, drop}
use Rattle.cad_declarations.specs.Views.{member_of}
use Rattle.cad_paths.specs.Fields as spec
use Rattle.cad_pure.proofs.fields.has_field.Given as goal

abbrev pub invariant-loop-member : goal.invariant-loop-member
invariant-loop-member l =
    spec.is_empty (spec.field_types (map member_of (drop l.member-index l.members))) ≡ spec.is_empty (spec.field_types (map member_of l.members))
