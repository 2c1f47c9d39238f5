use Rattle.std.proofs.Common.{◌≡◌, ◌++◌, map, drop}
use Rattle.std.specs.Prelude.{filter_map}
use Rattle.cad_declarations.specs.Views.{member_of}
use Rattle.cad_shapes.specs.Views.{pure_field}
use Rattle.cad_world.specs.Shapes.{shape_field}
use Rattle.cad_contract_shapes.proofs.entries.fields_of.Given as goal

abbrev pub invariant-loop-member : goal.invariant-loop-member
invariant-loop-member l =
    map pure_field l.fields.items ++ filter_map shape_field (map member_of (drop l.member-index l.member-items))
    ≡ filter_map shape_field (map member_of l.t.members.items)
