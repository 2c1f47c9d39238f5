-- Which shapes are of resources.
use Rattle.std.specs.Prelude.{Bool, true, false}
use Rattle.cad_world.specs.Rows.{NodeShape, own_identity, is_none_left}
use Rattle.std.specs.Prelude.{if◌then◌else◌}

abbrev pub is_resource : NodeShape → Bool
is_resource s = if is_none_left (own_identity s) then false else true
