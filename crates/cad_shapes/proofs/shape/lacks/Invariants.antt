use Rattle.std.proofs.Common.{◌≡◌, not, drop, map}
use Rattle.std.specs.List.{list_all}
use Rattle.cad_shapes.specs.Views.{pure_field, same_name}
use Rattle.cad_shapes.proofs.shape.lacks.Given as goal

abbrev pub invariant-loop-other : goal.invariant-loop-other
invariant-loop-other l = list_all (λ other. not (same_name other.name l.name)) (map pure_field (drop l.other-index l.fields)) ≡ list_all (λ other. not (same_name other.name l.name)) (map pure_field l.fields)
