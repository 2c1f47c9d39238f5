use Rattle.std.proofs.Common.{◌≡◌, ◌++◌, drop, map, Bor}
use Rattle.cad_syntax.specs.declared.type_id.TypeId.{TypeId}
use Rattle.cad_shapes.proofs.shape.identifiers.Given as goal

abbrev pub invariant-loop-shape : goal.invariant-loop-shape
invariant-loop-shape l = map (λ (id : Bor TypeId). id.now) l.ids.items ++ map (λ s. s.id) (drop l.shape-index l.shapes) ≡ map (λ s. s.id) l.shapes
