use Rattle.std.proofs.Common.{◌≡◌, ◌++◌, drop, map, Bor}
use Rattle.cad_syntax.specs.declared.type_id.TypeId.{TypeId}
use Rattle.cad_declarations.proofs.type_declarations.identifiers.Given as goal

abbrev pub invariant-loop-t : goal.invariant-loop-t
invariant-loop-t l = map (λ (id : Bor TypeId). id.now) l.ids.items ++ map (λ t. t.id) (drop l.t-index l.types) ≡ map (λ t. t.id) l.types
