use Rattle.std.proofs.Common.{◌≡◌, ◌++◌, drop, map, Bor}
use Rattle.cad_syntax.specs.declared.type_id.TypeId.{TypeId}
use Rattle.cad_types.proofs.table.identifiers.Given as goal

abbrev pub invariant-loop-d : goal.invariant-loop-d
invariant-loop-d l = map (λ (id : Bor TypeId). id.now) l.ids.items ++ map (λ d. d.id) (drop l.d-index l.declared) ≡ map (λ d. d.id) l.declared
