use Rattle.std.proofs.Common.{◌≡◌, ◌++◌, drop, map, Bor}
use Rattle.cad_syntax.specs.declared.type_id.TypeId.{TypeId}
use Rattle.cad_declarations.proofs.link.identifiers.Given as goal

abbrev pub invariant-loop-link : goal.invariant-loop-link
invariant-loop-link l = map (λ (id : Bor TypeId). id.now) l.ids.items ++ map (λ link. link.id) (drop l.link-index l.links) ≡ map (λ link. link.id) l.links
