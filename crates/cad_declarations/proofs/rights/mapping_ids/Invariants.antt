use Rattle.std.proofs.Common.{◌≡◌, ◌++◌, drop, map, Bor}
use Rattle.cad_syntax.specs.declared.type_id.TypeId.{TypeId}
use Rattle.cad_declarations.proofs.rights.mapping_ids.Given as goal

abbrev pub invariant-loop-mapping : goal.invariant-loop-mapping
invariant-loop-mapping l = map (λ (id : Bor TypeId). id.now) l.ids.items ++ map (λ m. m.id) (drop l.mapping-index l.mappings) ≡ map (λ m. m.id) l.mappings
