use Rattle.std.proofs.Common.{◌≡◌, find, map, drop}
use Rattle.cad_declarations.specs.Views.{type_body_of}
use Rattle.cad_syntax.specs.TypeIds.{same_id}
use Rattle.cad_function_sources.proofs.sources.find_bodies.Given as goal

abbrev pub invariant-loop-bodies : goal.invariant-loop-bodies
invariant-loop-bodies l = find (λ b. same_id b.id l.id) (map type_body_of (drop l.bodies-index l.all)) ≡ find (λ b. same_id b.id l.id) (map type_body_of l.all)
