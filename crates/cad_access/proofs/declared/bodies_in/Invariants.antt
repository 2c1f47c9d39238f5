use Rattle.std.proofs.Common.{◌≡◌, drop, find, map}
use Rattle.cad_syntax.specs.TypeIds.{same_id}
use Rattle.cad_declarations.specs.Views.{type_body_of}
use Rattle.cad_access.proofs.declared.bodies_in.Given as goal

abbrev pub invariant-loop-one : goal.invariant-loop-one
invariant-loop-one l = find (λ b. same_id b.id l.id) (map type_body_of (drop l.one-index l.bodies)) ≡ find (λ b. same_id b.id l.id) (map type_body_of l.bodies)
