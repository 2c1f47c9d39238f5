use Rattle.std.proofs.Common.{◌≡◌, drop, map}
use Rattle.std.specs.List.{list_all}
use Rattle.cad_types.specs.Declarations.{declaration_of}
use Rattle.cad_types.specs.Code.Declarations.{closed_at, all_closed}
use Rattle.cad_types.proofs.declared.all_closed.Given as goal

abbrev pub invariant-loop-d : goal.invariant-loop-d
invariant-loop-d l =
    list_all (λ d. closed_at (map declaration_of l.declared) d.id) (map declaration_of (drop l.d-index l.declared)) ≡ all_closed (map declaration_of l.declared)
