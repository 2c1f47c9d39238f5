use Rattle.std.proofs.Common.{◌≡◌, drop, map}
use Rattle.cad_types.specs.Declarations.{declaration_of, found}
use Rattle.cad_types.proofs.declared.find.Given as goal

abbrev pub invariant-loop-d : goal.invariant-loop-d
invariant-loop-d l =
    found (map declaration_of (drop l.d-index l.declared)) l.id ≡ found (map declaration_of l.declared) l.id
