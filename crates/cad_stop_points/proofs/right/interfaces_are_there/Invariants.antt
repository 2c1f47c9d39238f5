use Rattle.std.proofs.Common.{◌≡◌, drop}
use Rattle.cad_scopes.specs.Views.{scope_of}
use Rattle.cad_declarations.specs.Points as p
use Rattle.cad_stop_points.proofs.right.interfaces_are_there.Given as goal

abbrev pub invariant-loop-names : goal.invariant-loop-names
invariant-loop-names l =
    p.interfaces_are_there (scope_of l.scope) l.kind (drop l.names-index l.all) ≡ p.interfaces_are_there (scope_of l.scope) l.kind l.all
