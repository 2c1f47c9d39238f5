use Rattle.std.proofs.Common.{◌≡◌, drop}
use Rattle.cad_declarations.specs.Scopes as spec
use Rattle.cad_scopes.specs.Views.{scope_of}
use Rattle.cad_scopes.proofs.Each.{behind}
use Rattle.cad_scopes.proofs.resolve.each_interface.Given as goal

abbrev pub invariant-loop-names : goal.invariant-loop-names
invariant-loop-names l =
    behind l.ids.items (spec.each_of (spec.resolved_interface (scope_of l.scope)) (drop l.names-index l.all)) ≡ spec.each_of (spec.resolved_interface (scope_of l.scope)) l.all
