use Rattle.std.proofs.Common.{◌≡◌, ◌++◌, drop}
use Rattle.cad_scopes.specs.Views.{scope_of}
use Rattle.cad_declarations.specs.Own as own
use Rattle.cad_contracts.proofs.links.parents_of.Given as goal

abbrev pub invariant-loop-names : goal.invariant-loop-names
invariant-loop-names l =
    l.ids.items ++ own.parents_of (scope_of l.scope) (drop l.names-index l.all) ≡ own.parents_of (scope_of l.scope) l.all
