use Rattle.std.proofs.Common.{◌≡◌, ◌++◌, map, drop}
use Rattle.cad_scopes.specs.Views.{scope_of}
use Rattle.cad_declarations.specs.Views.{parameter_of}
use Rattle.cad_declarations.specs.Entries as e
use Rattle.cad_grammar.specs.Views as g
use Rattle.cad_entries.proofs.heads.event_parameters.Given as goal

abbrev pub invariant-loop-p : goal.invariant-loop-p
invariant-loop-p l =
    map parameter_of l.made.items ++ map (λ q. e.parameter_entry (scope_of l.scope) q.parameter) (map g.event_parameter_of (drop l.p-index l.all)) ≡ map (λ q. e.parameter_entry (scope_of l.scope) q.parameter) (map g.event_parameter_of l.all)
