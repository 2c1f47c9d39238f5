use Rattle.std.proofs.Common.{◌≡◌, ◌++◌, map, drop}
use Rattle.cad_scopes.specs.Views.{scope_of}
use Rattle.cad_declarations.specs.Views.{parameter_of}
use Rattle.cad_declarations.specs.Entries as e
use Rattle.cad_grammar.specs.Views as g
use Rattle.cad_entries.proofs.heads.parameter_entries.Given as goal

abbrev pub invariant-loop-p : goal.invariant-loop-p
invariant-loop-p l =
    map parameter_of l.made.items ++ map (e.parameter_entry (scope_of l.scope)) (map g.parameter_of (drop l.p-index l.all)) ≡ map (e.parameter_entry (scope_of l.scope)) (map g.parameter_of l.all)
