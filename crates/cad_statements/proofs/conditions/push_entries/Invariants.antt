use Rattle.std.proofs.Common.{◌≡◌, ◌++◌, map, drop}
use Rattle.cad_grammar.specs.Views.{condition_of}
use Rattle.cad_declarations.specs.Views.{before_of}
use Rattle.cad_environment.specs.Views.{environment_of}
use Rattle.cad_typing.specs.Conditions as spec
use Rattle.cad_statements.proofs.conditions.push_entries.Given as goal

abbrev pub invariant-loop-written : goal.invariant-loop-written
invariant-loop-written l =
    map before_of l.values.items ++ spec.values_at_entry (environment_of l.env) l.number (map condition_of (drop l.written-index l.all))
    ≡ map before_of l.initial.values.items ++ spec.values_at_entry (environment_of l.env) l.fn.at (map condition_of l.all)
