use Rattle.std.proofs.Common.{◌≡◌, map, drop}
use Rattle.cad_grammar.specs.Views.{condition_of}
use Rattle.cad_declarations.specs.Views as typed
use Rattle.cad_environment.specs.Views.{environment_of}
use Rattle.cad_typing.specs.Conditions as spec
use Rattle.cad_statements.specs.Rows.{row_before}
use Rattle.cad_statements.proofs.conditions.push_conditions.Given as goal

abbrev pub invariant-loop-written : goal.invariant-loop-written
invariant-loop-written l =
    row_before (map typed.condition_of l.found.items) (spec.type_conditions (environment_of l.here) l.number (map condition_of (drop l.written-index l.all)))
    ≡ row_before (map typed.condition_of l.initial.found.items) (spec.type_conditions (environment_of l.fn.env) l.fn.at (map condition_of l.all))
