use Rattle.std.proofs.Common.{◌≡◌, ◌++◌, map, drop}
use Rattle.cad_grammar.specs.Views.{transaction_field_of}
use Rattle.cad_environment.specs.Views.{local_of}
use Rattle.cad_scopes.specs.Views.{scope_of}
use Rattle.cad_typing.specs.Transactions as spec
use Rattle.cad_transactions.proofs.transaction.field_locals.Given as goal

abbrev pub invariant-loop-field : goal.invariant-loop-field
invariant-loop-field l =
    map local_of l.all.items ++ spec.field_locals (scope_of l.scope) l.next (map transaction_field_of (drop l.field-index l.fields))
    ≡ spec.field_locals (scope_of l.scope) l.first (map transaction_field_of l.fields)
