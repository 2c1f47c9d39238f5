use Rattle.std.proofs.Common.{◌≡◌, ◌++◌, map, drop}
use Rattle.cad_grammar.specs.Views.{transaction_field_of}
use Rattle.cad_declarations.specs.Views.{tables_of}
use Rattle.cad_typing.specs.Transactions as spec
use Rattle.cad_transactions.proofs.transaction.field_rules.Given as goal

abbrev pub invariant-loop-field : goal.invariant-loop-field
invariant-loop-field l =
    l.all.items ++ map (spec.field_rule (tables_of l.known.tables.now)) (map transaction_field_of (drop l.field-index l.fields))
    ≡ map (spec.field_rule (tables_of l.known.tables.now)) (map transaction_field_of l.fields)
