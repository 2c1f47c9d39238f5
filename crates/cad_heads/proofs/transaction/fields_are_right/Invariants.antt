use Rattle.std.proofs.Common.{◌≡◌, map, drop}
use Rattle.std.specs.List.{list_all}
use Rattle.cad_grammar.specs.Views.{transaction_field_of}
use Rattle.cad_scopes.specs.Views.{scope_of}
use Rattle.cad_typing.specs.Functions as functions
use Rattle.cad_heads.proofs.transaction.fields_are_right.Given as goal

abbrev pub invariant-loop-field : goal.invariant-loop-field
invariant-loop-field l =
    list_all (λ f. functions.is_annotated (scope_of l.scope) f.annotation) (map transaction_field_of (drop l.field-index l.fields))
    ≡ list_all (λ f. functions.is_annotated (scope_of l.scope) f.annotation) (map transaction_field_of l.fields)
