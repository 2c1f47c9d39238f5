use Rattle.std.proofs.Common.{◌≡◌, map, drop}
use Rattle.std.specs.List.{list_all}
use Rattle.cad_declarations.specs.Views.{parameter_of}
use Rattle.cad_typing.specs.Transactions as spec
use Rattle.cad_heads.proofs.transaction.are_account_references.Given as goal

abbrev pub invariant-loop-parameter : goal.invariant-loop-parameter
invariant-loop-parameter l =
    list_all (λ p. spec.is_account_reference p.type) (map parameter_of (drop l.parameter-index l.parameters))
    ≡ list_all (λ p. spec.is_account_reference p.type) (map parameter_of l.parameters)
