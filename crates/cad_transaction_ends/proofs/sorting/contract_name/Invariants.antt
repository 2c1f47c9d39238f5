use Rattle.std.proofs.Common.{◌≡◌, ◌++◌, drop}
use Rattle.std.specs.List.{flat_map}
use Rattle.cad_transaction_ends.proofs.sorting.contract_name.Given as goal

abbrev pub invariant-loop-name : goal.invariant-loop-name
invariant-loop-name l = l.bytes.items ++ flat_map (λ n. n.0) (drop l.name-index l.name-items) ≡ flat_map (λ n. n.0) l.name-items
