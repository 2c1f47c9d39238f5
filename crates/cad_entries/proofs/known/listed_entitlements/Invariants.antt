use Rattle.std.proofs.Common.{◌≡◌, ◌++◌, map, drop}
use Rattle.std.specs.List.{flat_map}
use Rattle.cad_contracts.specs.Views.{entry_of}
use Rattle.cad_entries.proofs.known.listed_entitlements.Given as goal

abbrev pub invariant-loop-contract : goal.invariant-loop-contract
invariant-loop-contract l =
    l.all.items ++ flat_map (λ c. c.entitlements) (map (λ c. entry_of c.now) (drop l.contract-index l.imports)) ≡ flat_map (λ c. c.entitlements) (map (λ c. entry_of c.now) l.imports)
