use Rattle.std.proofs.Common.{◌≡◌, ◌++◌, map, drop}
use Rattle.std.specs.List.{flat_map}
use Rattle.cad_contracts.specs.Views.{entry_of}
use Rattle.cad_types.specs.Declarations.{declaration_of as kind_of}
use Rattle.cad_declarations.specs.Own as own
use Rattle.cad_entries.proofs.known.named_types.Given as goal

abbrev pub invariant-loop-contract : goal.invariant-loop-contract
invariant-loop-contract l =
    map kind_of l.all.items ++ flat_map (λ c. map (λ t. own.named t.id t.sort) c.types) (map (λ c. entry_of c.now) (drop l.contract-index l.imports)) ≡ flat_map (λ c. map (λ t. own.named t.id t.sort) c.types) (map (λ c. entry_of c.now) l.imports)
