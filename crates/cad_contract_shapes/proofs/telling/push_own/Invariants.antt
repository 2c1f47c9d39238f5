use Rattle.std.proofs.Common.{◌≡◌, ◌++◌, map, drop}
use Rattle.std.specs.List.{filter}
use Rattle.cad_declarations.specs.Views.{type_entry_of}
use Rattle.cad_types.specs.Declarations.{declaration_of}
use Rattle.cad_world.specs.Declared.{is_within}
use Rattle.cad_contract_shapes.specs.Sorts.{sort_of_entry}
use Rattle.cad_contract_shapes.proofs.telling.push_own.Given as goal

abbrev pub invariant-loop-t : goal.invariant-loop-t
invariant-loop-t l =
    map declaration_of l.all.items ++ map sort_of_entry (filter (λ entry. is_within l.contract.id entry.id) (map type_entry_of (drop l.t-index l.t-items)))
    ≡ map declaration_of l.fn.all.items ++ map sort_of_entry (filter (λ entry. is_within l.contract.id entry.id) (map type_entry_of l.t-items))
