use Rattle.std.proofs.Common.{◌≡◌, ◌++◌, drop}
use Rattle.std.specs.Prelude.{filter_map}
use Rattle.cad_scopes.specs.Views.{scope_of}
use Rattle.cad_declarations.specs.Entries as e
use Rattle.cad_entries.proofs.mappings.mapping_pairs.Given as goal

abbrev pub invariant-loop-item : goal.invariant-loop-item
invariant-loop-item l =
    l.all.items ++ filter_map (e.mapping_pair (scope_of l.scope)) (drop l.item-index l.items) ≡ filter_map (e.mapping_pair (scope_of l.scope)) l.items
