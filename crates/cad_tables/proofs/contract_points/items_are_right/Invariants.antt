use Rattle.std.proofs.Common.{◌≡◌, drop}
use Rattle.std.specs.List.{list_all}
use Rattle.cad_scopes.specs.Views.{scope_of}
use Rattle.cad_declarations.specs.Points as p
use Rattle.cad_tables.proofs.contract_points.items_are_right.Given as goal

abbrev pub invariant-loop-item : goal.invariant-loop-item
invariant-loop-item l =
    list_all (p.item_is_right (scope_of l.scope)) (drop l.item-index l.items) ≡ list_all (p.item_is_right (scope_of l.scope)) l.items
