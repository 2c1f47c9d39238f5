use Rattle.std.proofs.Common.{◌≡◌, drop, map}
use Rattle.serde_json.specs.View.{view, items_of}
use Rattle.cad_commands.specs.Fields.{addresses_of}
use Rattle.cad_commands.proofs.Addresses.{behind}
use Rattle.cad_commands.proofs.field.addresses_of.Given as goal

abbrev pub invariant-loop-item : goal.invariant-loop-item
invariant-loop-item l =
    behind l.all.items (addresses_of (items_of (map view (drop l.item-index l.list)))) ≡ addresses_of (items_of (map view l.list))
