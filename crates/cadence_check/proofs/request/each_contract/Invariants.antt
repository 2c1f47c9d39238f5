use Rattle.std.proofs.Common.{◌≡◌, drop, map}
use Rattle.serde_json.specs.View.{view, items_of}
use Rattle.cadence_check.specs.Requests.{each_contract}
use Rattle.cadence_check.specs.Views.{contract_of}
use Rattle.cadence_check.proofs.Items.{behind}
use Rattle.cadence_check.proofs.request.each_contract.Given as goal

abbrev pub invariant-loop-object : goal.invariant-loop-object
invariant-loop-object l =
    behind (map contract_of l.all.items) (each_contract (items_of (map view (drop l.object-index l.list)))) ≡ each_contract (items_of (map view l.list))
