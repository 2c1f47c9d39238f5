use Rattle.std.proofs.Common.{◌≡◌, drop, map}
use Rattle.serde_json.specs.View.{view}
use Rattle.cad_json_read.specs.Reading.{value_at}
use Rattle.cad_json_read.proofs.composite.value_at.Given as goal

abbrev pub invariant-loop-json : goal.invariant-loop-json
invariant-loop-json l = value_at l.name (map view (drop l.json-index l.all)) ≡ value_at l.name (map view l.all)
