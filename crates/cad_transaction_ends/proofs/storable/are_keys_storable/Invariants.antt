use Rattle.std.proofs.Common.{◌≡◌, drop, map}
use Rattle.std.specs.List.{list_all}
use Rattle.cad_values.specs.Forms.{is_storable_value}
use Rattle.cad_values.specs.Values.{pure_value}
use Rattle.cad_transaction_ends.proofs.storable.are_keys_storable.Given as goal

abbrev pub invariant-loop-key : goal.invariant-loop-key
invariant-loop-key l = list_all is_storable_value (map pure_value (drop l.key-index l.keys)) ≡ list_all is_storable_value (map pure_value l.keys)
