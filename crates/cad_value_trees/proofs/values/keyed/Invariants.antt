use Rattle.std.proofs.Common.{◌≡◌, ◌++◌, map, drop}
use Rattle.std.specs.Vec.Iter.{into_iter_items}
use Rattle.cad_values.specs.Values.{pure_entry}
use Rattle.cad_value_trees.proofs.ValueLaws.{paired, as_entry}
use Rattle.cad_value_trees.proofs.values.keyed.Given as goal

abbrev pub invariant-loop-key : goal.invariant-loop-key
invariant-loop-key l = map pure_entry l.entries.items ++ paired as_entry (drop l.key-index l.keys) (into_iter_items l.left) ≡ paired as_entry l.keys l.fn.values.items
