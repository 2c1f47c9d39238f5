use Rattle.std.proofs.Common.{◌≡◌, ◌++◌, map, drop}
use Rattle.std.specs.Vec.Iter.{into_iter_items}
use Rattle.cad_values.specs.Values.{pure_field}
use Rattle.cad_value_trees.proofs.ValueLaws.{paired, as_field}
use Rattle.cad_value_trees.proofs.values.named.Given as goal

abbrev pub invariant-loop-name : goal.invariant-loop-name
invariant-loop-name l = map pure_field l.fields.items ++ paired as_field (drop l.name-index l.names) (into_iter_items l.left) ≡ paired as_field l.names l.fn.values.items
