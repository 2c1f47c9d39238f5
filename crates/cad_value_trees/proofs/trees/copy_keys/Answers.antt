use Rattle.std.proofs.Common.{map, arith}
use Rattle.cad_values.specs.Values.{pure_value}
use Rattle.cad_value_trees.proofs.Keys.{keys_end}
use Rattle.cad_value_trees.proofs.trees.copy_keys.Goals as goal

pub returns : goal.returns
returns c = keys_end c.args.entries.now c.loop-entry.entry-index (map pure_value c.loop-entry.keys.items) (omega arith) c.loop-entry.invariant
