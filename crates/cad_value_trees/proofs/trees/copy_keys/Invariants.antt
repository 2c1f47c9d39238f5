use Rattle.std.proofs.Common.{◌≡◌, ◌++◌, map, drop}
use Rattle.cad_values.specs.Values.{pure_value}
use Rattle.cad_value_trees.proofs.Keys.{key_of}
use Rattle.cad_value_trees.proofs.trees.copy_keys.Given as goal

abbrev pub invariant-loop-entry : goal.invariant-loop-entry
invariant-loop-entry l = map pure_value l.keys.items ++ map key_of (drop l.entry-index l.entries) ≡ map key_of l.entries
