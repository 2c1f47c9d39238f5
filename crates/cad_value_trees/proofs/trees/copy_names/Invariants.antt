use Rattle.std.proofs.Common.{◌≡◌, ◌++◌, map, drop}
use Rattle.cad_value_trees.proofs.Keys.{name_of}
use Rattle.cad_value_trees.proofs.trees.copy_names.Given as goal

abbrev pub invariant-loop-field : goal.invariant-loop-field
invariant-loop-field l = l.names ++ map name_of (drop l.field-index l.fields) ≡ map name_of l.fields
