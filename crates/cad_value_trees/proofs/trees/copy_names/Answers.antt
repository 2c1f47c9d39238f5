use Rattle.std.proofs.Common.{arith}
use Rattle.cad_value_trees.proofs.Keys.{names_end}
use Rattle.cad_value_trees.proofs.trees.copy_names.Goals as goal

pub returns : goal.returns
returns c = names_end c.args.fields.now c.loop-field.field-index c.loop-field.names (omega arith) c.loop-field.invariant
