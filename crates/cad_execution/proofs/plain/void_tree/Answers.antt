use Rattle.cad_evaluation.specs.Containers.{void_tree}
use Rattle.cad_expressions.proofs.Passed.{gives_boxed}
use Rattle.cad_statement_leaves.proofs.PlainLaws.{void_given}
use Rattle.cad_values.specs.Values.{pure_value}
use Rattle.cad_world.specs.State.{give}
use Rattle.std.specs.Prelude.{Ok}
use Rattle.cad_execution.proofs.plain.void_tree.Goals as goal

pub returns : goal.returns
returns c =
    gives_boxed (give void_tree) (Ok c.plain_tree.result) c.boxed.result c.boxed.ensures (void_given c.plain_tree.result (pure_value c.void_value.result) c.plain_tree.ensures c.void_value.ensures)
