use Rattle.cad_rows.specs.Views.{pure_tree}
use Rattle.cad_value_operations.specs.Optionals.{left_or_none}
use Rattle.cad_expression_leaves.proofs.Boxing.{value_given}
use Rattle.cad_expression_leaves.proofs.Going.{goes_stopped}
use Rattle.cad_expression_leaves.proofs.values.content_or_whole.Goals as goal

pub returns-in-Ok : goal.returns-in-Ok
returns-in-Ok c y = value_given _ _ _ _ _ _ _ _ c.in-Ok.is c.unboxed.ensures (c.boxed_option.ensures (left_or_none c.args.takes_off (pure_tree c.unboxed.result)) c.coalesce.ensures)

pub returns-in-Err : goal.returns-in-Err
returns-in-Err c y = goes_stopped _ _ _ _ _ _ _ _ c.in-Err.is
