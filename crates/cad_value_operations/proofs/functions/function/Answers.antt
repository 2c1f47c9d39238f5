use Rattle.cad_evaluation.specs.Builtins.{function}
use Rattle.cad_outcomes.specs.Outcomes.{Does}
use Rattle.cad_rows.specs.Views.{pure_row, pure_tree}
use Rattle.cad_rows.specs.declared.tree.Place.{Place}
use Rattle.cad_state.specs.Views.{state_over}
use Rattle.cad_syntax.specs.Types.{pure_type}
use Rattle.cad_value_operations.proofs.GroupLaws.{function_by_call}
use Rattle.cad_value_operations.proofs.Looks.{does_from}
use Rattle.cad_value_operations.specs.Code.Members.{by_called}
use Rattle.cad_value_operations.specs.declared.groups.Called.{Called}
use Rattle.std.proofs.Common.{List, ap, map, subst, sym, ◌∙◌}
use Rattle.cad_value_operations.proofs.functions.function.Goals as goal

pub returns : goal.returns
returns c = λ w.
    let s = (state_over w c.args.state.now) in
    let u = state_over w c.function_of-given.new.state in
    let types = (map (λ t. pure_type t) c.args.types.now) in
    let row = pure_row c.args.arguments.items in
    does_from pure_tree (function c.args.builtin types row) (by_called types row c.called_of.result) s s u c.function_of-given.result
    (function_by_call c.args.builtin types row s ∙ ap (λ (k : Called). by_called types row k s) (sym c.called_of.ensures))
    (subst (λ (r : List Place). Does pure_tree (by_called types (pure_row r) c.called_of.result) s u c.function_of-given.result) c.as_slice.ensures.value (c.function_of-given.ensures w))
