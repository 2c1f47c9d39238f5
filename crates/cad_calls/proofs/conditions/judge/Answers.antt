use Rattle.std.proofs.Common.{option_map, Some, ◌∙◌, sym, ap}
use Rattle.cad_evaluation.specs.Numbers.{truth_of}
use Rattle.cad_execution.specs.Passed.{tree_in}
use Rattle.cad_rows.specs.Views.{pure_tree}
use Rattle.cad_declarations.specs.Views.{term_of}
use Rattle.cad_calls.proofs.Laws.{judged_not}
use Rattle.cad_calls.proofs.conditions.judge.Goals as goal

pub returns-else-holds : goal.returns-else-holds
returns-else-holds g c =
    judged_not (g.C.Callees.front c.args.callees.now) (g.C.Callees.calls c.args.callees.now) (option_map term_of c.args.message.now) (tree_in c.args.value) c.args.state.now c.fail_test.new.state c.fail_test.result (ap (λ t. truth_of (pure_tree t)) (sym c.deref.ensures) ∙ sym c.truth_in-found.ensures ∙ c.in-Some.is ∙ ap (λ b. Some b) c.if-holds.false) c.fail_test.ensures
