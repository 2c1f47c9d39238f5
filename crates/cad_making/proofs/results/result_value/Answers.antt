use Rattle.std.proofs.Common.{◌∙◌, ap, sym}
use Rattle.std.specs.Prelude.{true, false}
use Rattle.cad_evaluation.specs.Bodies.{result_value}
use Rattle.cad_outcomes.proofs.Steps.{does_same}
use Rattle.cad_rows.specs.Views.{pure_tree}
use Rattle.cad_state.specs.Views.{state_over}
use Rattle.cad_syntax.specs.Types.{pure_type}
use Rattle.cad_making.specs.Code.Results.{result_of}
use Rattle.cad_making.proofs.results.result_value.Goals as goal

pub returns-then-is_linear : goal.returns-then-is_linear
returns-then-is_linear c = λ w. does_same pure_tree (result_value (pure_type c.args.declared.now)) (result_of true) (state_over w c.args.state.now) (state_over w c.refer_result.new.state) c.refer_result.result
    (ap (λ b. result_of b (state_over w c.args.state.now)) (sym c.is_linear.ensures ∙ c.if-is_linear.true)) (c.refer_result.ensures w)

pub returns-else-is_linear : goal.returns-else-is_linear
returns-else-is_linear c = λ w. does_same pure_tree (result_value (pure_type c.args.declared.now)) (result_of false) (state_over w c.args.state.now) (state_over w c.args.state.now) c.copy_result.result
    (ap (λ b. result_of b (state_over w c.args.state.now)) (sym c.is_linear.ensures ∙ c.if-is_linear.false)) (c.copy_result.ensures w)
