use Rattle.cad_evaluation.specs.Operators.{binary}
use Rattle.cad_operators.specs.Answers.{with_charge}
use Rattle.cad_rows.specs.Views.{pure_tree}
use Rattle.cad_state.specs.Views.{state_over}
use Rattle.cad_value_operations.proofs.Looks.{does_from}
use Rattle.cad_value_operations.proofs.operators.binary.Goals as goal

pub returns : goal.returns
returns c = λ w.
    let s = (state_over w c.args.state.now) in
    let a = pure_tree c.args.a in
    let b = pure_tree c.args.b in
    does_from pure_tree (binary c.args.operation a b) (with_charge c.args.operation a b) s s (state_over w c.charged-made.new.state) c.charged-made.result (c.answers_are_charged.ensures c.args.operation a b s) (c.charged-made.ensures w)
