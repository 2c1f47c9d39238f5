use Rattle.cad_evaluation.specs.Operators.{unary}
use Rattle.cad_grammar.specs.declared.expression.UnaryOperator.TheVariants.{Dereference}
use Rattle.cad_rows.specs.Views.{pure_shape, pure_tree}
use Rattle.cad_state.specs.Views.{state_over}
use Rattle.cad_value_operations.proofs.Looks.{does_from}
use Rattle.cad_value_operations.specs.Code.Operators.{dereferenced}
use Rattle.cad_world.specs.Receivers.{is_reference_in}
use Rattle.cad_world.specs.Rows.{NodeShape}
use Rattle.cad_world.specs.State.{guard}
use Rattle.std.proofs.Common.{Bool, ap, sym, ℕ, ◌∙◌}
use Rattle.cad_value_operations.proofs.operators.dereferenced.Goals as goal

pub returns-then-is_reference : goal.returns-then-is_reference
returns-then-is_reference c = λ w ready.
    let t = (pure_tree c.args.tree.now) in
    let s = (state_over w c.args.state.now) in
    does_from pure_tree (unary Dereference t) (dereferenced (pure_shape c.shape-own.result.now)) s s (state_over w c.referred.new.state) c.referred.result
    (ap (λ (b : Bool). guard b (dereferenced t.shape) s) (ap (λ (n : ℕ). is_reference_in n t.shape) (sym c.optionals.ensures) ∙ ap (λ (x : NodeShape). is_reference_in c.optionals.result x) (sym c.shape-own.ensures) ∙ sym c.is_reference.ensures ∙ c.if-is_reference.true)
    ∙ ap (λ (x : NodeShape). dereferenced x s) (sym c.shape-own.ensures))
    (c.referred.ensures w ready)
