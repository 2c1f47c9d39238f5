use Rattle.std.proofs.Common.{◌≡◌, ◌∙◌, ap, sym, refl, Some, Option, ℕ, Bool}
use Rattle.cad_syntax.specs.Types.{PureType}
use Rattle.cad_grammar.specs.Trees.{ExprTree, ArgumentTree, EntryTree, whole}
use Rattle.cad_grammar.specs.Views.{expr_of, expr_step, argument_step, entry_step}
use Rattle.cad_grammar.specs.declared.expression.Expr.{Expr-F, fold-roll-Expr}
use Rattle.cad_grammar.specs.declared.expression.Expr.TheVariants.{rolls-Whole}
use Rattle.cad_typing.specs.Environments.{Environment, Position}
use Rattle.cad_typing.specs.Literals.{whole_literal}
use Rattle.cad_environment.specs.Views.{environment_of, position_of}
use Rattle.cad_infer_parts.specs.Code.Steps.{alone_form}
use Rattle.cad_infer_parts.specs.Views.{expected_of}
use Rattle.cad_infer_parts.proofs.leaf.alone.Goals as goal

whole_alone : (env : Environment) (position : Position) (expected : Option PureType) (n : ℕ) (h : Bool) → alone_form env position expected (whole n h) ≡ Some (whole_literal expected n h)
unfolding alone_form
whole_alone env position expected n h = refl

pub returns-in-Whole : goal.returns-in-Whole
returns-in-Whole c =
    let n = c.in-Whole.value in
    let h = c.in-Whole.hexadecimal in
    let env = environment_of c.args.env in
    let position = position_of c.args.position in
    let expected = expected_of c.args.expected in
    let tree : expr_of c.args.e.now ≡ whole n h =
    ap expr_of (c.in-Whole.is ∙ sym (rolls-Whole n h)) ∙ fold-roll-Expr ExprTree ArgumentTree EntryTree expr_step argument_step entry_step (Expr-F.Whole n h) in
    ap Some c.whole_literal.ensures ∙ sym (whole_alone env position expected n h) ∙ ap (alone_form env position expected) (sym tree)
