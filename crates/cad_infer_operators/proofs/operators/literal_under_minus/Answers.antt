use Rattle.std.proofs.Common.{◌≡◌, ◌∙◌, ap, sym, Some, option_map}
use Rattle.std.specs.Borrow.{Bor}
use Rattle.cad_syntax.specs.declared.types.CadType.{CadType}
use Rattle.cad_syntax.specs.Types.{pure_type}
use Rattle.cad_grammar.specs.Trees.{ExprTree, ArgumentTree, EntryTree, whole}
use Rattle.cad_grammar.specs.Views.{expr_of, expr_step, argument_step, entry_step}
use Rattle.cad_grammar.specs.declared.expression.Expr.{Expr-F, fold-roll-Expr}
use Rattle.cad_grammar.specs.declared.expression.Expr.TheVariants.{rolls-Whole}
use Rattle.cad_typing.specs.Operators.{literal_under_minus}
use Rattle.cad_infer_operators.proofs.operators.literal_under_minus.Goals as goal

pub returns-in-Whole : goal.returns-in-Whole
returns-in-Whole c =
    let n = c.in-Whole.value in
    let h = c.in-Whole.hexadecimal in
    let tree : expr_of c.args.a.now ≡ whole n h =
    ap expr_of (c.in-Whole.is ∙ sym (rolls-Whole n h)) ∙ fold-roll-Expr ExprTree ArgumentTree EntryTree expr_step argument_step entry_step (Expr-F.Whole n h) in
    ap Some c.signed_whole.ensures ∙ ap (literal_under_minus (option_map (λ (t : Bor CadType). pure_type t.now) c.args.expected)) (sym tree)
