use Rattle.std.proofs.Common.{◌≡◌, IfOk, Some, subst, sym}
use Rattle.cad_grammar.specs.declared.expression.BinaryOperator.{BinaryOperator}
use Rattle.cad_evaluation.specs.Operators.{less, same}
use Rattle.cad_rows.specs.Views.{pure_tree}
use Rattle.cad_operators.specs.Answers.{comparison}
use Rattle.cad_operators.proofs.operators.compare.Goals as goal

pub returns-in-LessOrEqual : goal.returns-in-LessOrEqual
returns-in-LessOrEqual c =
    let a = pure_tree c.args.a.now in
    let b = pure_tree c.args.b.now in
    subst (λ (op : BinaryOperator). IfOk c.denial.result (λ o. o ≡ comparison op a b)) (sym c.in-LessOrEqual.is)
    (c.denial.ensures (less b a) c.less-in-LessOrEqual.ensures)

pub returns-in-GreaterOrEqual : goal.returns-in-GreaterOrEqual
returns-in-GreaterOrEqual c =
    let a = pure_tree c.args.a.now in
    let b = pure_tree c.args.b.now in
    subst (λ (op : BinaryOperator). IfOk c.denial-in-GreaterOrEqual.result (λ o. o ≡ comparison op a b)) (sym c.in-GreaterOrEqual.is)
    (c.denial-in-GreaterOrEqual.ensures (less a b) c.less-in-GreaterOrEqual.ensures)

pub returns-in-NotEqual : goal.returns-in-NotEqual
returns-in-NotEqual c =
    let a = pure_tree c.args.a.now in
    let b = pure_tree c.args.b.now in
    subst (λ (op : BinaryOperator). IfOk c.denial-in-NotEqual.result (λ o. o ≡ comparison op a b)) (sym c.in-NotEqual.is)
    (c.denial-in-NotEqual.ensures (Some (same a b)) (c.certain-in-NotEqual.ensures (same a b) c.same-in-NotEqual.ensures))
