use Rattle.std.proofs.Common.{sym, ◌∙◌}
use Rattle.cad_rows.specs.Views.{pure_tree}
use Rattle.cad_operators.specs.Answers.{comparison}
use Rattle.cad_operators.proofs.Charges.{answer_told, answer_calculated}
use Rattle.cad_operators.proofs.operators.binary.Goals as goal

pub returns-then-is_comparison : goal.returns-then-is_comparison
returns-then-is_comparison c =
    let a = pure_tree c.args.a.now in
    let b = pure_tree c.args.b.now in
    answer_told pure_tree c.args.operation a b c.found.result (sym c.is_comparison.ensures ∙ c.if-is_comparison.true)
    (c.found.ensures (comparison c.args.operation a b) c.compare.ensures)

pub returns : goal.returns
returns c =
    answer_calculated pure_tree c.args.operation c.calculation.result (pure_tree c.args.a.now) (pure_tree c.args.b.now) c.calculated.result
    (sym c.is_comparison.ensures ∙ c.if-is_comparison.false) c.calculation.ensures c.calculated.ensures
