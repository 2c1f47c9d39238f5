use Rattle.std.specs.Prelude.{neg_ℤ}
use Rattle.std.proofs.Common.{ap}
use Rattle.cad_evaluation.specs.Numbers as numbers
use Rattle.cad_num.specs.Numbers.{outcome, value_of}
use Rattle.cad_rows.specs.Views.{pure_tree}
use Rattle.cad_operators.proofs.Kept.{with_this}
use Rattle.cad_operators.proofs.numbers.negated.Goals as goal

pub returns-in-Some : goal.returns-in-Some
returns-in-Some c =
    let k = c.in-Some.x.kind in
    with_this pure_tree (λ x. numbers.numbered x.kind (outcome x.kind (neg_ℤ (value_of x))))
    (numbers.number_in (pure_tree c.args.a.now)) c.in-Some.x _ c.numbered.result c.in-Some.ensures
    (ap (numbers.numbered k) c.neg.ensures.value) (c.numbered.ensures k c.neg.ensures.kind)
