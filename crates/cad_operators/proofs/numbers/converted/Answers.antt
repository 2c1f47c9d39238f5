use Rattle.std.specs.Prelude.{int_div, ◌*ℤ◌, pos}
use Rattle.std.proofs.Common.{ap}
use Rattle.cad_evaluation.specs.Numbers as numbers
use Rattle.cad_num.specs.Numbers.{outcome, scale, value_of}
use Rattle.cad_rows.specs.Views.{pure_tree}
use Rattle.cad_operators.proofs.Kept.{with_this}
use Rattle.cad_operators.proofs.numbers.converted.Goals as goal

pub returns-in-Some : goal.returns-in-Some
returns-in-Some c =
    let k = c.args.kind in
    with_this pure_tree (λ x. numbers.numbered k (outcome k (int_div (value_of x *ℤ pos (scale k)) (pos (scale x.kind)))))
    (numbers.number_in (pure_tree c.args.a.now)) c.in-Some.x _ c.numbered.result c.in-Some.ensures
    (ap (numbers.numbered k) c.convert.ensures.value) (c.numbered.ensures k c.convert.ensures.kind)
