use Rattle.std.proofs.Common.{ap, sym, ◌∙◌}
use Rattle.cad_evaluation.specs.Numbers as numbers
use Rattle.cad_num.specs.Numbers.{valued}
use Rattle.cad_operators.proofs.Kept.{guarded_number}
use Rattle.cad_operators.proofs.pairs.operated.Goals as goal

pub returns-then-is_same_kind : goal.returns-then-is_same_kind
returns-then-is_same_kind c =
    let k = c.args.x.kind in
    guarded_number (numbers.same_kind c.args.x c.args.y) _ (numbers.numbered k (valued c.calculated.result)) c.number_of.result
    (sym c.is_same_kind.ensures ∙ c.if-is_same_kind.true)
    (ap (numbers.numbered k) c.calculated.ensures.value) (c.number_of.ensures k c.calculated.ensures.kind)
