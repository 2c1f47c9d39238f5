use Rattle.std.proofs.Common.{rules}
use mir.Syntax.{w128}
use mir.Val.{SFits}
use Rattle.cad_num.specs.Numbers.{value_of}
use Rattle.cad_text_operators.proofs.Cuts.{cut_passed}
use Rattle.cad_text_operators.proofs.slices.cut.Goals as goal

pub returns-in-Some-place_in : goal.returns-in-Some-place_in
returns-in-Some-place_in c =
    let f : SFits w128 c.in-Some.from = search rules in
    let g : SFits w128 c.in-Some-place_in.up_to = search rules in
    cut_passed c.args.text.now c.in-Some.from c.in-Some-place_in.up_to (value_of c.args.x) (value_of c.args.y) c.between.result f g c.in-Some.ensures c.in-Some-place_in.ensures c.between.ensures
