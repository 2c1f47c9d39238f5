use Rattle.std.proofs.Common.{◌∙◌, ap}
use Rattle.std.specs.Prelude.{false}
use Rattle.cad_evaluation.specs.Numbers.{number_of}
use Rattle.cad_making.proofs.Numbered.{made}
use Rattle.cad_making.proofs.cases.number_of.Goals as goal

pub returns : goal.returns
returns c = made c.args.kind c.from.result c.new.result c.new.ensures.some c.new.ensures.kind c.new.ensures.negative c.new.ensures.magnitude ∙ ap (number_of c.args.kind false) c.from.ensures
