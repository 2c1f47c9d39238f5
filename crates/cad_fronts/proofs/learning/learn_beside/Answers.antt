use Rattle.std.specs.Prelude.{map}
use Rattle.cad_fronts.specs.Views.{known_of}
use Rattle.cad_fronts.proofs.Right.{stays_right, stays_said, said_now}
use Rattle.cad_loads.specs.Views.{source_of}
use Rattle.cad_fronts.proofs.learning.learn_beside.Goals as goal

pub returns-in-Ok : goal.returns-in-Ok
returns-in-Ok c = record {
  right = stays_right _ _ (known_of c.in-Ok.new) c.push_verdict.result c.in-Ok.ensures.so c.push_verdict.ensures.added c.push_verdict.ensures.stays;
  keeps = stays_said _ _ (known_of c.in-Ok.new) c.push_verdict.result c.push_verdict.ensures.added c.push_verdict.ensures.stays;
  knows = said_now _ _ (known_of c.in-Ok.new) c.push_verdict.result (map source_of c.args.sources.items) c.args.question.address c.args.question.code c.in-Ok.ensures.on c.push_verdict.ensures.added;
}
