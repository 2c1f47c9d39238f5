use Rattle.std.specs.Prelude.{List, map}
use Rattle.std.proofs.Common.{sym, subst}
use Rattle.cad_loads.specs.Fronts.{IsRight}
use Rattle.cad_fronts.specs.Views.{known_of, said_by}
use Rattle.cad_fronts.specs.declared.codes.Verdict.{Verdict}
use Rattle.cad_fronts.proofs.Right.{none_right}
use Rattle.cad_fronts.proofs.codes.no_verdicts.Goals as goal

pub returns : goal.returns
returns c = subst (λ (all : List Verdict). IsRight (said_by (map known_of all))) (sym c.new.ensures.items) none_right
