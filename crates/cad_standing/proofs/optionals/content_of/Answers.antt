use Rattle.std.proofs.Common.{subst, sym}
use Rattle.cad_evaluation.specs.Standing.{content_at, onward}
use Rattle.cad_state.specs.Views.{FindsAndCarriesOut}
use Rattle.cad_standing.specs.Views.{standing_of}
use Rattle.cad_standing.specs.declared.standing.Standing.{Standing}
use Rattle.cad_standing.proofs.optionals.content_of.Goals as goal

pub returns-in-Here : goal.returns-in-Here
returns-in-Here c =
    subst (λ (p : Standing). FindsAndCarriesOut standing_of (onward (content_at c.args.forces) (standing_of p)) c.args.state.now c.content_here.new.state c.content_here.result) (sym c.in-Here.is) c.content_here.ensures
