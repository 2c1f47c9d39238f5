use Rattle.std.proofs.Common.{sym, ◌∙◌}
use Rattle.cad_receivers.specs.Views.{spot_of}
use Rattle.cad_rows.specs.Views.{pure_tree}
use Rattle.cad_standing.specs.Views.{standing_of}
use Rattle.cad_standing.proofs.ElementLaws.{of_spot}
use Rattle.cad_standing.proofs.elements.element_of_spot.Goals as goal

pub returns-in-Some : goal.returns-in-Some
returns-in-Some c =
    of_spot standing_of c.args.writes (pure_tree c.args.index.now) (spot_of c.args.spot) c.in-Some.label c.element_in.result
    (sym c.may_replace.ensures ∙ c.if-not-may_replace.false) c.if-spot-ne0.false c.in-Some.is c.element_in.ensures
