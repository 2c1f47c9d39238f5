use Rattle.std.proofs.Common.{subst, sym, ◌∙◌}
use Rattle.cad_evaluation.specs.Standing.{referred_to}
use Rattle.cad_locations.specs.Views.{location_of}
use Rattle.cad_rows.specs.Views.{pure_tree}
use Rattle.cad_state.specs.Views.{FindsAndCarriesOut}
use Rattle.cad_standing.specs.Views.{standing_of}
use Rattle.cad_standing.specs.declared.standing.Standing.{Standing}
use Rattle.cad_standing.proofs.ReferenceLaws.{owned_follows}
use Rattle.cad_standing.proofs.references.borrow.Goals as goal

pub returns-else-not-is_owned : goal.returns-else-not-is_owned
returns-else-not-is_owned c =
    subst (λ (p : Standing). FindsAndCarriesOut pure_tree (referred_to c.args.authorization.now c.args.one c.args.wraps (standing_of p)) c.args.state.now c.borrow_here-reference.new.state c.borrow_here-reference.result)
    (sym c.in-Here.is)
    (owned_follows pure_tree c.args.authorization.now c.args.one c.args.wraps c.in-Here.rights (location_of c.in-Here.location) c.in-Here.inside
    c.args.state.now c.borrow_here-reference.new.state c.borrow_here-reference.result (sym c.is_owned.ensures ∙ c.if-not-is_owned.false) c.borrow_here-reference.ensures)
