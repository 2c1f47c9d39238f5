use Rattle.std.proofs.Common.{List, slice_get, ap, sym, ◌∙◌}
use Rattle.cad_types.proofs.Placed.{first_there, first_nowhere}
use Rattle.cad_declarations.specs.Reached.{linked}
use Rattle.cad_declarations.specs.Code.Visits.{targets}
use Rattle.cad_declarations.specs.declared.link.Link.{Link}
use Rattle.cad_declarations.proofs.Found.{linked_first}
use Rattle.cad_declarations.proofs.link.Links.linked.Goals as goal

pub returns-in-Some : goal.returns-in-Some
returns-in-Some c =
    let links = c.self.inside.all.items in
    let id = c.args.id.now in
    let place = c.in-Some.place.now in
    let there = first_there (λ l. l.id) links id place (sym (c.self.invariant id) ∙ sym c.in-Some.ensures.value) in
    c.targets_at.ensures
    ∙ ap (λ (all : List Link). targets (slice_get all place)) c.as_slice.ensures.value
    ∙ ap targets (sym there)
    ∙ sym (linked_first links id)
    ∙ ap (λ (all : List Link). linked all id) c.self.view_is

pub returns-in-None : goal.returns-in-None
returns-in-None c =
    let links = c.self.inside.all.items in
    let id = c.args.id.now in
    let nowhere = first_nowhere (λ l. l.id) links id (sym (c.self.invariant id) ∙ sym c.in-None.ensures.value) in
    sym (linked_first links id ∙ ap targets nowhere) ∙ ap (λ (all : List Link). linked all id) c.self.view_is
