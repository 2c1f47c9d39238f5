use Rattle.std.proofs.Common.{List, slice_get, option_map, ap, sym, ◌∙◌}
use Rattle.cad_types.specs.Declarations.{declaration_of}
use Rattle.cad_types.specs.declared.declared.Declared.{Declared}
use Rattle.cad_types.proofs.Placed.{first_there, first_nowhere, found_first, got, seen}
use Rattle.cad_types.proofs.table.TypeTable.find.Goals as goal

pub returns-in-Some : goal.returns-in-Some
returns-in-Some c =
    let table = c.args.self.now in
    let ds = table.declared.items in
    let id = c.args.id.now in
    let read = c.get-in-Some.ensures.lookup in
    let there = first_there (λ d. d.id) ds id c.in-Some.place.now (sym (table.placed id) ∙ sym c.in-Some.ensures.value) in
    seen declaration_of _ _ (got _ _ _ read.1 read.3)
    ∙ ap (λ (xs : List Declared). option_map declaration_of (slice_get xs c.in-Some.place.now)) c.deref.ensures.value
    ∙ sym (found_first ds id ∙ ap (option_map declaration_of) there)

pub returns-in-None : goal.returns-in-None
returns-in-None c =
    let table = c.args.self.now in
    let ds = table.declared.items in
    let id = c.args.id.now in
    sym (found_first ds id ∙ ap (option_map declaration_of) (first_nowhere (λ d. d.id) ds id (sym (table.placed id) ∙ sym c.in-None.ensures.value)))
