use Rattle.std.proofs.Common.{List, map, option_map, slice_get, ap, sym, ◌∙◌}
use Rattle.cad_types.proofs.Placed.{first_there, first_nowhere, got, seen}
use Rattle.cad_declarations.specs.Members.{type_in}
use Rattle.cad_declarations.specs.MemberViews.{type_entry_of}
use Rattle.cad_declarations.specs.declared.tables.TypeDeclaration.{TypeDeclaration}
use Rattle.cad_declarations.proofs.Found.{type_first}
use Rattle.cad_declarations.proofs.type_declarations.TypeDeclarations.find.Goals as goal

pub returns-in-Some : goal.returns-in-Some
returns-in-Some c =
    let types = c.self.inside.all.items in
    let id = c.args.id.now in
    let place = c.in-Some.place.now in
    let read = c.get-in-Some.ensures.lookup in
    let there = first_there (λ t. t.id) types id place (sym (c.self.invariant id) ∙ sym c.in-Some.ensures.value) in
    seen type_entry_of _ _ (got _ _ _ read.1 read.3)
    ∙ ap (λ (all : List TypeDeclaration). option_map type_entry_of (slice_get all place)) c.deref.ensures.value
    ∙ sym (type_first types id ∙ ap (option_map type_entry_of) there)
    ∙ ap (λ (all : List TypeDeclaration). type_in (map type_entry_of all) id) c.self.view_is

pub returns-in-None : goal.returns-in-None
returns-in-None c =
    let types = c.self.inside.all.items in
    let id = c.args.id.now in
    let nowhere = first_nowhere (λ t. t.id) types id (sym (c.self.invariant id) ∙ sym c.in-None.ensures.value) in
    sym (type_first types id ∙ ap (option_map type_entry_of) nowhere) ∙ ap (λ (all : List TypeDeclaration). type_in (map type_entry_of all) id) c.self.view_is
