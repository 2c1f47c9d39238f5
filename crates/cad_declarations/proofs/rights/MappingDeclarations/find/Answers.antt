use Rattle.std.proofs.Common.{List, map, option_map, slice_get, ap, sym, ◌∙◌}
use Rattle.cad_auth.specs.declared.mapping.Mapping.{Mapping}
use Rattle.cad_types.proofs.Placed.{first_there, first_nowhere, got, seen}
use Rattle.cad_declarations.specs.Members.{mapping_in_entries}
use Rattle.cad_declarations.specs.MemberViews.{mapping_entry_of}
use Rattle.cad_declarations.specs.declared.tables.MappingDeclaration.{MappingDeclaration}
use Rattle.cad_declarations.proofs.Found.{mapping_first}
use Rattle.cad_declarations.proofs.rights.MappingDeclarations.find.Goals as goal

pub returns-in-Some : goal.returns-in-Some
returns-in-Some c =
    let mappings = c.self.inside.all.items in
    let id = c.args.id.now in
    let place = c.in-Some.place.now in
    let read = c.get-in-Some.ensures.lookup in
    let there = first_there (λ m. m.id) mappings id place (sym (c.self.invariant id) ∙ sym c.in-Some.ensures.value) in
    seen {Y = Mapping} (λ m. m.mapping) _ _ (got _ _ _ read.1 read.3)
    ∙ ap (λ (all : List MappingDeclaration). option_map (λ m. m.mapping) (slice_get all place)) c.deref.ensures.value
    ∙ sym (mapping_first mappings id ∙ ap (option_map (λ m. m.mapping)) there)
    ∙ ap (λ (all : List MappingDeclaration). mapping_in_entries (map mapping_entry_of all) id) c.self.view_is

pub returns-in-None : goal.returns-in-None
returns-in-None c =
    let mappings = c.self.inside.all.items in
    let id = c.args.id.now in
    let nowhere = first_nowhere (λ m. m.id) mappings id (sym (c.self.invariant id) ∙ sym c.in-None.ensures.value) in
    sym (mapping_first mappings id ∙ ap (option_map (λ m. m.mapping)) nowhere) ∙ ap (λ (all : List MappingDeclaration). mapping_in_entries (map mapping_entry_of all) id) c.self.view_is
