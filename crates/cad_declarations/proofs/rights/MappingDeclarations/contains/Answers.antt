use Rattle.std.proofs.Common.{List, map, ap, sym, ◌∙◌}
use Rattle.cad_syntax.specs.TypeIds.{has}
use Rattle.cad_declarations.specs.declared.tables.MappingDeclaration.{MappingDeclaration}
use Rattle.cad_declarations.proofs.Found.{has_there, has_nowhere}
use Rattle.cad_declarations.proofs.rights.MappingDeclarations.contains.Goals as goal

pub returns-in-Some : goal.returns-in-Some
returns-in-Some c =
    let ids = map (λ m. m.id) c.self.inside.all.items in
    let id = c.args.id.now in
    sym (has_there ids id _ (sym (c.self.invariant id) ∙ sym c.in-Some.ensures.value))
    ∙ ap (λ (all : List MappingDeclaration). has (map (λ m. m.id) all) id) c.self.view_is

pub returns-in-None : goal.returns-in-None
returns-in-None c =
    let ids = map (λ m. m.id) c.self.inside.all.items in
    let id = c.args.id.now in
    sym (has_nowhere ids id (sym (c.self.invariant id) ∙ sym c.in-None.ensures.value))
    ∙ ap (λ (all : List MappingDeclaration). has (map (λ m. m.id) all) id) c.self.view_is
