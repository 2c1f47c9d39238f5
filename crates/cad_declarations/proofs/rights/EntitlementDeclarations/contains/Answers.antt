use Rattle.std.proofs.Common.{List, ap, sym, ◌∙◌}
use Rattle.cad_syntax.specs.TypeIds.{has}
use Rattle.cad_syntax.specs.declared.type_id.TypeId.{TypeId}
use Rattle.cad_declarations.proofs.Found.{has_there, has_nowhere}
use Rattle.cad_declarations.proofs.rights.EntitlementDeclarations.contains.Goals as goal

pub returns-in-Some : goal.returns-in-Some
returns-in-Some c =
    let ids = c.self.inside.all in
    let id = c.args.id.now in
    sym (has_there ids id _ (sym (c.self.invariant id) ∙ sym c.in-Some.ensures.value))
    ∙ ap (λ (all : List TypeId). has all id) c.self.view_is

pub returns-in-None : goal.returns-in-None
returns-in-None c =
    let ids = c.self.inside.all in
    let id = c.args.id.now in
    sym (has_nowhere ids id (sym (c.self.invariant id) ∙ sym c.in-None.ensures.value))
    ∙ ap (λ (all : List TypeId). has all id) c.self.view_is
