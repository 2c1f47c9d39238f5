use Rattle.std.proofs.Common.{Bool, ◌||◌, ap, sym, ◌∙◌}
use Rattle.std.specs.List.{list_any}
use Rattle.cad_syntax.specs.TypeIds.{has}
use Rattle.cad_types.specs.Declarations.{interfaces_of}
use Rattle.cad_types.specs.Views.{declarations}
use Rattle.cad_types.proofs.Turns.{interface_by}
use Rattle.cad_types.proofs.subtype.has_interface.Goals as goal

pub returns-then-contains : goal.returns-then-contains
returns-then-contains c =
    let k = declarations c.args.declared_types.now in
    let ids = c.args.ids.now in
    let id = c.args.id.now in
    let later = list_any (λ i. has (interfaces_of k i) id) ids in
    c.if-contains.true ∙ sym (interface_by k ids id ∙ ap (λ (b : Bool). b || later) (sym c.contains.ensures.value ∙ c.if-contains.true))

pub returns-else-contains : goal.returns-else-contains
returns-else-contains c =
    let k = declarations c.args.declared_types.now in
    let ids = c.args.ids.now in
    let id = c.args.id.now in
    let later = list_any (λ i. has (interfaces_of k i) id) ids in
    c.some_has_interface.ensures ∙ sym (interface_by k ids id ∙ ap (λ (b : Bool). b || later) (sym c.contains.ensures.value ∙ c.if-contains.false))
