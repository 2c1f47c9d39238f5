use Rattle.std.proofs.Common.{List, slice_get, option_map, ap, sym, ◌∙◌}
use Rattle.cad_types.proofs.Placed.{first_there, first_nowhere, got, seen}
use Rattle.cad_shapes.specs.Views.{pure_shape}
use Rattle.cad_shapes.specs.declared.shape.Shape.{Shape}
use Rattle.cad_shapes.proofs.Found.{found_first}
use Rattle.cad_shapes.proofs.shapes.DeclaredShapes.find.Goals as goal

pub returns-in-Some : goal.returns-in-Some
returns-in-Some c =
    let table = c.args.self.now in
    let ss = table.shapes.items in
    let id = c.args.id.now in
    let read = c.get-in-Some.ensures.lookup in
    let there = first_there (λ s. s.id) ss id c.in-Some.place.now (sym (table.placed id) ∙ sym c.in-Some.ensures.value) in
    seen pure_shape _ _ (got _ _ _ read.1 read.3)
    ∙ ap (λ (xs : List Shape). option_map pure_shape (slice_get xs c.in-Some.place.now)) c.deref.ensures.value
    ∙ sym (found_first ss id ∙ ap (option_map pure_shape) there)

pub returns-in-None : goal.returns-in-None
returns-in-None c =
    let table = c.args.self.now in
    let ss = table.shapes.items in
    let id = c.args.id.now in
    sym (found_first ss id ∙ ap (option_map pure_shape) (first_nowhere (λ s. s.id) ss id (sym (table.placed id) ∙ sym c.in-None.ensures.value)))
