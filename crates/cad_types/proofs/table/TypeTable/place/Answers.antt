use Rattle.std.proofs.Common.{◌∙◌}
use Rattle.cad_types.proofs.Placed.{one_place}
use Rattle.cad_types.proofs.table.TypeTable.place.Goals as goal

pub returns-in-Some : goal.returns-in-Some
returns-in-Some c =
    let table = c.args.self.now in
    let id = c.args.id.now in
    c.in-Some.ensures.value ∙ table.placed id ∙ one_place table.declared.items id

pub returns-in-None : goal.returns-in-None
returns-in-None c =
    let table = c.args.self.now in
    let id = c.args.id.now in
    c.in-None.ensures.value ∙ table.placed id ∙ one_place table.declared.items id
