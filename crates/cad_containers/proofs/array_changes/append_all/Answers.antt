use Rattle.std.proofs.Common.{◌+◌}
use Rattle.cad_evaluation.specs.Containers as spec
use Rattle.cad_rows.specs.Views.{pure_row, pure_tree}
use Rattle.cad_syntax.specs.Types.{pure_type}
use Rattle.cad_world.specs.Rows as rows
use Rattle.cad_containers.specs.Code.Changes.{IsArray}
use Rattle.cad_containers.proofs.Changing.{elements_then, no_elements}
use Rattle.cad_containers.proofs.array_changes.append_all.Goals as goal

pub returns-in-Ok : goal.returns-in-Ok
returns-in-Ok c =
    let type = pure_type c.args.element.now in
    elements_then c.args.label (IsArray type c.args.count) (spec.elements_in (pure_tree c.args.other)) (pure_row c.in-Ok.row.items)
    (λ q f. spec.all_of_type type q (spec.room (rows.count_places f.tree.parts + rows.count_places q) (spec.becomes c.args.label (rows.array type) (rows.join f.tree.parts q))))
    c.args.state.now c.join_typed.new.state c.join_typed.result c.in-Ok.ensures c.join_typed.ensures

pub returns-in-Err : goal.returns-in-Err
returns-in-Err c =
    let type = pure_type c.args.element.now in
    no_elements c.args.label (IsArray type c.args.count) (spec.elements_in (pure_tree c.args.other))
    (λ q f. spec.all_of_type type q (spec.room (rows.count_places f.tree.parts + rows.count_places q) (spec.becomes c.args.label (rows.array type) (rows.join f.tree.parts q))))
    c.args.state.now c.args.state.now c.in-Err.stop c.in-Err.ensures
