use Rattle.std.proofs.Common.{◌+◌}
use Rattle.cad_evaluation.specs.Containers as spec
use Rattle.cad_rows.specs.Views.{pure_row, pure_tree}
use Rattle.cad_syntax.specs.Types.{pure_type}
use Rattle.cad_world.specs.Rows as rows
use Rattle.cad_containers.specs.Code.Changes.{IsArray}
use Rattle.cad_containers.proofs.Changing.{with_this_then}
use Rattle.cad_containers.proofs.concat.concat.Goals as goal

pub returns-in-Some : goal.returns-in-Some
returns-in-Some c =
    let type = pure_type c.args.element.now in
    with_this_then c.args.label (IsArray type c.args.count) (spec.elements_in (pure_tree c.args.other.now)) (pure_row c.in-Some.more.now)
    (λ q f. spec.all_of_type type q (spec.room (rows.count_places f.tree.parts + rows.count_places q) (spec.array_copy type (rows.join f.tree.parts q))))
    c.args.state.now c.joined_typed.new.state c.joined_typed.result c.in-Some.ensures c.joined_typed.ensures
