use Rattle.cad_evaluation.specs.Containers as spec
use Rattle.cad_outcomes.proofs.Steps.{gives_here}
use Rattle.cad_rows.specs.Views.{pure_row, pure_tree}
use Rattle.cad_rows.specs.Ways.{pure_node}
use Rattle.cad_syntax.specs.Types.{pure_type}
use Rattle.cad_world.specs.Rows as rows
use Rattle.cad_containers.specs.Code.Changes.{IsArray}
use Rattle.cad_containers.proofs.Changing.{parts_given}
use Rattle.cad_containers.proofs.concat.joined_found.Goals as goal

pub returns-in-Some : goal.returns-in-Some
returns-in-Some c = λ n.
    let type = pure_type c.args.element.now in
    parts_given c.args.label (IsArray type n) (λ (parts : rows.Row). spec.array_copy type (rows.join parts (pure_row c.args.more.now))) (pure_row c.parts_of.result.now) (pure_node c.in-Some.node) c.args.state.now c.array_joined.result c.in-Some.ensures c.parts_of.ensures
    (λ s. gives_here pure_tree ((λ (parts : rows.Row). spec.array_copy type (rows.join parts (pure_row c.args.more.now))) (pure_row c.parts_of.result.now)) c.array_joined.result s c.array_joined.ensures)
