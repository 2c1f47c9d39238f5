use Rattle.cad_evaluation.specs.Arguments.{argument}
use Rattle.cad_evaluation.specs.Containers as spec
use Rattle.cad_rows.specs.Views.{pure_row, pure_tree}
use Rattle.cad_syntax.specs.Types.{pure_type}
use Rattle.cad_containers.specs.Code.Changes.{IsArray}
use Rattle.cad_containers.proofs.Changing.{with_this_then}
use Rattle.cad_containers.proofs.concat.concat_arguments.Goals as goal

pub returns-in-Some : goal.returns-in-Some
returns-in-Some c =
    let type = pure_type c.args.aim.element in
    with_this_then c.args.aim.label (IsArray type c.args.aim.count) (argument 0 (pure_row c.args.arguments.items)) (pure_tree c.in-Some.other) (λ t f. spec.array_concat type f.tree.parts t)
    c.args.state.now c.concat_at.new.state c.concat_at.result c.in-Some.ensures c.concat_at.ensures
