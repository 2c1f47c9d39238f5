use Rattle.cad_evaluation.specs.Containers as spec
use Rattle.cad_rows.specs.Views.{pure_row}
use Rattle.cad_syntax.specs.Types.{pure_type}
use Rattle.cad_world.specs.Rows as rows
use Rattle.cad_containers.specs.Code.Changes.{IsArray}
use Rattle.cad_containers.proofs.Changing.{found_then, found_stops}
use Rattle.cad_containers.proofs.concat.joined_at.Goals as goal

pub returns-in-Ok : goal.returns-in-Ok
returns-in-Ok c = λ n.
    let type = pure_type c.args.element.now in
    found_then c.args.label (IsArray type n) (λ f. (λ (parts : rows.Row). spec.array_copy type (rows.join parts (pure_row c.args.more.now))) f.tree.parts) c.args.state.now c.find.new.state c.find.new.state c.in-Ok.field-0 c.joined_found.result c.in-Ok.ensures (c.joined_found.ensures n)

pub returns-in-Err : goal.returns-in-Err
returns-in-Err c = λ n.
    let type = pure_type c.args.element.now in
    found_stops c.args.label (IsArray type n) (λ f. (λ (parts : rows.Row). spec.array_copy type (rows.join parts (pure_row c.args.more.now))) f.tree.parts) c.args.state.now c.find.new.state c.find.new.state c.in-Err.stop c.in-Err.ensures
