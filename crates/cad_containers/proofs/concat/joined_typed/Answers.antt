use Rattle.std.proofs.Common.{◌+◌}
use Rattle.cad_evaluation.specs.Containers as spec
use Rattle.cad_rows.specs.Views.{pure_row}
use Rattle.cad_syntax.specs.Types.{pure_type}
use Rattle.cad_world.specs.Rows as rows
use Rattle.cad_world.specs.State.{done}
use Rattle.cad_containers.specs.Code.Changes.{IsArray}
use Rattle.cad_containers.proofs.Changing.{test_then, test_refuses, told_row}
use Rattle.cad_containers.proofs.concat.joined_typed.Goals as goal

pub returns-in-Ok : goal.returns-in-Ok
returns-in-Ok c =
    let type = pure_type c.args.element.now in
    test_then c.args.label (IsArray type c.args.count) (spec.all_of_type type (pure_row c.args.more.now) done) (λ f. spec.all_of_type type (pure_row c.args.more.now) ((λ (parts : rows.Row). spec.room (rows.count_places parts + rows.count_places (pure_row c.args.more.now)) (spec.array_copy type (rows.join parts (pure_row c.args.more.now)))) f.tree.parts)) (λ f. (λ (parts : rows.Row). spec.room (rows.count_places parts + rows.count_places (pure_row c.args.more.now)) (spec.array_copy type (rows.join parts (pure_row c.args.more.now)))) f.tree.parts)
    c.args.state.now c.check_row.new.state c.joined_with_room.new.state c.in-Ok.field-0 c.joined_with_room.result (λ f s. told_row type (pure_row c.args.more.now) ((λ (parts : rows.Row). spec.room (rows.count_places parts + rows.count_places (pure_row c.args.more.now)) (spec.array_copy type (rows.join parts (pure_row c.args.more.now)))) f.tree.parts) s) c.in-Ok.ensures c.joined_with_room.ensures

pub returns-in-Err : goal.returns-in-Err
returns-in-Err c =
    let type = pure_type c.args.element.now in
    test_refuses c.args.label (IsArray type c.args.count) (spec.all_of_type type (pure_row c.args.more.now) done) (λ f. spec.all_of_type type (pure_row c.args.more.now) ((λ (parts : rows.Row). spec.room (rows.count_places parts + rows.count_places (pure_row c.args.more.now)) (spec.array_copy type (rows.join parts (pure_row c.args.more.now)))) f.tree.parts)) (λ f. (λ (parts : rows.Row). spec.room (rows.count_places parts + rows.count_places (pure_row c.args.more.now)) (spec.array_copy type (rows.join parts (pure_row c.args.more.now)))) f.tree.parts)
    c.args.state.now c.check_row.new.state c.check_row.new.state c.in-Err.stop (λ f s. told_row type (pure_row c.args.more.now) ((λ (parts : rows.Row). spec.room (rows.count_places parts + rows.count_places (pure_row c.args.more.now)) (spec.array_copy type (rows.join parts (pure_row c.args.more.now)))) f.tree.parts) s) c.in-Err.ensures
