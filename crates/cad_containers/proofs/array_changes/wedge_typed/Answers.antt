use Rattle.std.proofs.Common.{suc}
use Rattle.cad_evaluation.specs.Containers as spec
use Rattle.cad_rows.specs.Views.{pure_tree}
use Rattle.cad_syntax.specs.Types.{pure_type}
use Rattle.cad_world.specs.Rows as rows
use Rattle.cad_world.specs.State.{done}
use Rattle.cad_containers.specs.Code.Changes.{IsArray}
use Rattle.cad_containers.proofs.Changing.{test_then, test_refuses, told_type}
use Rattle.cad_containers.proofs.array_changes.wedge_typed.Goals as goal

pub returns-in-Ok : goal.returns-in-Ok
returns-in-Ok c =
    let type = pure_type c.args.element.now in
    test_then c.args.label (IsArray type c.args.count) (spec.of_type type (pure_tree c.args.tree) done) (λ f. spec.of_type type (pure_tree c.args.tree) ((λ (parts : rows.Row). spec.room (suc (rows.count_places parts)) (spec.becomes c.args.label (rows.array type) (rows.wedge c.args.i (pure_tree c.args.tree) parts))) f.tree.parts)) (λ f. (λ (parts : rows.Row). spec.room (suc (rows.count_places parts)) (spec.becomes c.args.label (rows.array type) (rows.wedge c.args.i (pure_tree c.args.tree) parts))) f.tree.parts)
    c.args.state.now c.check_type.new.state c.wedge_at.new.state c.in-Ok.field-0 c.wedge_at.result (λ f s. told_type type (pure_tree c.args.tree) ((λ (parts : rows.Row). spec.room (suc (rows.count_places parts)) (spec.becomes c.args.label (rows.array type) (rows.wedge c.args.i (pure_tree c.args.tree) parts))) f.tree.parts) s) c.in-Ok.ensures (c.wedge_at.ensures type)

pub returns-in-Err : goal.returns-in-Err
returns-in-Err c =
    let type = pure_type c.args.element.now in
    test_refuses c.args.label (IsArray type c.args.count) (spec.of_type type (pure_tree c.args.tree) done) (λ f. spec.of_type type (pure_tree c.args.tree) ((λ (parts : rows.Row). spec.room (suc (rows.count_places parts)) (spec.becomes c.args.label (rows.array type) (rows.wedge c.args.i (pure_tree c.args.tree) parts))) f.tree.parts)) (λ f. (λ (parts : rows.Row). spec.room (suc (rows.count_places parts)) (spec.becomes c.args.label (rows.array type) (rows.wedge c.args.i (pure_tree c.args.tree) parts))) f.tree.parts)
    c.args.state.now c.check_type.new.state c.check_type.new.state c.in-Err.stop (λ f s. told_type type (pure_tree c.args.tree) ((λ (parts : rows.Row). spec.room (suc (rows.count_places parts)) (spec.becomes c.args.label (rows.array type) (rows.wedge c.args.i (pure_tree c.args.tree) parts))) f.tree.parts) s) c.in-Err.ensures
