use Rattle.std.proofs.Common.{◌+◌, List, subst}
use Rattle.std.specs.Prelude.{Ok, Err}
use Rattle.cad_rows.specs.declared.tree.Place.{Place}
use Rattle.cad_evaluation.specs.Containers as spec
use Rattle.cad_outcomes.specs.Outcomes.{no_value}
use Rattle.cad_rows.specs.Views.{pure_row}
use Rattle.cad_state.specs.Views.{FindsAndCarriesOut}
use Rattle.cad_syntax.specs.Types.{pure_type}
use Rattle.cad_world.specs.Rows as rows
use Rattle.cad_world.specs.State.{done}
use Rattle.cad_containers.specs.Code.Changes.{IsArray}
use Rattle.cad_containers.proofs.Changing.{test_then, test_refuses, told_row}
use Rattle.cad_containers.proofs.array_changes.join_typed.Goals as goal

pub returns-in-Ok : goal.returns-in-Ok
returns-in-Ok c =
    let type = pure_type c.args.element.now in
    test_then c.args.label (IsArray type c.args.count) (spec.all_of_type type (pure_row c.args.row.items) done) (λ f. spec.all_of_type type (pure_row c.args.row.items) ((λ (parts : rows.Row). spec.room (rows.count_places parts + rows.count_places (pure_row c.args.row.items)) (spec.becomes c.args.label (rows.array type) (rows.join parts (pure_row c.args.row.items)))) f.tree.parts)) (λ f. (λ (parts : rows.Row). spec.room (rows.count_places parts + rows.count_places (pure_row c.args.row.items)) (spec.becomes c.args.label (rows.array type) (rows.join parts (pure_row c.args.row.items)))) f.tree.parts)
    c.args.state.now c.check_row.new.state c.join_at.new.state c.in-Ok.field-0 c.join_at.result (λ f s. told_row type (pure_row c.args.row.items) ((λ (parts : rows.Row). spec.room (rows.count_places parts + rows.count_places (pure_row c.args.row.items)) (spec.becomes c.args.label (rows.array type) (rows.join parts (pure_row c.args.row.items)))) f.tree.parts) s) (subst (λ (ps : List Place). FindsAndCarriesOut no_value (spec.all_of_type type (pure_row ps) done) c.args.state.now c.check_row.new.state (Ok c.in-Ok.field-0)) c.as_slice.ensures.value c.in-Ok.ensures) (c.join_at.ensures type)

pub returns-in-Err : goal.returns-in-Err
returns-in-Err c =
    let type = pure_type c.args.element.now in
    test_refuses c.args.label (IsArray type c.args.count) (spec.all_of_type type (pure_row c.args.row.items) done) (λ f. spec.all_of_type type (pure_row c.args.row.items) ((λ (parts : rows.Row). spec.room (rows.count_places parts + rows.count_places (pure_row c.args.row.items)) (spec.becomes c.args.label (rows.array type) (rows.join parts (pure_row c.args.row.items)))) f.tree.parts)) (λ f. (λ (parts : rows.Row). spec.room (rows.count_places parts + rows.count_places (pure_row c.args.row.items)) (spec.becomes c.args.label (rows.array type) (rows.join parts (pure_row c.args.row.items)))) f.tree.parts)
    c.args.state.now c.check_row.new.state c.check_row.new.state c.in-Err.stop (λ f s. told_row type (pure_row c.args.row.items) ((λ (parts : rows.Row). spec.room (rows.count_places parts + rows.count_places (pure_row c.args.row.items)) (spec.becomes c.args.label (rows.array type) (rows.join parts (pure_row c.args.row.items)))) f.tree.parts) s) (subst (λ (ps : List Place). FindsAndCarriesOut {B = Unit {0}} no_value (spec.all_of_type type (pure_row ps) done) c.args.state.now c.check_row.new.state (Err c.in-Err.stop)) c.as_slice.ensures.value c.in-Err.ensures)
