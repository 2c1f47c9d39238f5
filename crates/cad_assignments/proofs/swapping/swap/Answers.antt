use Rattle.std.proofs.Common.{sym, subst}
use Rattle.cad_evaluation.specs.Changing.{both_swapped}
use Rattle.cad_labels.specs.Laws.{AnyOne}
use Rattle.cad_outcomes.specs.Outcomes.{no_value}
use Rattle.cad_state.specs.Views.{FindsAndCarriesOut}
use Rattle.cad_state.proofs.Finding.{find_then, find_stopped}
use Rattle.cad_syntax.specs.Types.{pure_type}
use Rattle.cad_world.specs.Locations.{read as what_stands}
use Rattle.cad_world.specs.State.{◌>>◌, done, choose}
use Rattle.cad_assignments.specs.Code.Changes.{same_asked}
use Rattle.cad_locations.specs.Views.{location_of}
use Rattle.cad_assignments.proofs.Swaps.{same_keeps}
use Rattle.cad_assignments.proofs.swapping.swap.Goals as goal

pub returns-in-Ok-true : goal.returns-in-Ok-true
returns-in-Ok-true c =
    let x = location_of c.args.first.now in
    let y = location_of c.args.second.now in
    let xtype = pure_type c.args.first_type.now in
    let ytype = pure_type c.args.second_type.now in
    find_then AnyOne (same_asked x y) (same_keeps x y) (λ b. b) no_value (λ b. choose b (what_stands x >> done) (both_swapped x xtype y ytype)) c.in-Ok-true.field-0 c.args.state.now c.are_same.new.state c.read_only.new.state c.read_only.result c.in-Ok-true.ensures
    (λ _. subst (λ b. FindsAndCarriesOut no_value (choose b (what_stands x >> done) (both_swapped x xtype y ytype)) c.are_same.new.state c.read_only.new.state c.read_only.result) (sym c.in-Ok-true.field-0-test) c.read_only.ensures)

pub returns-in-Ok-false : goal.returns-in-Ok-false
returns-in-Ok-false c =
    let x = location_of c.args.first.now in
    let y = location_of c.args.second.now in
    let xtype = pure_type c.args.first_type.now in
    let ytype = pure_type c.args.second_type.now in
    find_then AnyOne (same_asked x y) (same_keeps x y) (λ b. b) no_value (λ b. choose b (what_stands x >> done) (both_swapped x xtype y ytype)) c.in-Ok-false.field-0 c.args.state.now c.are_same.new.state c.swap_both.new.state c.swap_both.result c.in-Ok-false.ensures
    (λ _. subst (λ b. FindsAndCarriesOut no_value (choose b (what_stands x >> done) (both_swapped x xtype y ytype)) c.are_same.new.state c.swap_both.new.state c.swap_both.result) (sym c.in-Ok-false.field-0-test) c.swap_both.ensures)

pub returns-in-Err : goal.returns-in-Err
returns-in-Err c =
    let x = location_of c.args.first.now in
    let y = location_of c.args.second.now in
    let xtype = pure_type c.args.first_type.now in
    let ytype = pure_type c.args.second_type.now in
    find_stopped (λ b. b) no_value (same_asked x y) (λ b. choose b (what_stands x >> done) (both_swapped x xtype y ytype)) c.args.state.now c.are_same.new.state c.are_same.new.state c.in-Err.stop c.in-Err.ensures
