use Rattle.cad_capabilities.specs.Views.{id_of}
use Rattle.cad_evaluation.specs.Capabilities.{controller_in_value}
use Rattle.cad_evaluation.specs.Texts.{in_tree}
use Rattle.cad_receivers.specs.Views.{settled_of}
use Rattle.cad_rows.specs.Views.{pure_row, pure_tree}
use Rattle.cad_services.proofs.ControllerLaws.{no_controller}
use Rattle.cad_services.proofs.Telling.{told_stops, told_then}
use Rattle.cad_services.specs.Code.Services.{controller_member}
use Rattle.cad_state.proofs.Finding.{find_any}
use Rattle.cad_world.specs.Receivers.{look_at}
use Rattle.cad_services.proofs.controllers.controller_member.Goals as goal

pub returns-in-Ok : goal.returns-in-Ok
returns-in-Ok c = told_then id_of pure_tree (look_at (settled_of c.args.receiver)) (λ spot. in_tree controller_in_value spot.tree) (controller_member c.args.member (pure_row c.args.row.now)) c.in-Ok.id c.args.state.now c.member_of.new.state c.member_of.result c.in-Ok.ensures
    (λ spot is. find_any pure_tree (controller_member c.args.member (pure_row c.args.row.now) spot) c.args.state.now c.member_of.new.state c.member_of.result (c.member_of.ensures spot is))

pub returns-in-Err : goal.returns-in-Err
returns-in-Err c = told_stops id_of pure_tree (look_at (settled_of c.args.receiver)) (λ spot. in_tree controller_in_value spot.tree) (controller_member c.args.member (pure_row c.args.row.now)) c.args.state.now c.args.state.now c.in-Err.stop c.in-Err.ensures
    (λ spot s is. no_controller c.args.member (pure_row c.args.row.now) spot s is)
