use Rattle.cad_capabilities.specs.Views.{capability_of}
use Rattle.cad_evaluation.specs.Capabilities.{capability_in}
use Rattle.cad_receivers.specs.Views.{settled_of}
use Rattle.cad_rows.specs.Views.{pure_tree}
use Rattle.cad_services.proofs.Telling.{with_none_told, with_told}
use Rattle.cad_services.specs.Code.Services.{value_member}
use Rattle.cad_world.specs.Receivers.{look_at}
use Rattle.cad_services.proofs.values.value_member.Goals as goal

pub returns-in-Ok : goal.returns-in-Ok
returns-in-Ok c = with_told capability_of pure_tree (look_at (settled_of c.args.receiver)) (λ spot. capability_in spot.tree) (value_member c.args.member) c.in-Ok.cap c.args.state.now c.member_of.new.state c.member_of.result c.in-Ok.ensures c.member_of.ensures

pub returns-in-Err : goal.returns-in-Err
returns-in-Err c = with_none_told capability_of pure_tree (look_at (settled_of c.args.receiver)) (λ spot. capability_in spot.tree) (value_member c.args.member) c.args.state.now c.args.state.now c.in-Err.stop c.in-Err.ensures
