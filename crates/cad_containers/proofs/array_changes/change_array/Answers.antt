use Rattle.cad_receivers.specs.Views.{settled_of}
use Rattle.cad_rows.specs.Views.{pure_row}
use Rattle.cad_containers.specs.Code.Members.{array_change}
use Rattle.cad_containers.proofs.AimLaws.{aimed_change}
use Rattle.cad_containers.proofs.array_changes.change_array.Goals as goal

pub returns-in-Ok : goal.returns-in-Ok
returns-in-Ok c =
    aimed_change (settled_of c.args.receiver) (array_change c.args.member (pure_row c.args.arguments.items)) c.args.state.now c.change_at.new.state c.in-Ok.aim c.change_at.result c.in-Ok.ensures c.change_at.ensures

pub returns-in-Err : goal.returns-in-Err
returns-in-Err c = λ accounts ready. (c.in-Err.ensures accounts ready).0 (array_change c.args.member (pure_row c.args.arguments.items))
