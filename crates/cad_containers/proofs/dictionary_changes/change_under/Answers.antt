use Rattle.cad_receivers.specs.Views.{settled_of}
use Rattle.cad_rows.specs.Views.{pure_row}
use Rattle.cad_values.specs.Values.{pure_value}
use Rattle.cad_containers.specs.Code.Members.{dictionary_change}
use Rattle.cad_containers.proofs.AimLaws.{aimed_dictionary_change}
use Rattle.cad_containers.proofs.dictionary_changes.change_under.Goals as goal

pub returns-in-Ok : goal.returns-in-Ok
returns-in-Ok c = λ same.
    aimed_dictionary_change (pure_value c.args.key) (settled_of c.args.receiver) (dictionary_change c.args.member (pure_row c.args.arguments.items)) c.args.state.now c.change-result.new.state c.in-Ok.aim
    c.change-result.result c.in-Ok.ensures (c.change-result.ensures same)

pub returns-in-Err : goal.returns-in-Err
returns-in-Err c = λ same accounts ready. c.in-Err.ensures accounts ready (dictionary_change c.args.member (pure_row c.args.arguments.items))
