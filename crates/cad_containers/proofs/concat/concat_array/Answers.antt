use Rattle.cad_evaluation.specs.Arguments.{with_argument}
use Rattle.cad_evaluation.specs.Containers.{array_concat}
use Rattle.cad_receivers.specs.Views.{settled_of}
use Rattle.cad_rows.specs.Views.{pure_row}
use Rattle.cad_containers.proofs.AimLaws.{aimed_read}
use Rattle.cad_containers.proofs.concat.concat_array.Goals as goal

pub returns-in-Ok : goal.returns-in-Ok
returns-in-Ok c =
    aimed_read (settled_of c.args.receiver) (λ type parts. with_argument (pure_row c.args.arguments.items) (array_concat type parts)) c.args.state.now c.concat_arguments.new.state c.in-Ok.aim
    c.concat_arguments.result c.in-Ok.ensures c.concat_arguments.ensures

pub returns-in-Err : goal.returns-in-Err
returns-in-Err c = λ accounts ready. (c.in-Err.ensures accounts ready).1 (λ type parts. with_argument (pure_row c.args.arguments.items) (array_concat type parts))
