use Rattle.cad_evaluation.specs.Casts.{type_told, type_tree}
use Rattle.cad_receivers.specs.Views.{settled_of}
use Rattle.cad_value_operations.proofs.TypeLaws.{told_so, told_stops, told_then}
use Rattle.cad_value_operations.specs.Code.Members.{with_told}
use Rattle.cad_world.specs.Receivers.{look_at}
use Rattle.cad_world.specs.State.{give}
use Rattle.cad_value_operations.proofs.types.type_at.Goals as goal

pub returns-in-Ok : goal.returns-in-Ok
returns-in-Ok c =
    told_then (look_at (settled_of c.args.receiver)) type_told (λ t. with_told t (λ own. give (type_tree own))) (told_so (λ own. give (type_tree own))) c.in-Ok.told
    c.args.state.now c.type_by.new.state c.type_by.result c.in-Ok.ensures c.type_by.ensures

pub returns-in-Err : goal.returns-in-Err
returns-in-Err c = told_stops (look_at (settled_of c.args.receiver)) type_told c.args.state.now c.args.state.now c.in-Err.stop c.in-Err.ensures
