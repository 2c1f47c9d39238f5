use Rattle.cad_evaluation.specs.Builtins.{on_dictionary}
use Rattle.cad_receivers.specs.Views.{settled_of}
use Rattle.cad_rows.specs.Views.{pure_row}
use Rattle.cad_containers.specs.Code.Members.{dictionary_read}
use Rattle.cad_containers.proofs.Spots.{look_stops}
use Rattle.cad_containers.proofs.reads.look_in_dictionary.Goals as goal

pub returns-in-Err : goal.returns-in-Err
returns-in-Err c =
    look_stops (settled_of c.args.receiver) (λ spot. on_dictionary spot (dictionary_read c.args.member (pure_row c.args.arguments.now))) c.args.state.now c.in-Err.stop c.in-Err.ensures
