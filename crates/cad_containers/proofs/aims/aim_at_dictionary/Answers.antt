use Rattle.cad_receivers.specs.Views.{settled_of, spot_of}
use Rattle.cad_state.specs.Views.{state_over}
use Rattle.cad_values.specs.Values.{pure_value}
use Rattle.cad_containers.proofs.AimLaws.{dictionary_aimed, look_stops_dictionary}
use Rattle.cad_containers.proofs.aims.aim_at_dictionary.Goals as goal

pub returns-in-Ok : goal.returns-in-Ok
returns-in-Ok c = λ accounts ready.
    dictionary_aimed (pure_value c.args.key.now) (settled_of c.args.receiver) (state_over accounts c.args.state.now) (spot_of c.in-Ok.spot) c.dictionary_aim_of.result (c.in-Ok.ensures accounts ready) c.dictionary_aim_of.ensures

pub returns-in-Err : goal.returns-in-Err
returns-in-Err c = λ accounts ready. look_stops_dictionary (pure_value c.args.key.now) (settled_of c.args.receiver) (state_over accounts c.args.state.now) c.in-Err.stop (c.in-Err.ensures accounts ready)
