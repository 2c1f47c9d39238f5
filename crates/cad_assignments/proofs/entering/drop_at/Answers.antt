use Rattle.std.proofs.Common.{option_map, Err}
use Rattle.cad_outcomes.specs.Outcomes.{no_value}
use Rattle.cad_rows.specs.Views.{pure_tree}
use Rattle.cad_state.specs.Views.{state_over}
use Rattle.cad_state.proofs.Finding.{find_same, find_stopped}
use Rattle.cad_world.specs.State.{◌>>◌, done}
use Rattle.cad_assignments.specs.Code.Fills.{key_gone}
use Rattle.cad_assignments.proofs.Fills.{key_cut, key_goes}
use Rattle.cad_assignments.proofs.entering.drop_at.Goals as goal

pub returns-in-Err : goal.returns-in-Err
returns-in-Err c =
    find_same no_value (key_gone c.args.label c.args.i) (key_cut c.args.label c.args.i >> done) c.args.state.now c.drop_key.new.state (Err c.in-Err.stop) (λ accounts ready. key_goes c.args.label c.args.i (state_over accounts c.args.state.now))
    (find_stopped (λ o. option_map pure_tree o) no_value (key_cut c.args.label c.args.i) (λ _. done) c.args.state.now c.drop_key.new.state c.drop_key.new.state c.in-Err.stop c.in-Err.ensures)
