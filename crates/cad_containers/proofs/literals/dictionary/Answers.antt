use Rattle.std.proofs.Common.{map}
use Rattle.cad_state.specs.Views.{state_over}
use Rattle.cad_syntax.specs.Types.{pure_type}
use Rattle.cad_containers.specs.Literals.{pure_pair}
use Rattle.cad_containers.proofs.Tables.{literal, literal_stops}
use Rattle.cad_containers.proofs.literals.dictionary.Goals as goal

pub returns-in-Ok : goal.returns-in-Ok
returns-in-Ok c = λ accounts.
    literal (pure_type c.args.key) (pure_type c.args.value) (map pure_pair c.args.pairs.items) (state_over accounts c.args.state.now) c.in-Ok.table c.dictionary_tree.result (c.in-Ok.ensures accounts) c.dictionary_tree.ensures

pub returns-in-Err : goal.returns-in-Err
returns-in-Err c = λ accounts.
    literal_stops (pure_type c.args.key) (pure_type c.args.value) (map pure_pair c.args.pairs.items) (state_over accounts c.args.state.now) c.in-Err.stop (c.in-Err.ensures accounts)
