use Rattle.cad_rows.specs.Views.{pure_tree}
use Rattle.cad_standing.specs.Views.{standing_of}
use Rattle.cad_standing.proofs.NilLaws.{told_stops}
use Rattle.cad_standing.proofs.optionals.is_nil.Goals as goal

pub returns-in-Err : goal.returns-in-Err
returns-in-Err c = told_stops pure_tree (standing_of c.args.place) c.args.negated c.args.state.now c.nil_in.new.state c.in-Err.stop c.in-Err.ensures
