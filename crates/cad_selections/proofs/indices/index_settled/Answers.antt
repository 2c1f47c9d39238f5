use Rattle.cad_evaluation.specs.Reading.{read_index}
use Rattle.cad_selections.specs.Code.Readings.{reading_of}
use Rattle.cad_receivers.specs.Views.{settled_of, at_spot}
use Rattle.cad_rows.specs.Views.{pure_tree}
use Rattle.cad_state.proofs.Finding.{find_same}
use Rattle.cad_selections.proofs.indices.index_settled.Goals as goal

pub returns-in-Ok : goal.returns-in-Ok
returns-in-Ok c = find_same pure_tree (at_spot (settled_of c.args.receiver) (read_index (pure_tree c.args.index.now))) (reading_of c.in-Ok.reading)
    c.args.state.now c.read_out.new.state c.read_out.result c.in-Ok.ensures c.read_out.ensures
