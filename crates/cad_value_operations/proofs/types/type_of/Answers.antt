use Rattle.std.proofs.Common.{ap, sym}
use Rattle.std.specs.Prelude.{Ok}
use Rattle.cad_evaluation.specs.Casts.{type_tree}
use Rattle.cad_rows.specs.Views.{pure_tree}
use Rattle.cad_state.specs.Views.{state_over}
use Rattle.cad_syntax.specs.Types.{pure_type}
use Rattle.cad_value_operations.proofs.TypeLaws.{typed_given, typed_stops}
use Rattle.cad_world.specs.Rows.{Tree}
use Rattle.cad_world.specs.State.{give, ok}
use Rattle.cad_value_operations.proofs.types.type_of.Goals as goal

pub returns-in-Ok : goal.returns-in-Ok
returns-in-Ok c = λ w ready.
    let s = state_over w c.own_type_of.new.state in
    typed_given (pure_tree c.args.tree.now) (λ own. give (type_tree own)) (pure_type c.in-Ok.own) (state_over w c.args.state.now) s s (Ok c.type_tree.result) (c.in-Ok.ensures w ready)
    (ap (λ (t : Tree). ok t s) (sym c.type_tree.ensures))

pub returns-in-Err : goal.returns-in-Err
returns-in-Err c = λ w ready. typed_stops (pure_tree c.args.tree.now) (λ own. give (type_tree own)) (state_over w c.args.state.now) c.in-Err.stop (c.in-Err.ensures w ready)
