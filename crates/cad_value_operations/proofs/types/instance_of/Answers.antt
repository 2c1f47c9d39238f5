use Rattle.cad_rows.specs.Views.{pure_tree}
use Rattle.cad_state.specs.Views.{state_over}
use Rattle.cad_syntax.specs.Types.{pure_type}
use Rattle.cad_value_operations.proofs.TypeLaws.{typed_given, typed_stops}
use Rattle.cad_value_operations.specs.Code.Members.{instance_of}
use Rattle.cad_value_operations.proofs.types.instance_of.Goals as goal

pub returns-in-Ok : goal.returns-in-Ok
returns-in-Ok c = λ w ready.
    let s = state_over w c.own_type_of.new.state in
    typed_given (pure_tree c.args.tree.now) (instance_of (pure_type c.args.wanted.now)) (pure_type c.in-Ok.own) (state_over w c.args.state.now) s s c.instance_told-told.result (c.in-Ok.ensures w ready) (c.instance_told-told.ensures w)

pub returns-in-Err : goal.returns-in-Err
returns-in-Err c = λ w ready. typed_stops (pure_tree c.args.tree.now) (instance_of (pure_type c.args.wanted.now)) (state_over w c.args.state.now) c.in-Err.stop (c.in-Err.ensures w ready)
