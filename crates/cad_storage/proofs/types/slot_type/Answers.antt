use Rattle.cad_rows.specs.Views.{pure_tree}
use Rattle.cad_state.specs.Views.{state_over}
use Rattle.cad_storage.proofs.TypeLaws.{own_stops}
use Rattle.cad_storage.proofs.types.slot_type.Goals as goal

pub returns-in-Err : goal.returns-in-Err
returns-in-Err c = rw c.in-Full.is (λ w ready. own_stops (pure_tree c.in-Full.tree.now) (state_over w c.args.state.now) c.in-Err.stop (c.in-Err.ensures w ready))
