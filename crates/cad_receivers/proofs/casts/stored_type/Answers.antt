use Rattle.std.proofs.Common.{ap, sym, ◌∙◌}
use Rattle.cad_receivers.proofs.CastLaws.{type_stops}
use Rattle.cad_receivers.specs.Code.Casts.{stored_rights}
use Rattle.cad_rows.specs.Views.{pure_shape, pure_tree}
use Rattle.cad_state.specs.Views.{state_over}
use Rattle.cad_receivers.proofs.casts.stored_type.Goals as goal

pub returns-in-Err : goal.returns-in-Err
returns-in-Err c = λ w ready.
    type_stops (pure_tree c.args.tree.now) (pure_shape c.shape-in-Some.result.now) c.in-Some.rights.now c.optionals.result (state_over w c.args.state.now) c.in-Err.stop
    c.shape-in-Some.ensures c.optionals.ensures (ap stored_rights (sym c.shape.ensures) ∙ sym c.in-Some.ensures) (c.in-Err.ensures w ready)
