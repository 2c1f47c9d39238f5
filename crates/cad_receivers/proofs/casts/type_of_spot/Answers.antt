use Rattle.std.proofs.Common.{Err}
use Rattle.cad_casts.proofs.Settles.{own_keeps}
use Rattle.cad_evaluation.specs.Casts.{with_type}
use Rattle.cad_labels.specs.Laws.{AnyOne}
use Rattle.cad_receivers.proofs.CastLaws.{led_in_steps}
use Rattle.cad_receivers.specs.Code.Casts.{type_led}
use Rattle.cad_receivers.specs.Views.{spot_of}
use Rattle.cad_rows.specs.Views.{pure_row}
use Rattle.cad_state.proofs.Finding.{find_given, find_same, find_stopped, find_then}
use Rattle.cad_state.specs.Views.{state_over}
use Rattle.cad_syntax.specs.Types.{pure_type, reference}
use Rattle.cad_types.specs.Optionals.{optionals}
use Rattle.cad_world.specs.State.{give, ◌>>=◌}
use Rattle.cad_receivers.proofs.casts.type_of_spot.Goals as goal

pub returns-in-Ok : goal.returns-in-Ok
returns-in-Ok c =
    let a = c.args.rights.now in
    let n = c.args.depth in
    let spot = spot_of c.args.spot in
    let x = c.args.state.now in
    find_same pure_type (type_led a n spot) (with_type spot.tree (λ own. give own) >>= (λ own. give (optionals n (reference a own)))) x x c.reference_in.result
    (λ w ready. led_in_steps a n spot (state_over w x))
    (find_then AnyOne (with_type spot.tree (λ own. give own)) (own_keeps spot.tree) pure_type pure_type (λ own. give (optionals n (reference a own))) c.in-Ok.own x x x c.reference_in.result
    (c.in-Ok.ensures (pure_row c.args.spot.parts.now))
    (λ u. find_given pure_type (give (optionals n (reference a (pure_type c.in-Ok.own)))) x c.reference_in.result c.reference_in.ensures))

pub returns-in-Err : goal.returns-in-Err
returns-in-Err c =
    let a = c.args.rights.now in
    let n = c.args.depth in
    let spot = spot_of c.args.spot in
    let x = c.args.state.now in
    find_same pure_type (type_led a n spot) (with_type spot.tree (λ own. give own) >>= (λ own. give (optionals n (reference a own)))) x x (Err c.in-Err.stop)
    (λ w ready. led_in_steps a n spot (state_over w x))
    (find_stopped pure_type pure_type (with_type spot.tree (λ own. give own)) (λ own. give (optionals n (reference a own))) x x x c.in-Err.stop (c.in-Err.ensures (pure_row c.args.spot.parts.now)))
