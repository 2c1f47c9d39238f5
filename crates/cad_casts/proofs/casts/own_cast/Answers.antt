use Rattle.cad_casts.proofs.Settles.{own_keeps}
use Rattle.cad_casts.specs.Code.Judged.{cast_from}
use Rattle.cad_evaluation.specs.Casts.{with_type}
use Rattle.cad_labels.specs.Laws.{AnyOne}
use Rattle.cad_rows.specs.Views.{pure_tree}
use Rattle.cad_state.proofs.Finding.{find_any, find_stopped, find_then}
use Rattle.cad_syntax.specs.Types.{pure_type}
use Rattle.cad_world.specs.State.{give}
use Rattle.cad_casts.proofs.casts.own_cast.Goals as goal

pub returns-in-Ok : goal.returns-in-Ok
returns-in-Ok c =
    let t = pure_tree c.args.tree in
    let wanted = pure_type c.args.wanted.now in
    let y = c.own_type_of.new.state in
    let z = c.cast_from.new.state in
    find_then AnyOne (with_type t (λ own. give own)) (own_keeps t) pure_type pure_tree (λ own. cast_from c.args.kind own wanted t) c.in-Ok.own c.args.state.now y z c.cast_from.result
    c.in-Ok.ensures (λ u. find_any pure_tree (cast_from c.args.kind (pure_type c.in-Ok.own) wanted t) y z c.cast_from.result c.cast_from.ensures)

pub returns-in-Err : goal.returns-in-Err
returns-in-Err c =
    let t = pure_tree c.args.tree in
    let y = c.own_type_of.new.state in
    find_stopped pure_type pure_tree (with_type t (λ own. give own)) (λ own. cast_from c.args.kind own (pure_type c.args.wanted.now) t) c.args.state.now y y c.in-Err.stop c.in-Err.ensures
