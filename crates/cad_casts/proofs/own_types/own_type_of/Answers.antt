use Rattle.std.proofs.Common.{Err, Ok, subst}
use Rattle.cad_casts.proofs.Settles.{settled_first, settled_keeps, as_whole}
use Rattle.cad_casts.specs.Settled.{settled}
use Rattle.cad_evaluation.specs.Casts.{with_type}
use Rattle.cad_labels.specs.Laws.{AnyOne}
use Rattle.cad_outcomes.specs.Outcomes.{no_value}
use Rattle.cad_rows.specs.Views.{pure_tree}
use Rattle.cad_state.proofs.Finding.{find_same, find_stopped, find_then}
use Rattle.cad_state.specs.Views.{state_over, FindsAndCarriesOut}
use Rattle.cad_syntax.specs.Types.{pure_type}
use Rattle.cad_world.specs.Rows.{NodeShape, Tree}
use Rattle.cad_world.specs.State.{give, ◌>>◌}
use Rattle.cad_casts.proofs.own_types.own_type_of.Goals as goal

pub returns-in-Ok : goal.returns-in-Ok
returns-in-Ok c =
    let t = pure_tree c.args.tree.now in
    let told = with_type t (λ own. give own) in
    let x = c.args.state.now in
    let y = c.settle_type.new.state in
    find_same pure_type told (settled t.shape >> told) x y c.type_here.result (λ w ready. settled_first t (state_over w x))
    (find_then AnyOne (settled t.shape) (settled_keeps t.shape) no_value pure_type (λ _. told) tt x y y c.type_here.result
    (subst (λ (shape : NodeShape). FindsAndCarriesOut no_value (settled shape) x y (Ok tt)) c.shape.ensures c.in-Ok.ensures)
    (λ u. subst (λ (o : Tree). FindsAndCarriesOut pure_type (with_type o (λ own. give own)) y y c.type_here.result) (as_whole t c.optionals.result _ c.optionals.ensures c.shape-in-Ok.ensures) (c.type_here.ensures t.parts)))

pub returns-in-Err : goal.returns-in-Err
returns-in-Err c =
    let t = pure_tree c.args.tree.now in
    let told = with_type t (λ own. give own) in
    let x = c.args.state.now in
    let y = c.settle_type.new.state in
    find_same pure_type told (settled t.shape >> told) x y (Err c.in-Err.stop) (λ w ready. settled_first t (state_over w x))
    (find_stopped no_value pure_type (settled t.shape) (λ _. told) x y y c.in-Err.stop
    (subst (λ (shape : NodeShape). FindsAndCarriesOut no_value (settled shape) x y (Err c.in-Err.stop)) c.shape.ensures c.in-Err.ensures))
