use Rattle.std.proofs.Common.{Err}
use Rattle.cad_casts.proofs.Settles.{of_type_then, own_keeps}
use Rattle.cad_casts.specs.Settled.{of_own}
use Rattle.cad_evaluation.specs.Casts.{with_type}
use Rattle.cad_labels.specs.Laws.{AnyOne}
use Rattle.cad_outcomes.specs.Outcomes.{no_value}
use Rattle.cad_rows.specs.Views.{pure_tree}
use Rattle.cad_state.proofs.Finding.{find_any, find_same, find_stopped, find_then}
use Rattle.cad_state.specs.Views.{state_over}
use Rattle.cad_syntax.specs.Types.{pure_type}
use Rattle.cad_evaluation.specs.Containers.{of_type}
use Rattle.cad_world.specs.State.{give, done, ◌>>=◌}
use Rattle.cad_casts.proofs.own_types.check_type.Goals as goal

pub returns-in-Ok : goal.returns-in-Ok
returns-in-Ok c =
    let t = pure_tree c.args.tree.now in
    let wanted = pure_type c.args.wanted.now in
    let x = c.args.state.now in
    let y = c.own_type_of.new.state in
    find_same no_value (of_type wanted t done) (with_type t (λ own. give own) >>= (λ own. of_own own wanted)) x y c.check_own.result (λ w ready. of_type_then wanted t (state_over w x))
    (find_then AnyOne (with_type t (λ own. give own)) (own_keeps t) pure_type no_value (λ own. of_own own wanted) c.in-Ok.own x y y c.check_own.result
    c.in-Ok.ensures (λ u. find_any no_value (of_own (pure_type c.in-Ok.own) wanted) y y c.check_own.result c.check_own.ensures))

pub returns-in-Err : goal.returns-in-Err
returns-in-Err c =
    let t = pure_tree c.args.tree.now in
    let wanted = pure_type c.args.wanted.now in
    let x = c.args.state.now in
    let y = c.own_type_of.new.state in
    find_same no_value (of_type wanted t done) (with_type t (λ own. give own) >>= (λ own. of_own own wanted)) x y (Err c.in-Err.stop) (λ w ready. of_type_then wanted t (state_over w x))
    (find_stopped pure_type no_value (with_type t (λ own. give own)) (λ own. of_own own wanted) x y y c.in-Err.stop c.in-Err.ensures)
