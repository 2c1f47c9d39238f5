use Rattle.std.proofs.Common.{ℕ, Err, Ok, subst}
use Rattle.cad_casts.proofs.Settles.{as_whole, own_keeps}
use Rattle.cad_evaluation.specs.Casts.{with_type}
use Rattle.cad_labels.specs.Laws.{AnyOne}
use Rattle.cad_receivers.proofs.StoredLaws.{depth_in_steps}
use Rattle.cad_receivers.specs.Code.Stored.{depth_of_own, depth_of_type}
use Rattle.cad_rows.specs.Views.{pure_tree}
use Rattle.cad_state.proofs.Finding.{find_any, find_same, find_stopped, find_then}
use Rattle.cad_state.specs.Views.{state_over, CarriesOut, FindsAndCarriesOut}
use Rattle.cad_syntax.specs.Types.{pure_type}
use Rattle.cad_world.specs.Rows.{Tree}
use Rattle.cad_world.specs.State.{give, ◌>>=◌}
use Rattle.cad_receivers.proofs.stored.depth_of_type.Goals as goal

pub returns-in-Ok : goal.returns-in-Ok
returns-in-Ok c =
    let t = pure_tree c.args.tree.now in
    let wanted = pure_type c.args.wanted.now in
    let x = c.args.state.now in
    find_same (λ (n : ℕ). n) (depth_of_type wanted t) (with_type t (λ own. give own) >>= (λ own. depth_of_own wanted own t.optionals)) x x c.depth_of_own.result
    (λ w ready. depth_in_steps wanted t (state_over w x))
    (find_then AnyOne (with_type t (λ own. give own)) (own_keeps t) pure_type (λ (n : ℕ). n) (λ own. depth_of_own wanted own t.optionals) c.in-Ok.own x x x c.depth_of_own.result
    (subst (λ (o : Tree). FindsAndCarriesOut pure_type (with_type o (λ own. give own)) x x (Ok c.in-Ok.own)) (as_whole t c.optionals.result _ c.optionals.ensures c.shape.ensures) (c.in-Ok.ensures t.parts))
    (λ u. find_any (λ (n : ℕ). n) (depth_of_own wanted (pure_type c.in-Ok.own) t.optionals) x x c.depth_of_own.result
    (subst (λ (n : ℕ). CarriesOut (λ (m : ℕ). m) (depth_of_own wanted (pure_type c.in-Ok.own) n) x x c.depth_of_own.result) c.optionals-in-Ok.ensures c.depth_of_own.ensures)))

pub returns-in-Err : goal.returns-in-Err
returns-in-Err c =
    let t = pure_tree c.args.tree.now in
    let wanted = pure_type c.args.wanted.now in
    let x = c.args.state.now in
    find_same (λ (n : ℕ). n) (depth_of_type wanted t) (with_type t (λ own. give own) >>= (λ own. depth_of_own wanted own t.optionals)) x x (Err c.in-Err.stop)
    (λ w ready. depth_in_steps wanted t (state_over w x))
    (find_stopped pure_type (λ (n : ℕ). n) (with_type t (λ own. give own)) (λ own. depth_of_own wanted own t.optionals) x x x c.in-Err.stop
    (subst (λ (o : Tree). FindsAndCarriesOut pure_type (with_type o (λ own. give own)) x x (Err c.in-Err.stop)) (as_whole t c.optionals.result _ c.optionals.ensures c.shape.ensures) (c.in-Err.ensures t.parts)))
