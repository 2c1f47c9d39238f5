use Rattle.std.proofs.Common.{ℕ, Ok, Err}
use Rattle.cad_rows.specs.Views.{pure_row}
use Rattle.cad_labels.specs.Laws.{AnyOne}
use Rattle.cad_expressions.proofs.Calls.{create_same, identity_drawn_keeps}
use Rattle.cad_expression_leaves.specs.Code.Steps.{created, identity_drawn}
use Rattle.cad_evaluation.specs.Making.{make}
use Rattle.cad_state.specs.Views.{state_over}
use Rattle.cad_state.proofs.Finding.{find_any, find_same, find_stopped, find_then}
use Rattle.cad_world.specs.State.{◌>>=◌}
use Rattle.cad_rows.specs.declared.tree.Tree.{Tree}
use Rattle.cad_expression_leaves.specs.Views.{tree_in}
use Rattle.std.specs.Global.{Box}
use Rattle.cad_expressions.proofs.makes.create.Goals as goal

pub returns-in-Ok : goal.returns-in-Ok
returns-in-Ok g c none = find_same tree_in (created (g.E.Evaluator.calls c.args.evaluator.now) c.args.id.now (pure_row c.args.row.items)) (identity_drawn >>= (λ (i : ℕ). make (g.E.Evaluator.calls c.args.evaluator.now) c.args.id.now i (pure_row c.args.row.items))) c.args.state.now c.make.new.state c.make.result (λ w ready. create_same (g.E.Evaluator.calls c.args.evaluator.now) c.args.id.now (pure_row c.args.row.items) (state_over w c.args.state.now))
    (find_then AnyOne identity_drawn identity_drawn_keeps (λ (identity : ℕ). identity) tree_in (λ (i : ℕ). make (g.E.Evaluator.calls c.args.evaluator.now) c.args.id.now i (pure_row c.args.row.items)) c.in-Ok.identity c.args.state.now c.next_identity.new.state c.make.new.state c.make.result (find_any (λ (identity : ℕ). identity) identity_drawn c.args.state.now c.next_identity.new.state (Ok c.in-Ok.identity) c.in-Ok.ensures) (λ h. c.make.ensures none))

pub returns-in-Err : goal.returns-in-Err
returns-in-Err g c none = find_same tree_in (created (g.E.Evaluator.calls c.args.evaluator.now) c.args.id.now (pure_row c.args.row.items)) (identity_drawn >>= (λ (i : ℕ). make (g.E.Evaluator.calls c.args.evaluator.now) c.args.id.now i (pure_row c.args.row.items))) c.args.state.now c.next_identity.new.state (Err c.in-Err.stop) (λ w ready. create_same (g.E.Evaluator.calls c.args.evaluator.now) c.args.id.now (pure_row c.args.row.items) (state_over w c.args.state.now))
    (find_stopped {D = Box Tree} (λ (identity : ℕ). identity) tree_in identity_drawn (λ (i : ℕ). make (g.E.Evaluator.calls c.args.evaluator.now) c.args.id.now i (pure_row c.args.row.items)) c.args.state.now c.next_identity.new.state c.next_identity.new.state c.in-Err.stop (find_any (λ (identity : ℕ). identity) identity_drawn c.args.state.now c.next_identity.new.state (Err c.in-Err.stop) c.in-Err.ensures))
