use Rattle.cad_expression_leaves.proofs.Going.{any_on, any_stopped}
use Rattle.cad_expression_leaves.specs.Code.Steps.{row_with}
use Rattle.cad_rows.specs.Views.{pure_tree, pure_row}
use Rattle.std.proofs.Common.{Ok, ap, sym}
use Rattle.cad_state.specs.Views.{state_over}
use Rattle.cad_syntax.specs.Types.{pure_type}
use Rattle.cad_world.specs.Rows.{add_last}
use Rattle.cad_world.specs.State.{ok, give}
use Rattle.cad_world.specs.Transfers.{transferred}
use Rattle.cad_expression_leaves.proofs.growth.push_own.Goals as goal

pub returns-in-Ok-add_last : goal.returns-in-Ok-add_last
unfolding row_with
returns-in-Ok-add_last c = any_on (transferred (pure_type c.args.declared.now) (pure_tree c.args.value)) pure_tree (λ (u : Unit {0}). pure_row c.add_last.new.row.items) (λ own. give (add_last own (pure_row c.args.row.now.items))) c.transfer.result c.in-Ok.own c.args.state.now c.transfer.new.self c.transfer.new.self (Ok tt) c.in-Ok.is c.transfer.ensures (λ w. ap (λ q. ok q (state_over w c.transfer.new.self)) (sym c.in-Ok-add_last.ensures))

pub returns-in-Err : goal.returns-in-Err
unfolding row_with
returns-in-Err c = any_stopped {D = Unit {0}} (transferred (pure_type c.args.declared.now) (pure_tree c.args.value)) pure_tree (λ (u : Unit {0}). pure_row c.args.row.now.items) (λ own. give (add_last own (pure_row c.args.row.now.items))) c.transfer.result c.in-Err.stop c.args.state.now c.transfer.new.self c.transfer.new.self c.in-Err.is c.transfer.ensures
