-- Statements: the same while the units last.
use Rattle.std.specs.Prelude.{ℕ, Bool, true, false, ◌||◌}
use Rattle.cad_syntax.specs.declared.type_id.TypeId.{TypeId}
use Rattle.cad_declarations.specs.Typed as e
use Rattle.cad_world.specs.Rows.{Tree}
use Rattle.cad_world.specs.State.{Action}
use Rattle.cad_world.specs.Locations.{variable}
use Rattle.cad_evaluation.specs.Callees.{Calls}
use Rattle.cad_evaluation.specs.Containers.{void_tree}
use Rattle.cad_evaluation.specs.Flows.{Flow, next, returned, broken, continued, moved_variable, is_nil_literal}
use Rattle.cad_evaluation.specs.Numbers.{truth_of}
use Rattle.cad_evaluation.specs.Statements.{emits, exec, exec_block, exec_all, exec_cases}
use Rattle.cad_bounds.proofs.Same.{Runs, Same, Near, Enough, same_give, same_spend, same_by_truth, same_bind}
use Rattle.cad_bounds.proofs.Changing.{same_assigned, same_exchanged, same_fill, same_force_assigned, same_swapped}
use Rattle.cad_bounds.proofs.Ending.{same_dropped, same_emitted, same_event_of}
use Rattle.cad_bounds.proofs.Flows.{same_by_case, same_closed, same_if_cast_at, same_if_content, same_is_case, same_leave_switch, same_over_elements, same_then_next, same_turns}
use Rattle.cad_bounds.proofs.Standing.{same_location_of}
use Rattle.cad_bounds.proofs.Terms.{same_eval, same_eval_arguments, same_eval_place}
use Rattle.cad_bounds.proofs.Transfers.{same_transferred}

pub same_emits : (R : Runs) (calls calls' : Calls) (x3 : TypeId) (x4 : e.Arguments) → Near R calls calls' → Same R (emits R.first calls x3 x4) (emits R.second calls' x3 x4)
same_emits R calls calls' id all near = same_bind R _ _ _ _ (same_eval_arguments R calls calls' all near) (λ row. (same_bind R _ _ _ _ (same_bind R _ _ _ _ (same_spend R 1) (λ u1. (same_event_of R id row))) (λ v2. (same_emitted R v2))))

mutual
  pub same_exec : (R : Runs) (calls calls' : Calls) (n n' : ℕ) (x4 : e.StatementTree) → Near R calls calls' → Enough R.units n n' → Same R (exec R.first calls n x4) (exec R.second calls' n' x4)
  same_exec R calls calls' n n' (e.declare at x a) near h = same_bind R _ _ _ _ (same_bind R _ _ _ _ (same_bind R _ _ _ _ (same_bind R _ _ _ _ (same_spend R 1) (λ u1. (same_eval R calls calls' a near))) (λ v2. (same_transferred R x.type v2))) (λ v3. (same_fill R (variable x.number) v3))) (λ u4. (same_give R next))
  same_exec R calls calls' n n' (e.exchange at x p type a) near h = same_bind R _ _ _ _ (same_bind R _ _ _ _ (same_bind R _ _ _ _ (same_spend R 1) (λ u1. (same_eval_place R calls calls' p true near))) (λ v2. (same_location_of R v2))) (λ place. (same_bind R _ _ _ _ (same_bind R _ _ _ _ (same_bind R _ _ _ _ (same_bind R _ _ _ _ (same_eval R calls calls' a near) (λ v3. (same_transferred R type v3))) (λ v4. (same_exchanged R place x.type v4))) (λ v5. (same_fill R (variable x.number) v5))) (λ u6. (same_give R next))))
  same_exec R calls calls' n n' (e.assign at p a type) near h = same_bind R _ _ _ _ (same_bind R _ _ _ _ (same_bind R _ _ _ _ (same_spend R 1) (λ u1. (same_eval_place R calls calls' p true near))) (λ v2. (same_location_of R v2))) (λ place. (same_bind R _ _ _ _ (same_bind R _ _ _ _ (same_bind R _ _ _ _ (same_eval R calls calls' a near) (λ v3. (same_transferred R type v3))) (λ v4. (same_assigned R place v4))) (λ u5. (same_give R next))))
  same_exec R calls calls' n n' (e.force_assign at p a type) near h = same_bind R _ _ _ _ (same_bind R _ _ _ _ (same_bind R _ _ _ _ (same_spend R 1) (λ u1. (same_eval_place R calls calls' p true near))) (λ v2. (same_location_of R v2))) (λ place. (same_bind R _ _ _ _ (same_bind R _ _ _ _ (same_bind R _ _ _ _ (same_eval R calls calls' a near) (λ v3. (same_transferred R type v3))) (λ v4. (same_force_assigned R place v4))) (λ u5. (same_give R next))))
  same_exec R calls calls' n n' (e.swap at p ptype q qtype) near h = same_bind R _ _ _ _ (same_bind R _ _ _ _ (same_bind R _ _ _ _ (same_spend R 1) (λ u1. (same_eval_place R calls calls' p true near))) (λ v2. (same_location_of R v2))) (λ left. (same_bind R _ _ _ _ (same_bind R _ _ _ _ (same_eval_place R calls calls' q true near) (λ v3. (same_location_of R v3))) (λ right. (same_bind R _ _ _ _ (same_swapped R left ptype right qtype) (λ u4. (same_give R next))))))
  same_exec R calls calls' n n' (e.expression at a) near h = same_bind R _ _ _ _ (same_bind R _ _ _ _ (same_bind R _ _ _ _ (same_spend R 1) (λ u1. (same_eval R calls calls' a near))) (λ v2. (same_dropped R v2))) (λ u3. (same_give R next))
  same_exec R calls calls' n n' (e.if_else at a body otherwise) near h = same_bind R _ _ _ _ (same_bind R _ _ _ _ (same_spend R 1) (λ u1. (same_eval R calls calls' a near))) (λ t. (same_by_truth R (truth_of t) _ _ _ _ (same_exec_block R calls calls' n n' body near h) (same_exec_block R calls calls' n n' otherwise near h)))
  same_exec R calls calls' n n' (e.if_let at x a type body otherwise) near h = same_bind R _ _ _ _ (same_bind R _ _ _ _ (same_bind R _ _ _ _ (same_spend R 1) (λ u1. (same_eval R calls calls' a near))) (λ v2. (same_transferred R type v2))) (λ v3. (same_if_content R (moved_variable a) x _ _ _ _ v3 (same_exec_block R calls calls' n n' body near h) (same_exec_block R calls calls' n n' otherwise near h)))
  same_exec R calls calls' n n' (e.if_cast at x p type body otherwise) near h = same_bind R _ _ _ _ (same_bind R _ _ _ _ (same_spend R 1) (λ u1. (same_eval_place R calls calls' p false near))) (λ v2. (same_if_cast_at R type x _ _ _ _ v2 (same_exec_block R calls calls' n n' body near h) (same_exec_block R calls calls' n n' otherwise near h)))
  same_exec R calls calls' n n' (e.while_loop at a body) near h = same_bind R _ _ _ _ (same_spend R 1) (λ u1. (same_turns R n n' _ _ _ _ h (same_eval R calls calls' a near) (same_exec_block R calls calls' n n' body near h)))
  same_exec R calls calls' n n' (e.for_loop at index x a type body) near h = same_bind R _ _ _ _ (same_bind R _ _ _ _ (same_bind R _ _ _ _ (same_spend R 1) (λ u1. (same_eval R calls calls' a near))) (λ v2. (same_transferred R type v2))) (λ v3. (same_over_elements R index x _ _ v3 (same_exec_block R calls calls' n n' body near h)))
  same_exec R calls calls' n n' (e.switch at a all otherwise) near h = same_bind R _ _ _ _ (same_bind R _ _ _ _ (same_bind R _ _ _ _ (same_spend R 1) (λ u1. (same_eval R calls calls' a near))) (λ t. (same_exec_cases R calls calls' n n' (is_nil_literal a) t _ _ all near h (same_exec_block R calls calls' n n' otherwise near h)))) (λ v2. (same_leave_switch R v2))
  same_exec R calls calls' n n' (e.break_loop at) near h = same_bind R _ _ _ _ (same_spend R 1) (λ u1. (same_give R broken))
  same_exec R calls calls' n n' (e.continue_loop at) near h = same_bind R _ _ _ _ (same_spend R 1) (λ u1. (same_give R continued))
  same_exec R calls calls' n n' (e.return_nothing at) near h = same_bind R _ _ _ _ (same_spend R 1) (λ u1. (same_give R (returned void_tree)))
  same_exec R calls calls' n n' (e.return_value at a type) near h = same_bind R _ _ _ _ (same_bind R _ _ _ _ (same_bind R _ _ _ _ (same_spend R 1) (λ u1. (same_eval R calls calls' a near))) (λ v2. (same_transferred R type v2))) (λ t. (same_give R (returned t)))
  same_exec R calls calls' n n' (e.emit at id all) near h = same_bind R _ _ _ _ (same_bind R _ _ _ _ (same_spend R 1) (λ u1. (same_emits R calls calls' id all near))) (λ u2. (same_give R next))

  pub same_exec_block : (R : Runs) (calls calls' : Calls) (n n' : ℕ) (x4 : e.BlockTree) → Near R calls calls' → Enough R.units n n' → Same R (exec_block R.first calls n x4) (exec_block R.second calls' n' x4)
  same_exec_block R calls calls' n n' (e.block first body) near h = same_closed R first _ _ (same_exec_all R calls calls' n n' body near h)

  pub same_exec_all : (R : Runs) (calls calls' : Calls) (n n' : ℕ) (x4 : e.Statements) → Near R calls calls' → Enough R.units n n' → Same R (exec_all R.first calls n x4) (exec_all R.second calls' n' x4)
  same_exec_all R calls calls' n n' e.no_statements near h = same_give R next
  same_exec_all R calls calls' n n' (e.statements s more) near h = same_bind R _ _ _ _ (same_exec R calls calls' n n' s near h) (λ flow. (same_then_next R flow _ _ (same_exec_all R calls calls' n n' more near h)))

  pub same_exec_cases : (R : Runs) (calls calls' : Calls) (n n' : ℕ) (x4 : Bool) (x5 : Tree) (x6 x6' : Action Flow) (x7 : e.TypedCases) → Near R calls calls' → Enough R.units n n' → Same R x6 x6' → Same R (exec_cases R.first calls n x4 x5 x6 x7) (exec_cases R.second calls' n' x4 x5 x6' x7)
  same_exec_cases R calls calls' n n' nil t otherwise otherwise' e.no_cases near h h_otherwise = h_otherwise
  same_exec_cases R calls calls' n n' nil t otherwise otherwise' (e.cases a body more) near h h_otherwise = same_bind R _ _ _ _ (same_eval R calls calls' a near) (λ c. (same_bind R _ _ _ _ (same_is_case R (nil || is_nil_literal a) t c) (λ is. (same_by_case R is _ _ _ _ (same_exec_block R calls calls' n n' body near h) (same_exec_cases R calls calls' n n' nil t _ _ more near h h_otherwise)))))
