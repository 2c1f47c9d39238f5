-- Statements: labels are kept apart, and values in hand have none.
use Rattle.std.specs.Prelude.{ℕ, Bool, true, false, ◌||◌}
use Rattle.cad_syntax.specs.declared.type_id.TypeId.{TypeId}
use Rattle.cad_declarations.specs.Typed as e
use Rattle.cad_world.specs.Rows.{Tree}
use Rattle.cad_world.specs.State.{Action}
use Rattle.cad_world.specs.Locations.{variable}
use Rattle.cad_evaluation.specs.Callees.{Calls, Front}
use Rattle.cad_evaluation.specs.Containers.{void_tree}
use Rattle.cad_evaluation.specs.Flows.{Flow, next, returned, broken, continued, moved_variable, is_nil_literal}
use Rattle.cad_evaluation.specs.Numbers.{truth_of}
use Rattle.cad_evaluation.specs.Statements.{emits, exec, exec_block, exec_all, exec_cases}
use Rattle.std.proofs.Common.{refl}
use Rattle.cad_labels.specs.Laws.{HasNone, HasNoneInRow, Keeps, AnyOne, CalleesKeep}
use Rattle.cad_label_runs.proofs.Values.{FlowHasNone}
use Rattle.cad_world.specs.State.{give}
use Rattle.cad_label_runs.proofs.Ending.{event_of_keeps}
use Rattle.cad_label_runs.proofs.Flows.{by_case_keeps, closed_keeps, if_cast_at_keeps, if_content_keeps, is_case_keeps, leave_switch_keeps, over_elements_keeps, then_next_keeps, turns_keeps}
use Rattle.cad_label_runs.proofs.Standing.{location_of_keeps}
use Rattle.cad_label_runs.proofs.Terms.{eval_arguments_keeps, eval_keeps, eval_place_keeps}
use Rattle.cad_labels.proofs.Ends.{dropped_keeps, emitted_keeps}
use Rattle.cad_labels.proofs.Forms.{keeps_by_truth, keeps_give, keeps_spend}
use Rattle.cad_labels.proofs.Keeping.{keeps_bind}
use Rattle.cad_labels.proofs.Places.{assigning_keeps, exchanging_keeps, filling_keeps, swapping_keeps, transferred_keeps}

pub emits_keeps : (front : Front) (calls : Calls) (x3 : TypeId) (x4 : e.Arguments) → CalleesKeep calls → Keeps AnyOne (emits front calls x3 x4)
emits_keeps front calls id all keep = keeps_bind HasNoneInRow AnyOne _ _ (eval_arguments_keeps front calls all keep) (λ row h_row. keeps_bind HasNone AnyOne _ _ (keeps_bind AnyOne HasNone _ _ (keeps_spend 1) (λ u1 h_u1. event_of_keeps id row h_row)) (λ v2 h_v2. emitted_keeps v2))

mutual
  pub exec_keeps : (front : Front) (calls : Calls) (n : ℕ) (x4 : e.StatementTree) → CalleesKeep calls → Keeps FlowHasNone (exec front calls n x4)
  exec_keeps front calls n (e.declare at x a) keep = keeps_bind AnyOne FlowHasNone _ (λ u4. give next) (keeps_bind HasNone AnyOne _ _ (keeps_bind HasNone HasNone _ _ (keeps_bind AnyOne HasNone _ _ (keeps_spend 1) (λ u1 h_u1. eval_keeps front calls a keep)) (λ v2 h_v2. transferred_keeps x.type v2 h_v2)) (λ v3 h_v3. filling_keeps (variable x.number) v3 h_v3)) (λ u4 h_u4. keeps_give FlowHasNone next tt)
  exec_keeps front calls n (e.exchange at x p type a) keep = keeps_bind AnyOne FlowHasNone _ _ (keeps_bind AnyOne AnyOne _ _ (keeps_bind AnyOne AnyOne _ _ (keeps_spend 1) (λ u1 h_u1. eval_place_keeps front calls p true keep)) (λ v2 h_v2. location_of_keeps v2)) (λ place h_place. keeps_bind AnyOne FlowHasNone _ (λ u6. give next) (keeps_bind HasNone AnyOne _ _ (keeps_bind HasNone HasNone _ _ (keeps_bind HasNone HasNone _ _ (eval_keeps front calls a keep) (λ v3 h_v3. transferred_keeps type v3 h_v3)) (λ v4 h_v4. exchanging_keeps place x.type v4 h_v4)) (λ v5 h_v5. filling_keeps (variable x.number) v5 h_v5)) (λ u6 h_u6. keeps_give FlowHasNone next tt))
  exec_keeps front calls n (e.assign at p a type) keep = keeps_bind AnyOne FlowHasNone _ _ (keeps_bind AnyOne AnyOne _ _ (keeps_bind AnyOne AnyOne _ _ (keeps_spend 1) (λ u1 h_u1. eval_place_keeps front calls p true keep)) (λ v2 h_v2. location_of_keeps v2)) (λ place h_place. keeps_bind AnyOne FlowHasNone _ (λ u5. give next) (keeps_bind HasNone AnyOne _ _ (keeps_bind HasNone HasNone _ _ (eval_keeps front calls a keep) (λ v3 h_v3. transferred_keeps type v3 h_v3)) (λ v4 h_v4. (assigning_keeps place v4 h_v4).0)) (λ u5 h_u5. keeps_give FlowHasNone next tt))
  exec_keeps front calls n (e.force_assign at p a type) keep = keeps_bind AnyOne FlowHasNone _ _ (keeps_bind AnyOne AnyOne _ _ (keeps_bind AnyOne AnyOne _ _ (keeps_spend 1) (λ u1 h_u1. eval_place_keeps front calls p true keep)) (λ v2 h_v2. location_of_keeps v2)) (λ place h_place. keeps_bind AnyOne FlowHasNone _ (λ u5. give next) (keeps_bind HasNone AnyOne _ _ (keeps_bind HasNone HasNone _ _ (eval_keeps front calls a keep) (λ v3 h_v3. transferred_keeps type v3 h_v3)) (λ v4 h_v4. (assigning_keeps place v4 h_v4).1)) (λ u5 h_u5. keeps_give FlowHasNone next tt))
  exec_keeps front calls n (e.swap at p ptype q qtype) keep = keeps_bind AnyOne FlowHasNone _ _ (keeps_bind AnyOne AnyOne _ _ (keeps_bind AnyOne AnyOne _ _ (keeps_spend 1) (λ u1 h_u1. eval_place_keeps front calls p true keep)) (λ v2 h_v2. location_of_keeps v2)) (λ left h_left. keeps_bind AnyOne FlowHasNone _ _ (keeps_bind AnyOne AnyOne _ _ (eval_place_keeps front calls q true keep) (λ v3 h_v3. location_of_keeps v3)) (λ right h_right. keeps_bind AnyOne FlowHasNone _ (λ u4. give next) (swapping_keeps left ptype right qtype) (λ u4 h_u4. keeps_give FlowHasNone next tt)))
  exec_keeps front calls n (e.expression at a) keep = keeps_bind AnyOne FlowHasNone _ (λ u3. give next) (keeps_bind HasNone AnyOne _ _ (keeps_bind AnyOne HasNone _ _ (keeps_spend 1) (λ u1 h_u1. eval_keeps front calls a keep)) (λ v2 h_v2. dropped_keeps v2)) (λ u3 h_u3. keeps_give FlowHasNone next tt)
  exec_keeps front calls n (e.if_else at a body otherwise) keep = keeps_bind HasNone FlowHasNone _ _ (keeps_bind AnyOne HasNone _ _ (keeps_spend 1) (λ u1 h_u1. eval_keeps front calls a keep)) (λ t h_t. keeps_by_truth FlowHasNone (truth_of t) _ _ (exec_block_keeps front calls n body keep) (exec_block_keeps front calls n otherwise keep))
  exec_keeps front calls n (e.if_let at x a type body otherwise) keep = keeps_bind HasNone FlowHasNone _ _ (keeps_bind HasNone HasNone _ _ (keeps_bind AnyOne HasNone _ _ (keeps_spend 1) (λ u1 h_u1. eval_keeps front calls a keep)) (λ v2 h_v2. transferred_keeps type v2 h_v2)) (λ v3 h_v3. if_content_keeps (moved_variable a) x _ _ v3 h_v3 (exec_block_keeps front calls n body keep) (exec_block_keeps front calls n otherwise keep))
  exec_keeps front calls n (e.if_cast at x p type body otherwise) keep = keeps_bind AnyOne FlowHasNone _ _ (keeps_bind AnyOne AnyOne _ _ (keeps_spend 1) (λ u1 h_u1. eval_place_keeps front calls p false keep)) (λ v2 h_v2. if_cast_at_keeps type x _ _ v2 (exec_block_keeps front calls n body keep) (exec_block_keeps front calls n otherwise keep))
  exec_keeps front calls n (e.while_loop at a body) keep = keeps_bind AnyOne FlowHasNone _ _ (keeps_spend 1) (λ u1 h_u1. turns_keeps n _ _ (eval_keeps front calls a keep) (exec_block_keeps front calls n body keep))
  exec_keeps front calls n (e.for_loop at index x a type body) keep = keeps_bind HasNone FlowHasNone _ _ (keeps_bind HasNone HasNone _ _ (keeps_bind AnyOne HasNone _ _ (keeps_spend 1) (λ u1 h_u1. eval_keeps front calls a keep)) (λ v2 h_v2. transferred_keeps type v2 h_v2)) (λ v3 h_v3. over_elements_keeps index x _ v3 h_v3 (exec_block_keeps front calls n body keep))
  exec_keeps front calls n (e.switch at a all otherwise) keep = keeps_bind FlowHasNone FlowHasNone _ _ (keeps_bind HasNone FlowHasNone _ _ (keeps_bind AnyOne HasNone _ _ (keeps_spend 1) (λ u1 h_u1. eval_keeps front calls a keep)) (λ t h_t. exec_cases_keeps front calls n (is_nil_literal a) t _ all keep (exec_block_keeps front calls n otherwise keep))) (λ v2 h_v2. leave_switch_keeps v2 h_v2)
  exec_keeps front calls n (e.break_loop at) keep = keeps_bind AnyOne FlowHasNone _ (λ u1. give broken) (keeps_spend 1) (λ u1 h_u1. keeps_give FlowHasNone broken tt)
  exec_keeps front calls n (e.continue_loop at) keep = keeps_bind AnyOne FlowHasNone _ (λ u1. give continued) (keeps_spend 1) (λ u1 h_u1. keeps_give FlowHasNone continued tt)
  exec_keeps front calls n (e.return_nothing at) keep = keeps_bind AnyOne FlowHasNone _ (λ u1. give (returned void_tree)) (keeps_spend 1) (λ u1 h_u1. keeps_give FlowHasNone (returned void_tree) (λ p. refl))
  exec_keeps front calls n (e.return_value at a type) keep = keeps_bind HasNone FlowHasNone _ (λ t. give (returned t)) (keeps_bind HasNone HasNone _ _ (keeps_bind AnyOne HasNone _ _ (keeps_spend 1) (λ u1 h_u1. eval_keeps front calls a keep)) (λ v2 h_v2. transferred_keeps type v2 h_v2)) (λ t h_t. keeps_give FlowHasNone (returned t) h_t)
  exec_keeps front calls n (e.emit at id all) keep = keeps_bind AnyOne FlowHasNone _ (λ u2. give next) (keeps_bind AnyOne AnyOne _ _ (keeps_spend 1) (λ u1 h_u1. emits_keeps front calls id all keep)) (λ u2 h_u2. keeps_give FlowHasNone next tt)

  pub exec_block_keeps : (front : Front) (calls : Calls) (n : ℕ) (x4 : e.BlockTree) → CalleesKeep calls → Keeps FlowHasNone (exec_block front calls n x4)
  exec_block_keeps front calls n (e.block first body) keep = closed_keeps first _ (exec_all_keeps front calls n body keep)

  pub exec_all_keeps : (front : Front) (calls : Calls) (n : ℕ) (x4 : e.Statements) → CalleesKeep calls → Keeps FlowHasNone (exec_all front calls n x4)
  exec_all_keeps front calls n e.no_statements keep = keeps_give FlowHasNone next tt
  exec_all_keeps front calls n (e.statements s more) keep = keeps_bind FlowHasNone FlowHasNone _ _ (exec_keeps front calls n s keep) (λ flow h_flow. then_next_keeps flow _ h_flow (exec_all_keeps front calls n more keep))

  pub exec_cases_keeps : (front : Front) (calls : Calls) (n : ℕ) (x4 : Bool) (x5 : Tree) (x6 : Action Flow) (x7 : e.TypedCases) → CalleesKeep calls → Keeps FlowHasNone x6 → Keeps FlowHasNone (exec_cases front calls n x4 x5 x6 x7)
  exec_cases_keeps front calls n nil t otherwise e.no_cases keep h_otherwise = h_otherwise
  exec_cases_keeps front calls n nil t otherwise (e.cases a body more) keep h_otherwise = keeps_bind HasNone FlowHasNone _ _ (eval_keeps front calls a keep) (λ c h_c. keeps_bind AnyOne FlowHasNone _ _ (is_case_keeps (nil || is_nil_literal a) t c) (λ is h_is. by_case_keeps is _ _ (exec_block_keeps front calls n body keep) (exec_cases_keeps front calls n nil t _ more keep h_otherwise)))
