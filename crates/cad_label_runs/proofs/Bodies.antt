-- Bodies: labels are kept apart, and values in hand have none.
use Rattle.cad_label_runs.proofs.Changes.{frame_stands}
use Rattle.std.proofs.Common.{arith}
use Rattle.cad_world.specs.Rows.{add_last, back}
use Rattle.cad_labels.proofs.Marks.{mark_last, mark_back}
use Rattle.cad_labels.proofs.Places.{no_mark}
use Rattle.std.specs.Prelude.{ℕ, Bool, true, false, List, [], ◌∷◌, length, Option, Some, None}
use Rattle.cad_syntax.specs.Types.{PureType}
use Rattle.cad_syntax.specs.declared.type_id.TypeId.{TypeId}
use Rattle.cad_types.specs.Declarations.{resource}
use Rattle.cad_declarations.specs.Typed as e
use Rattle.cad_world.specs.Rows.{Tree, Slot, full, slot}
use Rattle.cad_world.specs.State.{Action}
use Rattle.cad_world.specs.Declared.{declarations}
use Rattle.cad_world.specs.Labels.{newest}
use Rattle.cad_world.specs.Locations.{variable}
use Rattle.cad_world.specs.Trees.{nil_tree}
use Rattle.cad_evaluation.specs.Callees.{Calls, Front}
use Rattle.cad_evaluation.specs.Changing.{Content, nothing, content_of}
use Rattle.cad_evaluation.specs.Containers.{void_tree}
use Rattle.cad_evaluation.specs.Flows.{Flow, next, returned}
use Rattle.cad_evaluation.specs.Numbers.{truth_of}
use Rattle.std.proofs.Common.{refl}
use Rattle.cad_evaluation.specs.Bodies.{Piece, inward, outward, running, moved_to, message_of, tested, all_tested, preconditions, kept_before, values_before, all_before, passed_before, is_void, value_of_flow, result_row, linked_content, result_by, result_value, with_result, postconditions, body_run, conditioned}
use Rattle.std.proofs.Common.{refl}
use Rattle.cad_labels.specs.Laws.{HasNone, Keeps, AnyOne, CalleesKeep}
use Rattle.cad_label_runs.proofs.Values.{FlowHasNone}
use Rattle.cad_world.specs.State.{give, done, fail}
use Rattle.cad_label_runs.proofs.Statements.{emits_keeps, exec_block_keeps}
use Rattle.cad_label_runs.proofs.Terms.{eval_keeps}
use Rattle.cad_labels.proofs.Forms.{keeps_by_truth, keeps_done, keeps_fail, keeps_give, keeps_guard, keeps_some, keeps_spend, keeps_stuck}
use Rattle.cad_labels.proofs.Frames.{aside_keeps, linked_keeps, taken_result_keeps}
use Rattle.cad_labels.proofs.Keeping.{keeps_bind}
use Rattle.cad_labels.proofs.Members.{copied_keeps}
use Rattle.cad_labels.proofs.Places.{ending_keeps, filling_keeps}

pub moved_to_keeps : (x1 : Option TypeId) → Keeps AnyOne (moved_to x1)
moved_to_keeps within = λ s once. (tt, frame_stands (λ f. record f { within = within }) s (λ p f. omega arith) once)

pub message_of_keeps : (front : Front) (calls : Calls) (x3 : Option e.TermTree) → CalleesKeep calls → Keeps AnyOne (message_of front calls x3)
message_of_keeps front calls None keep = keeps_done
message_of_keeps front calls (Some a) keep = keeps_bind HasNone AnyOne _ (λ u1. done) (eval_keeps front calls a keep) (λ u1 h_u1. keeps_done)

pub tested_keeps : (front : Front) (calls : Calls) (x3 : e.ConditionBody) → CalleesKeep calls → Keeps AnyOne (tested front calls x3)
tested_keeps front calls (e.test at a message) keep = keeps_bind HasNone AnyOne _ _ (keeps_bind AnyOne HasNone _ _ (keeps_spend 1) (λ u1 h_u1. eval_keeps front calls a keep)) (λ t h_t. keeps_by_truth AnyOne (truth_of t) done _ keeps_done (keeps_bind AnyOne AnyOne _ (λ u2. fail 108) (message_of_keeps front calls message keep) (λ u2 h_u2. keeps_fail {A = Unit {0}} AnyOne 108)))
tested_keeps front calls (e.emitted at id all) keep = keeps_bind AnyOne AnyOne _ _ (keeps_spend 1) (λ u1 h_u1. emits_keeps front calls id all keep)

pub all_tested_keeps : (front : Front) (calls : Calls) (x3 : List e.ConditionBody) → CalleesKeep calls → Keeps AnyOne (all_tested front calls x3)
all_tested_keeps front calls [] keep = keeps_done
all_tested_keeps front calls (c ∷ cs) keep = keeps_bind AnyOne AnyOne _ _ (tested_keeps front calls c keep) (λ u1 h_u1. all_tested_keeps front calls cs keep)

pub preconditions_keeps : (front : Front) (calls : Calls) (x3 : List Piece) → CalleesKeep calls → Keeps AnyOne (preconditions front calls x3)
preconditions_keeps front calls [] keep = keeps_done
preconditions_keeps front calls (p ∷ ps) keep = keeps_bind AnyOne AnyOne _ _ (keeps_bind AnyOne AnyOne (moved_to p.within) _ (moved_to_keeps p.within) (λ u1 h_u1. all_tested_keeps front calls p.function.pre keep)) (λ u2 h_u2. preconditions_keeps front calls ps keep)

pub kept_before_keeps : (x1 : Tree) → HasNone x1 → Keeps AnyOne (kept_before x1)
kept_before_keeps t n0 = λ s once. (tt, frame_stands (λ f. record f { before = add_last t f.before }) s (λ p f. omega (arith, mark_last p t f.before, no_mark t n0 p)) once)

pub values_before_keeps : (front : Front) (calls : Calls) (x3 : List e.BeforeTree) → CalleesKeep calls → Keeps AnyOne (values_before front calls x3)
values_before_keeps front calls [] keep = keeps_done
values_before_keeps front calls (x ∷ xs) keep = keeps_bind AnyOne AnyOne _ _ (keeps_bind HasNone AnyOne _ _ (eval_keeps front calls x.value keep) (λ v1 h_v1. kept_before_keeps v1 h_v1)) (λ u2 h_u2. values_before_keeps front calls xs keep)

pub all_before_keeps : (front : Front) (calls : Calls) (x3 : List Piece) → CalleesKeep calls → Keeps AnyOne (all_before front calls x3)
all_before_keeps front calls [] keep = keeps_done
all_before_keeps front calls (p ∷ ps) keep = keeps_bind AnyOne AnyOne _ _ (keeps_bind AnyOne AnyOne (moved_to p.within) _ (moved_to_keeps p.within) (λ u1 h_u1. values_before_keeps front calls p.function.before keep)) (λ u2 h_u2. all_before_keeps front calls ps keep)

pub passed_before_keeps : (x1 : ℕ) → Keeps AnyOne (passed_before x1)
passed_before_keeps n = λ s once. (tt, frame_stands (λ f. record f { before = back n f.before }) s (λ p f. omega (arith, mark_back p n f.before)) once)

pub value_of_flow_keeps : (x1 : PureType) (x2 : Flow) → FlowHasNone x2 → Keeps HasNone (value_of_flow x1 x2)
value_of_flow_keeps type (returned t) n1 = keeps_give HasNone t n1
value_of_flow_keeps type next n1 = keeps_guard HasNone (is_void type) (give void_tree) (keeps_give HasNone void_tree (λ p. refl))
value_of_flow_keeps type _ n1 = keeps_stuck HasNone

pub linked_content_keeps : (x1 : Tree) (x2 : Content) → Keeps HasNone (linked_content x1 x2)
linked_content_keeps t nothing = keeps_give HasNone nil_tree (λ p. refl)
linked_content_keeps t _ = linked_keeps t

pub result_by_keeps : (x1 : Bool) (x2 : Slot) → Keeps HasNone (result_by x1 x2)
result_by_keeps true (full t) = linked_content_keeps t (content_of t)
result_by_keeps false (full t) = copied_keeps t
result_by_keeps linear _ = keeps_stuck HasNone

pub result_value_keeps : (x1 : PureType) → Keeps HasNone (result_value x1)
result_value_keeps type = λ s once. (result_by_keeps (resource (declarations s) type) (slot 0 (result_row (newest s)))) s once

pub with_result_keeps : (x1 : PureType) (x2 : Option e.VariableEntry) (x3 : Action (Unit {0})) → Keeps AnyOne x3 → Keeps AnyOne (with_result x1 x2 x3)
with_result_keeps type None rest h_rest = h_rest
with_result_keeps type (Some x) rest h_rest = keeps_bind AnyOne AnyOne _ _ (keeps_bind AnyOne AnyOne _ _ (keeps_bind HasNone AnyOne _ _ (result_value_keeps type) (λ v1 h_v1. filling_keeps (variable x.number) v1 h_v1)) (λ u2 h_u2. h_rest)) (λ u3 h_u3. ending_keeps x.number)

pub postconditions_keeps : (front : Front) (calls : Calls) (x3 : List Piece) → CalleesKeep calls → Keeps AnyOne (postconditions front calls x3)
postconditions_keeps front calls [] keep = keeps_done
postconditions_keeps front calls (p ∷ ps) keep = keeps_bind AnyOne AnyOne _ _ (keeps_bind AnyOne AnyOne _ _ (keeps_bind AnyOne AnyOne (moved_to p.within) _ (moved_to_keeps p.within) (λ u1 h_u1. with_result_keeps p.function.result p.function.result_variable _ (all_tested_keeps front calls p.function.post keep))) (λ u2 h_u2. passed_before_keeps (length p.function.before))) (λ u3 h_u3. postconditions_keeps front calls ps keep)

pub body_run_keeps : (front : Front) (calls : Calls) (n : ℕ) (x4 : Piece) → CalleesKeep calls → Keeps HasNone (body_run front calls n x4)
body_run_keeps front calls n p keep = keeps_bind FlowHasNone HasNone _ _ (keeps_bind AnyOne FlowHasNone (moved_to p.within) _ (moved_to_keeps p.within) (λ u1 h_u1. keeps_some FlowHasNone p.function.body _ (λ v2. exec_block_keeps front calls n v2 keep))) (λ v3 h_v3. value_of_flow_keeps p.function.result v3 h_v3)

pub conditioned_keeps : (front : Front) (calls : Calls) (n : ℕ) (x4 : Option Piece) (x5 : List Piece) → CalleesKeep calls → Keeps HasNone (conditioned front calls n x4 x5)
conditioned_keeps front calls n own others keep = keeps_bind AnyOne HasNone _ _ (keeps_bind AnyOne AnyOne _ _ (keeps_bind HasNone AnyOne _ _ (keeps_bind AnyOne HasNone _ _ (keeps_bind AnyOne AnyOne _ _ (preconditions_keeps front calls (inward own others) keep) (λ u1 h_u1. all_before_keeps front calls (outward own others) keep)) (λ u2 h_u2. keeps_some HasNone (running own others) _ (λ v3. body_run_keeps front calls n v3 keep))) (λ v4 h_v4. aside_keeps v4 h_v4)) (λ u5 h_u5. postconditions_keeps front calls (outward own others) keep)) (λ u6 h_u6. taken_result_keeps)
