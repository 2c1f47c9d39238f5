-- Bodies: the same while the units last.
use Rattle.std.specs.Prelude.{ℕ, Bool, true, false, nat_lt, List, [], ◌∷◌, length, Option, Some, None}
use Rattle.cad_syntax.specs.Types.{PureType}
use Rattle.cad_syntax.specs.declared.type_id.TypeId.{TypeId}
use Rattle.cad_types.specs.Declarations.{resource}
use Rattle.cad_declarations.specs.Typed as e
use Rattle.cad_world.specs.Rows.{Row, Tree, Slot, full, slot}
use Rattle.cad_world.specs.State.{Action}
use Rattle.cad_world.specs.Declared.{declarations}
use Rattle.cad_world.specs.Labels.{newest}
use Rattle.cad_world.specs.Locations.{variable}
use Rattle.cad_world.specs.Trees.{nil_tree}
use Rattle.cad_evaluation.specs.Callees.{Calls}
use Rattle.cad_evaluation.specs.Changing.{Content, nothing, content_of}
use Rattle.cad_evaluation.specs.Containers.{void_tree}
use Rattle.cad_evaluation.specs.Flows.{Flow, next, returned}
use Rattle.cad_evaluation.specs.Numbers.{truth_of}
use Rattle.cad_evaluation.specs.Bodies.{Piece, inward, outward, running, most_calls, entered, left, moved_to, message_of, tested, all_tested, preconditions, kept_before, values_before, all_before, passed_before, is_void, value_of_flow, result_aside, result_row, result_in, result_taken, linked_result, linked_content, result_by, result_value, with_result, postconditions, body_run, conditioned}
use Rattle.cad_bounds.proofs.Same.{Runs, Same, Near, Enough, self_units, same_self, same_give, same_fail, same_stuck, same_done, same_spend, same_some, same_guard, same_require, same_by_truth, same_bind}
use Rattle.cad_bounds.proofs.Changing.{same_fill}
use Rattle.cad_bounds.proofs.Ending.{same_ended}
use Rattle.cad_bounds.proofs.Reading.{same_copied}
use Rattle.cad_bounds.proofs.Statements.{same_emits, same_exec_block}
use Rattle.cad_bounds.proofs.Terms.{same_eval}

pub same_entered : (R : Runs) (x1 : Option TypeId) (x2 : Option ℕ) (x3 : Bool) (x4 : Row) → Same R (entered x1 x2 x3 x4) (entered x1 x2 x3 x4)
same_entered R within self initializes arguments = λ s low. (same_require R 124 (nat_lt s.depth most_calls) _ _ (same_self R _ (λ s. self_units s.units))) s low

pub same_left : (R : Runs) → Same R (left) (left)
same_left R = same_bind R _ _ _ _ (same_ended R 0) (λ u1. (same_self R _ (λ s. self_units s.units)))

pub same_moved_to : (R : Runs) (x1 : Option TypeId) → Same R (moved_to x1) (moved_to x1)
same_moved_to R within = same_self R _ (λ s. self_units s.units)

pub same_message_of : (R : Runs) (calls calls' : Calls) (x3 : Option e.TermTree) → Near R calls calls' → Same R (message_of R.first calls x3) (message_of R.second calls' x3)
same_message_of R calls calls' None near = same_done R
same_message_of R calls calls' (Some a) near = same_bind R _ _ _ _ (same_eval R calls calls' a near) (λ u1. (same_done R))

pub same_tested : (R : Runs) (calls calls' : Calls) (x3 : e.ConditionBody) → Near R calls calls' → Same R (tested R.first calls x3) (tested R.second calls' x3)
same_tested R calls calls' (e.test at a message) near = same_bind R _ _ _ _ (same_bind R _ _ _ _ (same_spend R 1) (λ u1. (same_eval R calls calls' a near))) (λ t. (same_by_truth R (truth_of t) _ _ _ _ (same_done R) (same_bind R _ _ _ _ (same_message_of R calls calls' message near) (λ u2. (same_fail R 108)))))
same_tested R calls calls' (e.emitted at id all) near = same_bind R _ _ _ _ (same_spend R 1) (λ u1. (same_emits R calls calls' id all near))

pub same_all_tested : (R : Runs) (calls calls' : Calls) (x3 : List e.ConditionBody) → Near R calls calls' → Same R (all_tested R.first calls x3) (all_tested R.second calls' x3)
same_all_tested R calls calls' [] near = same_done R
same_all_tested R calls calls' (c ∷ cs) near = same_bind R _ _ _ _ (same_tested R calls calls' c near) (λ u1. (same_all_tested R calls calls' cs near))

pub same_preconditions : (R : Runs) (calls calls' : Calls) (x3 : List Piece) → Near R calls calls' → Same R (preconditions R.first calls x3) (preconditions R.second calls' x3)
same_preconditions R calls calls' [] near = same_done R
same_preconditions R calls calls' (p ∷ ps) near = same_bind R _ _ _ _ (same_bind R _ _ _ _ (same_moved_to R p.within) (λ u1. (same_all_tested R calls calls' p.function.pre near))) (λ u2. (same_preconditions R calls calls' ps near))

pub same_kept_before : (R : Runs) (x1 : Tree) → Same R (kept_before x1) (kept_before x1)
same_kept_before R t = same_self R _ (λ s. self_units s.units)

pub same_values_before : (R : Runs) (calls calls' : Calls) (x3 : List e.BeforeTree) → Near R calls calls' → Same R (values_before R.first calls x3) (values_before R.second calls' x3)
same_values_before R calls calls' [] near = same_done R
same_values_before R calls calls' (x ∷ xs) near = same_bind R _ _ _ _ (same_bind R _ _ _ _ (same_eval R calls calls' x.value near) (λ v1. (same_kept_before R v1))) (λ u2. (same_values_before R calls calls' xs near))

pub same_all_before : (R : Runs) (calls calls' : Calls) (x3 : List Piece) → Near R calls calls' → Same R (all_before R.first calls x3) (all_before R.second calls' x3)
same_all_before R calls calls' [] near = same_done R
same_all_before R calls calls' (p ∷ ps) near = same_bind R _ _ _ _ (same_bind R _ _ _ _ (same_moved_to R p.within) (λ u1. (same_values_before R calls calls' p.function.before near))) (λ u2. (same_all_before R calls calls' ps near))

pub same_passed_before : (R : Runs) (x1 : ℕ) → Same R (passed_before x1) (passed_before x1)
same_passed_before R n = same_self R _ (λ s. self_units s.units)

pub same_value_of_flow : (R : Runs) (x1 : PureType) (x2 : Flow) → Same R (value_of_flow x1 x2) (value_of_flow x1 x2)
same_value_of_flow R type (returned t) = same_give R t
same_value_of_flow R type next = same_guard R (is_void type) _ _ (same_give R void_tree)
same_value_of_flow R type _ = same_stuck R

pub same_result_aside : (R : Runs) (x1 : Tree) → Same R (result_aside x1) (result_aside x1)
same_result_aside R t = same_self R _ (λ s. self_units s.units)

pub same_result_in : (R : Runs) (x1 : Slot) → Same R (result_in x1) (result_in x1)
same_result_in R (full t) = same_self R _ (λ s. self_units s.units)
same_result_in R _ = same_stuck R

pub same_result_taken : (R : Runs) → Same R (result_taken) (result_taken)
same_result_taken R = λ s low. (same_result_in R (slot 0 (result_row (newest s)))) s low

pub same_linked_result : (R : Runs) (x1 : Tree) → Same R (linked_result x1) (linked_result x1)
same_linked_result R t = same_self R _ (λ s. self_units s.units)

pub same_linked_content : (R : Runs) (x1 : Tree) (x2 : Content) → Same R (linked_content x1 x2) (linked_content x1 x2)
same_linked_content R t nothing = same_give R nil_tree
same_linked_content R t _ = same_linked_result R t

pub same_result_by : (R : Runs) (x1 : Bool) (x2 : Slot) → Same R (result_by x1 x2) (result_by x1 x2)
same_result_by R true (full t) = same_linked_content R t (content_of t)
same_result_by R false (full t) = same_copied R t
same_result_by R linear _ = same_stuck R

pub same_result_value : (R : Runs) (x1 : PureType) → Same R (result_value x1) (result_value x1)
same_result_value R type = λ s low. (same_result_by R (resource (declarations s) type) (slot 0 (result_row (newest s)))) s low

pub same_with_result : (R : Runs) (x1 : PureType) (x2 : Option e.VariableEntry) (x3 x3' : Action (Unit {0})) → Same R x3 x3' → Same R (with_result x1 x2 x3) (with_result x1 x2 x3')
same_with_result R type None rest rest' h_rest = h_rest
same_with_result R type (Some x) rest rest' h_rest = same_bind R _ _ _ _ (same_bind R _ _ _ _ (same_bind R _ _ _ _ (same_result_value R type) (λ v1. (same_fill R (variable x.number) v1))) (λ u2. h_rest)) (λ u3. (same_ended R x.number))

pub same_postconditions : (R : Runs) (calls calls' : Calls) (x3 : List Piece) → Near R calls calls' → Same R (postconditions R.first calls x3) (postconditions R.second calls' x3)
same_postconditions R calls calls' [] near = same_done R
same_postconditions R calls calls' (p ∷ ps) near = same_bind R _ _ _ _ (same_bind R _ _ _ _ (same_bind R _ _ _ _ (same_moved_to R p.within) (λ u1. (same_with_result R p.function.result p.function.result_variable _ _ (same_all_tested R calls calls' p.function.post near)))) (λ u2. (same_passed_before R (length p.function.before)))) (λ u3. (same_postconditions R calls calls' ps near))

pub same_body_run : (R : Runs) (calls calls' : Calls) (n n' : ℕ) (x4 : Piece) → Near R calls calls' → Enough R.units n n' → Same R (body_run R.first calls n x4) (body_run R.second calls' n' x4)
same_body_run R calls calls' n n' p near h = same_bind R _ _ _ _ (same_bind R _ _ _ _ (same_moved_to R p.within) (λ u1. (same_some R p.function.body _ _ (λ v2. (same_exec_block R calls calls' n n' v2 near h))))) (λ v3. (same_value_of_flow R p.function.result v3))

pub same_conditioned : (R : Runs) (calls calls' : Calls) (n n' : ℕ) (x4 : Option Piece) (x5 : List Piece) → Near R calls calls' → Enough R.units n n' → Same R (conditioned R.first calls n x4 x5) (conditioned R.second calls' n' x4 x5)
same_conditioned R calls calls' n n' own others near h = same_bind R _ _ _ _ (same_bind R _ _ _ _ (same_bind R _ _ _ _ (same_bind R _ _ _ _ (same_bind R _ _ _ _ (same_preconditions R calls calls' (inward own others) near) (λ u1. (same_all_before R calls calls' (outward own others) near))) (λ u2. (same_some R (running own others) _ _ (λ v3. (same_body_run R calls calls' n n' v3 near h))))) (λ v4. (same_result_aside R v4))) (λ u5. (same_postconditions R calls calls' (outward own others) near))) (λ u6. (same_result_taken R))
