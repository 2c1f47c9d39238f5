-- Flows: labels are kept apart, and values in hand have none.
use Rattle.cad_labels.proofs.Forms.{keeps_by_truth, keeps_spend, keeps_give}
use Rattle.std.specs.Prelude.{ℕ, zero, suc, Bool, true, false, Option, Some, None}
use Rattle.cad_syntax.specs.Types.{PureType, optional}
use Rattle.cad_declarations.specs.Typed as e
use Rattle.cad_types.specs.Below.{below}
use Rattle.cad_world.specs.Rows.{Row, stop, gap, node, Tree}
use Rattle.cad_world.specs.State.{Action}
use Rattle.cad_world.specs.Trees.{wrapped, nil_tree}
use Rattle.cad_world.specs.Declared.{declarations}
use Rattle.cad_world.specs.Locations.{Location, variable}
use Rattle.cad_evaluation.specs.Containers.{elements_in}
use Rattle.cad_evaluation.specs.Numbers.{truth_of}
use Rattle.cad_evaluation.specs.Operators.{same}
use Rattle.cad_evaluation.specs.Standing.{Standing, here, is_variable}
use Rattle.cad_evaluation.specs.Texts.{int_tree}
use Rattle.std.proofs.Common.{refl}
use Rattle.cad_evaluation.specs.Flows.{Flow, next, returned, broken, then_next, then_turn, leave_switch, closed, with_variable, turns, with_index, each_turn, over_elements, nil_stays, if_content, cast_from, if_cast_at, is_case, by_case}
use Rattle.std.proofs.Common.{refl}
use Rattle.cad_labels.specs.Laws.{HasNone, HasNoneInRow, Keeps, AnyOne}
use Rattle.cad_label_runs.proofs.Values.{FlowHasNone}
use Rattle.cad_world.specs.State.{give}
use Rattle.cad_label_runs.proofs.Operators.{compared_keeps}
use Rattle.cad_label_runs.proofs.Values.{int_none, opened_keeps}
use Rattle.cad_labels.proofs.Accounts.{type_keeps}
use Rattle.cad_labels.proofs.Forms.{elements_none, keeps_choose, keeps_done, keeps_give, keeps_guard, keeps_spend, keeps_stuck, keeps_within, node_none, rest_none}
use Rattle.cad_labels.proofs.Keeping.{keeps_bind}
use Rattle.cad_labels.proofs.Places.{ending_keeps, filling_keeps, read_keeps, taking_keeps, transferred_keeps}

pub then_next_keeps : (x1 : Flow) (x2 : Action Flow) → FlowHasNone x1 → Keeps FlowHasNone x2 → Keeps FlowHasNone (then_next x1 x2)
then_next_keeps next rest n0 h_rest = h_rest
then_next_keeps flow rest n0 h_rest = keeps_give FlowHasNone flow n0

pub then_turn_keeps : (x1 : Flow) (x2 : Action Flow) → FlowHasNone x1 → Keeps FlowHasNone x2 → Keeps FlowHasNone (then_turn x1 x2)
then_turn_keeps (returned t) rest n0 h_rest = keeps_give FlowHasNone (returned t) n0
then_turn_keeps broken rest n0 h_rest = keeps_give FlowHasNone next tt
then_turn_keeps _ rest n0 h_rest = h_rest

pub leave_switch_keeps : (x1 : Flow) → FlowHasNone x1 → Keeps FlowHasNone (leave_switch x1)
leave_switch_keeps broken n0 = keeps_give FlowHasNone next tt
leave_switch_keeps flow n0 = keeps_give FlowHasNone flow n0

pub closed_keeps : (x1 : ℕ) (x2 : Action Flow) → Keeps FlowHasNone x2 → Keeps FlowHasNone (closed x1 x2)
closed_keeps n body h_body = keeps_bind FlowHasNone FlowHasNone _ _ h_body (λ flow h_flow. keeps_bind AnyOne FlowHasNone _ (λ u1. give flow) (ending_keeps n) (λ u1 h_u1. keeps_give FlowHasNone flow h_flow))

pub with_variable_keeps : (x1 : e.VariableEntry) (x2 : Tree) (x3 : Action Flow) → HasNone x2 → Keeps FlowHasNone x3 → Keeps FlowHasNone (with_variable x1 x2 x3)
with_variable_keeps x t body n1 h_body = closed_keeps x.number _ (keeps_bind AnyOne FlowHasNone _ _ (filling_keeps (variable x.number) t n1) (λ u1 h_u1. h_body))

pub with_index_keeps : (x1 : Option e.VariableEntry) (x2 : ℕ) (x3 : Action Flow) → Keeps FlowHasNone x3 → Keeps FlowHasNone (with_index x1 x2 x3)
with_index_keeps None i body h_body = h_body
with_index_keeps (Some x) i body h_body = keeps_within HasNone FlowHasNone (int_tree i) _ (int_none i) (λ t h_t. with_variable_keeps x t _ h_t h_body)

pub each_turn_keeps : (x1 : Option e.VariableEntry) (x2 : e.VariableEntry) (x3 : Action Flow) (x4 : ℕ) (x5 : Row) → HasNoneInRow x5 → Keeps FlowHasNone x3 → Keeps FlowHasNone (each_turn x1 x2 x3 x4 x5)
each_turn_keeps index x body i stop n4 h_body = keeps_give FlowHasNone next tt
each_turn_keeps index x body i (gap r) n4 h_body = keeps_stuck FlowHasNone
each_turn_keeps index x body i (node l n s k r) n4 h_body = keeps_bind FlowHasNone FlowHasNone _ _ (keeps_bind AnyOne FlowHasNone _ _ (keeps_spend 1) (λ u1 h_u1. with_index_keeps index i _ (with_variable_keeps x (record { optionals = n; shape = s; parts = k }) _ (node_none l n s k r n4) h_body))) (λ flow h_flow. then_turn_keeps flow _ h_flow (each_turn_keeps index x _ (suc i) r (rest_none l n s k r n4) h_body))

pub over_elements_keeps : (x1 : Option e.VariableEntry) (x2 : e.VariableEntry) (x3 : Action Flow) (x4 : Tree) → HasNone x4 → Keeps FlowHasNone x3 → Keeps FlowHasNone (over_elements x1 x2 x3 x4)
over_elements_keeps index x body t n3 h_body = keeps_within HasNoneInRow FlowHasNone (elements_in t) _ (elements_none t n3) (λ v1 h_v1. each_turn_keeps index x _ 0 v1 h_v1 h_body)

pub nil_stays_keeps : (x1 : Option ℕ) → Keeps AnyOne (nil_stays x1)
nil_stays_keeps None = keeps_done
nil_stays_keeps (Some n) = filling_keeps (variable n) nil_tree (λ p. refl)

pub if_content_keeps : (x1 : Option ℕ) (x2 : e.VariableEntry) (x3 : Action Flow) (x4 : Action Flow) (x5 : Tree) → HasNone x5 → Keeps FlowHasNone x3 → Keeps FlowHasNone x4 → Keeps FlowHasNone (if_content x1 x2 x3 x4 x5)
if_content_keeps moved x body otherwise t n4 h_body h_otherwise = opened_keeps FlowHasNone t _ _ n4 (keeps_bind AnyOne FlowHasNone _ _ (nil_stays_keeps moved) (λ u1 h_u1. h_otherwise)) (λ inside h_inside. with_variable_keeps x inside _ h_inside h_body)

pub cast_from_keeps : (x1 : PureType) (x2 : Location) (x3 : Option Tree) (x4 : Tree → Action Flow) (x5 : Action Flow) → ((y0 : Tree) → HasNone y0 → Keeps FlowHasNone (x4 y0)) → Keeps FlowHasNone x5 → Keeps FlowHasNone (cast_from x1 x2 x3 x4 x5)
cast_from_keeps type x None f otherwise h_f h_otherwise = keeps_stuck FlowHasNone
cast_from_keeps type x (Some t) f otherwise h_f h_otherwise = type_keeps FlowHasNone t _ (λ own. λ s once. (keeps_choose FlowHasNone (below (declarations s) own type) _ _ (keeps_bind HasNone FlowHasNone _ _ (keeps_bind HasNone HasNone _ _ (taking_keeps x) (λ v1 h_v1. transferred_keeps type v1 h_v1)) (λ w1 w2. h_f w1 w2)) h_otherwise) s once)

pub if_cast_at_keeps : (x1 : PureType) (x2 : e.VariableEntry) (x3 : Action Flow) (x4 : Action Flow) (x5 : Standing) → Keeps FlowHasNone x3 → Keeps FlowHasNone x4 → Keeps FlowHasNone (if_cast_at x1 x2 x3 x4 x5)
if_cast_at_keeps type x body otherwise (here rights place zero) h_body h_otherwise = keeps_guard FlowHasNone (is_variable place) _ (keeps_bind AnyOne FlowHasNone _ _ (read_keeps place) (λ t h_t. cast_from_keeps type place t _ _ (λ v h_v. keeps_bind HasNone FlowHasNone _ _ (transferred_keeps (optional type) (wrapped v) h_v) (λ v1 h_v1. if_content_keeps None x _ _ v1 h_v1 h_body h_otherwise)) h_otherwise))
if_cast_at_keeps type x body otherwise _ h_body h_otherwise = keeps_stuck FlowHasNone

pub is_case_keeps : (x1 : Bool) (x2 : Tree) (x3 : Tree) → Keeps AnyOne (is_case x1 x2 x3)
is_case_keeps true a b = keeps_give {A = Bool} AnyOne (same a b) tt
is_case_keeps false a b = keeps_bind AnyOne AnyOne _ (λ u1. give (same a b)) (compared_keeps a b) (λ u1 h_u1. keeps_give {A = Bool} AnyOne (same a b) tt)

pub by_case_keeps : (x1 : Bool) (x2 : Action Flow) (x3 : Action Flow) → Keeps FlowHasNone x2 → Keeps FlowHasNone x3 → Keeps FlowHasNone (by_case x1 x2 x3)
by_case_keeps true body rest h_body h_rest = h_body
by_case_keeps false body rest h_body h_rest = h_rest

pub turns_keeps : (n : ℕ) (test : Action Tree) (body : Action Flow) → Keeps HasNone test → Keeps FlowHasNone body → Keeps FlowHasNone (turns n test body)
turns_keeps zero test body t b = λ s once. tt
turns_keeps (suc n) test body t b = keeps_bind HasNone FlowHasNone _ _ t (λ v h. keeps_by_truth FlowHasNone (truth_of v) _ (give next)
    (keeps_bind FlowHasNone FlowHasNone _ _ (keeps_bind AnyOne FlowHasNone _ _ (keeps_spend 1) (λ u w. b))
    (λ flow k. then_turn_keeps flow _ k (turns_keeps n test body t b))) (keeps_give FlowHasNone next tt))
