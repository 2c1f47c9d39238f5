-- Flows: the same while the units last.
use Rattle.std.specs.Prelude.{ℕ, zero, suc, Bool, true, false, Option, Some, None}
use Rattle.cad_syntax.specs.Types.{PureType, optional}
use Rattle.cad_declarations.specs.Typed as e
use Rattle.cad_types.specs.Below.{below}
use Rattle.cad_world.specs.Rows.{Row, stop, gap, node, Tree}
use Rattle.cad_world.specs.State.{Action}
use Rattle.cad_world.specs.Trees.{wrapped, nil_tree}
use Rattle.cad_world.specs.Declared.{declarations}
use Rattle.cad_world.specs.Locations.{Location, variable}
use Rattle.cad_evaluation.specs.Containers.{elements_in}
use Rattle.cad_evaluation.specs.Numbers.{truth_of}
use Rattle.cad_evaluation.specs.Operators.{same}
use Rattle.cad_evaluation.specs.Standing.{Standing, here, is_variable}
use Rattle.cad_evaluation.specs.Texts.{int_tree}
use Rattle.cad_evaluation.specs.Flows.{Flow, next, returned, broken, then_next, then_turn, leave_switch, closed, with_variable, turns, with_index, each_turn, over_elements, nil_stays, if_content, cast_from, if_cast_at, is_case, by_case}
use Rattle.cad_bounds.proofs.Same.{Runs, Same, Enough, a_unit_less, none_low, same_self, same_give, same_stuck, same_done, same_spend, same_some, same_guard, same_choose, same_by_truth, same_bind, ticks_tick, ticks_bind, same_ticks, fewer}
use Rattle.cad_bounds.proofs.Casts.{same_with_type}
use Rattle.cad_bounds.proofs.Changing.{same_fill, same_opened, same_take}
use Rattle.cad_bounds.proofs.Ending.{same_ended}
use Rattle.cad_bounds.proofs.Locations.{same_read}
use Rattle.cad_bounds.proofs.Operators.{same_compared}
use Rattle.cad_bounds.proofs.Transfers.{same_transferred}

pub same_then_next : (R : Runs) (x1 : Flow) (x2 x2' : Action Flow) → Same R x2 x2' → Same R (then_next x1 x2) (then_next x1 x2')
same_then_next R next rest rest' h_rest = h_rest
same_then_next R flow rest rest' h_rest = same_give R flow

pub same_then_turn : (R : Runs) (x1 : Flow) (x2 x2' : Action Flow) → Same R x2 x2' → Same R (then_turn x1 x2) (then_turn x1 x2')
same_then_turn R (returned t) rest rest' h_rest = same_give R (returned t)
same_then_turn R broken rest rest' h_rest = same_give R next
same_then_turn R _ rest rest' h_rest = h_rest

pub same_leave_switch : (R : Runs) (x1 : Flow) → Same R (leave_switch x1) (leave_switch x1)
same_leave_switch R broken = same_give R next
same_leave_switch R flow = same_give R flow

pub same_closed : (R : Runs) (x1 : ℕ) (x2 x2' : Action Flow) → Same R x2 x2' → Same R (closed x1 x2) (closed x1 x2')
same_closed R n body body' h_body = same_bind R _ _ _ _ h_body (λ flow. (same_bind R _ _ _ _ (same_ended R n) (λ u1. (same_give R flow))))

pub same_with_variable : (R : Runs) (x1 : e.VariableEntry) (x2 : Tree) (x3 x3' : Action Flow) → Same R x3 x3' → Same R (with_variable x1 x2 x3) (with_variable x1 x2 x3')
same_with_variable R x t body body' h_body = same_closed R x.number _ _ (same_bind R _ _ _ _ (same_fill R (variable x.number) t) (λ u1. h_body))

pub same_with_index : (R : Runs) (x1 : Option e.VariableEntry) (x2 : ℕ) (x3 x3' : Action Flow) → Same R x3 x3' → Same R (with_index x1 x2 x3) (with_index x1 x2 x3')
same_with_index R None i body body' h_body = h_body
same_with_index R (Some x) i body body' h_body = same_some R (int_tree i) _ _ (λ t. (same_with_variable R x t _ _ h_body))

pub same_each_turn : (R : Runs) (x1 : Option e.VariableEntry) (x2 : e.VariableEntry) (x3 x3' : Action Flow) (x4 : ℕ) (x5 : Row) → Same R x3 x3' → Same R (each_turn x1 x2 x3 x4 x5) (each_turn x1 x2 x3' x4 x5)
same_each_turn R index x body body' i stop h_body = same_give R next
same_each_turn R index x body body' i (gap r) h_body = same_stuck R
same_each_turn R index x body body' i (node l n s k r) h_body = same_bind R _ _ _ _ (same_bind R _ _ _ _ (same_spend R 1) (λ u1. (same_with_index R index i _ _ (same_with_variable R x (record { optionals = n; shape = s; parts = k }) _ _ h_body)))) (λ flow. (same_then_turn R flow _ _ (same_each_turn R index x _ _ (suc i) r h_body)))

pub same_over_elements : (R : Runs) (x1 : Option e.VariableEntry) (x2 : e.VariableEntry) (x3 x3' : Action Flow) (x4 : Tree) → Same R x3 x3' → Same R (over_elements x1 x2 x3 x4) (over_elements x1 x2 x3' x4)
same_over_elements R index x body body' t h_body = same_some R (elements_in t) _ _ (λ v1. (same_each_turn R index x _ _ 0 v1 h_body))

pub same_nil_stays : (R : Runs) (x1 : Option ℕ) → Same R (nil_stays x1) (nil_stays x1)
same_nil_stays R None = same_done R
same_nil_stays R (Some n) = same_fill R (variable n) nil_tree

pub same_if_content : (R : Runs) (x1 : Option ℕ) (x2 : e.VariableEntry) (x3 x3' : Action Flow) (x4 x4' : Action Flow) (x5 : Tree) → Same R x3 x3' → Same R x4 x4' → Same R (if_content x1 x2 x3 x4 x5) (if_content x1 x2 x3' x4' x5)
same_if_content R moved x body body' otherwise otherwise' t h_body h_otherwise = same_opened R t _ _ _ _ (same_bind R _ _ _ _ (same_nil_stays R moved) (λ u1. h_otherwise)) (λ inside. (same_with_variable R x inside _ _ h_body))

pub same_cast_from : (R : Runs) (x1 : PureType) (x2 : Location) (x3 : Option Tree) (x4 x4' : Tree → Action Flow) (x5 x5' : Action Flow) → ((y0 : Tree) → Same R (x4 y0) (x4' y0)) → Same R x5 x5' → Same R (cast_from x1 x2 x3 x4 x5) (cast_from x1 x2 x3 x4' x5')
same_cast_from R type x None f f' otherwise otherwise' h_f h_otherwise = same_stuck R
same_cast_from R type x (Some t) f f' otherwise otherwise' h_f h_otherwise = same_with_type R t _ _ (λ own. (λ s low. (same_choose R (below (declarations s) own type) _ _ _ _ (same_bind R _ _ _ _ (same_bind R _ _ _ _ (same_take R x) (λ v1. (same_transferred R type v1))) h_f) h_otherwise) s low))

pub same_if_cast_at : (R : Runs) (x1 : PureType) (x2 : e.VariableEntry) (x3 x3' : Action Flow) (x4 x4' : Action Flow) (x5 : Standing) → Same R x3 x3' → Same R x4 x4' → Same R (if_cast_at x1 x2 x3 x4 x5) (if_cast_at x1 x2 x3' x4' x5)
same_if_cast_at R type x body body' otherwise otherwise' (here rights place zero) h_body h_otherwise = same_guard R (is_variable place) _ _ (same_bind R _ _ _ _ (same_read R place) (λ t. (same_cast_from R type place t _ _ _ _ (λ v. (same_bind R _ _ _ _ (same_transferred R (optional type) (wrapped v)) (λ v1. (same_if_content R None x _ _ _ _ v1 h_body h_otherwise)))) h_otherwise)))
same_if_cast_at R type x body body' otherwise otherwise' _ h_body h_otherwise = same_stuck R

pub same_is_case : (R : Runs) (x1 : Bool) (x2 : Tree) (x3 : Tree) → Same R (is_case x1 x2 x3) (is_case x1 x2 x3)
same_is_case R true a b = same_give R (same a b)
same_is_case R false a b = same_bind R _ _ _ _ (same_compared R a b) (λ u1. (same_give R (same a b)))

pub same_by_case : (R : Runs) (x1 : Bool) (x2 x2' : Action Flow) (x3 x3' : Action Flow) → Same R x2 x2' → Same R x3 x3' → Same R (by_case x1 x2 x3) (by_case x1 x2' x3')
same_by_case R true body body' rest rest' h_body h_rest = h_body
same_by_case R false body body' rest rest' h_body h_rest = h_rest

-- a turn takes a unit
pub same_turns : (R : Runs) (n n' : ℕ) (test test' : Action Tree) (body body' : Action Flow) → Enough R.units n n' → Same R test test' → Same R body body' → Same R (turns n test body) (turns n' test' body')
same_turns R zero zero test test' body body' h t b = same_self R _ (λ s. tt)
same_turns R zero (suc n') test test' body body' h t b = λ s low. absurd (none_low R.units s.units h low)
same_turns R (suc n) zero test test' body body' h t b = λ s low. absurd (none_low R.units s.units h low)
same_turns R (suc n) (suc n') test test' body body' h t b = same_bind R _ _ _ _ t (λ v. same_by_truth R (truth_of v) _ _ _ _
    (same_ticks R _ _ (ticks_bind R _ _ _ _ (ticks_bind R _ _ _ _ (ticks_tick R) (λ u. fewer R _ _ b))
    (λ flow. same_then_turn (a_unit_less R) flow _ _ (same_turns (a_unit_less R) n n' test test' body body' h (fewer R _ _ t) (fewer R _ _ b)))))
    (same_give R next))
