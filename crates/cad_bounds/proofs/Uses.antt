-- Uses: the same while the units last.
use Rattle.std.specs.Prelude.{ℕ, Bool, true, false, ◌&&◌, List, [], ◌∷◌, ◌++◌, length, Option, Some, None}
use Rattle.cad_syntax.specs.Types.{PureType}
use Rattle.cad_syntax.specs.declared.text.Name.{Name}
use Rattle.cad_types.specs.Declarations.{resource}
use Rattle.cad_types.specs.declared.builtin.Builtin.{Builtin}
use Rattle.cad_declarations.specs.Builtins.{is_read}
use Rattle.cad_world.specs.Rows.{array, dictionary, Row, stop, Tree, first, slot, put, add_last, count_places}
use Rattle.cad_world.specs.State.{Action}
use Rattle.cad_world.specs.Trees.{whole, value_of}
use Rattle.cad_world.specs.Declared.{declarations}
use Rattle.cad_world.specs.Labels.{newest}
use Rattle.cad_world.specs.Locations.{variable, key_position}
use Rattle.cad_world.specs.Receivers.{Spot}
use Rattle.cad_world.specs.Transfers.{rounded}
use Rattle.cad_evaluation.specs.Access.{member_of, serves}
use Rattle.cad_evaluation.specs.Arguments.{in_slot}
use Rattle.cad_evaluation.specs.Callees.{method, Calls}
use Rattle.cad_evaluation.specs.Changing.{Content, nothing, content, no_optional, content_of}
use Rattle.cad_evaluation.specs.Numbers.{truth_of, bool_tree}
use Rattle.cad_evaluation.specs.Reading.{composite_id}
use Rattle.cad_evaluation.specs.Uses.{before, array_of, Pair, Table, with_key, with_pairs, dictionary_of, is_function, callable, invoked, tick_if_called, held, forced, taken_if, coalesced, nil_of, turned_if, nil_told, truth_only, both, either, before_row, before_value}
use Rattle.cad_bounds.proofs.Same.{Runs, Same, Now, same_give, same_fail, same_stuck, same_done, same_spend, same_some, same_guard, same_choose, same_by_truth, same_bind}
use Rattle.cad_bounds.proofs.Changing.{same_fill, same_opened}
use Rattle.cad_bounds.proofs.Containers.{same_room}
use Rattle.cad_bounds.proofs.Ending.{same_ended}
use Rattle.cad_bounds.proofs.Reading.{same_copied}

pub same_before : (R : Runs) (x1 : Tree) (x2 : Row) → Same R (before x1 x2) (before x1 x2)
same_before R t r = same_give R (first t r)

pub same_array_of : (R : Runs) (x1 : PureType) (x2 : Row) → Same R (array_of x1 x2) (array_of x1 x2)
same_array_of R type r = same_room R (count_places r) _ _ (same_give R (whole (array type) r))

pub same_with_key : (R : Runs) (x1 : Bool) (x2 : Table) (x3 : Pair) (x4 : Option ℕ) → Same R (with_key x1 x2 x3 x4) (with_key x1 x2 x3 x4)
same_with_key R is_linear table p None = same_give R (record { keys = table.keys ++ value_of p.key ∷ []; values = add_last p.value table.values })
same_with_key R true table p (Some i) = same_fail R 115
same_with_key R false table p (Some i) = same_give R (record table { values = put i p.value table.values })

pub same_with_pairs : (R : Runs) (x1 : Bool) (x2 : Table) (x3 : List Pair) → Same R (with_pairs x1 x2 x3) (with_pairs x1 x2 x3)
same_with_pairs R is_linear table [] = same_give R table
same_with_pairs R is_linear table (p ∷ ps) = same_bind R _ _ _ _ (same_with_key R is_linear table p (key_position (value_of p.key) table.keys)) (λ more. (same_with_pairs R is_linear more ps))

pub same_dictionary_of : (R : Runs) (x1 : PureType) (x2 : PureType) (x3 : List Pair) → Same R (dictionary_of x1 x2 x3) (dictionary_of x1 x2 x3)
same_dictionary_of R key value ps = λ s low. (same_bind R _ _ _ _ (same_with_pairs R (resource (declarations s) value) (record { keys = []; values = stop }) ps) (λ table. (same_room R (length table.keys) _ _ (same_give R (whole (dictionary key value table.keys) table.values))))) s low

pub same_callable : (R : Runs) (x1 : Name) (x2 : Spot) → Same R (callable x1 x2) (callable x1 x2)
same_callable R name spot = λ s low. (same_some R (composite_id spot.tree) _ _ (λ id. (same_some R (member_of s name id) _ _ (λ m. (same_guard R (is_function m.form && serves s id m spot.rights) _ _ (same_done R)))))) s low

pub same_invoked : (R : Runs) (calls calls' : Calls) (x2 : Name) (x3 : Row) (x4 : Spot) → Now R calls calls' → Same R (invoked calls x2 x3 x4) (invoked calls' x2 x3 x4)
same_invoked R calls calls' name r spot now = same_some R (composite_id spot.tree) _ _ (λ id. (same_some R spot.label _ _ (λ l. (now (method id name l) r))))

pub same_tick_if_called : (R : Runs) (x1 : Builtin) → Same R (tick_if_called x1) (tick_if_called x1)
same_tick_if_called R b = same_choose R (is_read b) _ _ _ _ (same_done R) (same_spend R 1)

pub same_held : (R : Runs) (x1 : ℕ) (x2 : Tree) (x3 x3' : Action Tree) → Same R x3 x3' → Same R (held x1 x2 x3) (held x1 x2 x3')
same_held R n t rest rest' h_rest = same_bind R _ _ _ _ (same_bind R _ _ _ _ (same_fill R (variable n) t) (λ u1. h_rest)) (λ r. (same_bind R _ _ _ _ (same_ended R n) (λ u2. (same_give R r))))

pub same_forced : (R : Runs) (x1 : Tree) → Same R (forced x1) (forced x1)
same_forced R t = same_opened R t _ _ _ _ (same_fail R 106) (λ v1. (same_give R v1))

pub same_coalesced : (R : Runs) (x1 : Bool) (x2 : PureType) (x3 : Tree) (x4 x4' : Action Tree) → Same R x4 x4' → Same R (coalesced x1 x2 x3 x4) (coalesced x1 x2 x3 x4')
same_coalesced R takes type t right right' h_right = same_opened R t _ _ _ _ (same_bind R _ _ _ _ h_right (λ v. (same_give R (rounded type v)))) (λ inside. (same_give R (taken_if takes t inside)))

pub same_nil_of : (R : Runs) (x1 : Content) → Same R (nil_of x1) (nil_of x1)
same_nil_of R nothing = same_give R true
same_nil_of R (content t) = same_give R false
same_nil_of R no_optional = same_stuck R

pub same_nil_told : (R : Runs) (x1 : Bool) (x2 : Tree) → Same R (nil_told x1 x2) (nil_told x1 x2)
same_nil_told R negated t = same_bind R _ _ _ _ (same_nil_of R (content_of t)) (λ x. (same_give R (bool_tree (turned_if negated x))))

pub same_truth_only : (R : Runs) (x1 : Tree) → Same R (truth_only x1) (truth_only x1)
same_truth_only R t = same_some R (truth_of t) _ _ (λ x. (same_give R (bool_tree x)))

pub same_both : (R : Runs) (x1 : Tree) (x2 x2' : Action Tree) → Same R x2 x2' → Same R (both x1 x2) (both x1 x2')
same_both R t right right' h_right = same_by_truth R (truth_of t) _ _ _ _ (same_bind R _ _ _ _ h_right (λ v1. (same_truth_only R v1))) (same_give R (bool_tree false))

pub same_either : (R : Runs) (x1 : Tree) (x2 x2' : Action Tree) → Same R x2 x2' → Same R (either x1 x2) (either x1 x2')
same_either R t right right' h_right = same_by_truth R (truth_of t) _ _ _ _ (same_give R (bool_tree true)) (same_bind R _ _ _ _ h_right (λ v1. (same_truth_only R v1)))

pub same_before_value : (R : Runs) (x1 : ℕ) → Same R (before_value x1) (before_value x1)
same_before_value R n = λ s low. (same_some R (in_slot (slot n (before_row (newest s)))) _ _ (λ v1. (same_copied R v1))) s low
