-- Uses: labels are kept apart, and values in hand have none.
use Rattle.std.specs.Prelude.{ℕ, Bool, true, false, ◌&&◌, List, [], ◌∷◌, ◌++◌, length, Option, Some, None}
use Rattle.cad_syntax.specs.Types.{PureType}
use Rattle.cad_syntax.specs.declared.text.Name.{Name}
use Rattle.cad_types.specs.Declarations.{resource}
use Rattle.cad_types.specs.declared.builtin.Builtin.{Builtin}
use Rattle.cad_declarations.specs.Builtins.{is_read}
use Rattle.cad_world.specs.Rows.{array, dictionary, Row, stop, Tree, first, slot, put, add_last, count_places}
use Rattle.cad_world.specs.State.{Action}
use Rattle.cad_world.specs.Trees.{whole, value_of}
use Rattle.cad_world.specs.Declared.{declarations}
use Rattle.cad_world.specs.Labels.{newest}
use Rattle.cad_world.specs.Locations.{variable, key_position}
use Rattle.cad_world.specs.Receivers.{Spot}
use Rattle.cad_world.specs.Transfers.{rounded}
use Rattle.cad_evaluation.specs.Access.{member_of, serves}
use Rattle.cad_evaluation.specs.Arguments.{in_slot}
use Rattle.cad_evaluation.specs.Callees.{method, Calls}
use Rattle.cad_evaluation.specs.Changing.{Content, nothing, content, no_optional, content_of}
use Rattle.cad_evaluation.specs.Numbers.{truth_of, bool_tree}
use Rattle.cad_evaluation.specs.Reading.{composite_id}
use Rattle.cad_evaluation.specs.Uses.{before, array_of, Pair, Table, with_key, with_pairs, dictionary_of, is_function, callable, invoked, tick_if_called, held, forced, taken_if, coalesced, nil_of, turned_if, nil_told, truth_only, both, either, before_row, before_value}
use Rattle.std.proofs.Common.{refl}
use Rattle.cad_labels.specs.Laws.{HasNone, HasNoneInRow, Keeps, AnyOne, CalleesKeep}
use Rattle.cad_label_runs.proofs.Values.{PairHasNone, PairsHaveNone, TableHasNone}
use Rattle.cad_world.specs.State.{give, done, fail}
use Rattle.cad_label_runs.proofs.Values.{opened_keeps, room_keeps, taken_none}
use Rattle.cad_labels.proofs.Forms.{first_none, keeps_by_truth, keeps_choose, keeps_done, keeps_fail, keeps_give, keeps_guard, keeps_some, keeps_spend, keeps_stuck, last_none, put_none, stop_none}
use Rattle.cad_labels.proofs.Keeping.{keeps_bind}
use Rattle.cad_labels.proofs.Members.{copied_keeps}
use Rattle.cad_labels.proofs.Places.{ending_keeps, filling_keeps}

pub before_keeps : (x1 : Tree) (x2 : Row) → HasNone x1 → HasNoneInRow x2 → Keeps HasNoneInRow (before x1 x2)
before_keeps t r n0 n1 = keeps_give HasNoneInRow (first t r) (first_none t r n0 n1)

pub array_of_keeps : (x1 : PureType) (x2 : Row) → HasNoneInRow x2 → Keeps HasNone (array_of x1 x2)
array_of_keeps type r n1 = room_keeps HasNone (count_places r) _ (keeps_give HasNone (whole (array type) r) n1)

pub with_key_keeps : (x1 : Bool) (x2 : Table) (x3 : Pair) (x4 : Option ℕ) → TableHasNone x2 → PairHasNone x3 → Keeps TableHasNone (with_key x1 x2 x3 x4)
with_key_keeps is_linear table p None n1 n2 = keeps_give TableHasNone (record { keys = table.keys ++ value_of p.key ∷ []; values = add_last p.value table.values }) (last_none p.value table.values n2 n1)
with_key_keeps true table p (Some i) n1 n2 = keeps_fail TableHasNone 115
with_key_keeps false table p (Some i) n1 n2 = keeps_give TableHasNone (record table { values = put i p.value table.values }) (put_none i p.value table.values n2 n1)

pub with_pairs_keeps : (x1 : Bool) (x2 : Table) (x3 : List Pair) → TableHasNone x2 → PairsHaveNone x3 → Keeps TableHasNone (with_pairs x1 x2 x3)
with_pairs_keeps is_linear table [] n1 n2 = keeps_give TableHasNone table n1
with_pairs_keeps is_linear table (p ∷ ps) n1 n2 = keeps_bind TableHasNone TableHasNone _ _ (with_key_keeps is_linear table p (key_position (value_of p.key) table.keys) n1 n2.0) (λ more h_more. with_pairs_keeps is_linear more ps h_more n2.1)

pub dictionary_of_keeps : (x1 : PureType) (x2 : PureType) (x3 : List Pair) → PairsHaveNone x3 → Keeps HasNone (dictionary_of x1 x2 x3)
dictionary_of_keeps key value ps n2 = λ s once. (keeps_bind TableHasNone HasNone _ _ (with_pairs_keeps (resource (declarations s) value) (record { keys = []; values = stop }) ps stop_none n2) (λ table h_table. room_keeps HasNone (length table.keys) _ (keeps_give HasNone (whole (dictionary key value table.keys) table.values) h_table))) s once

pub callable_keeps : (x1 : Name) (x2 : Spot) → Keeps AnyOne (callable x1 x2)
callable_keeps name spot = λ s once. (keeps_some AnyOne (composite_id spot.tree) _ (λ id. keeps_some AnyOne (member_of s name id) _ (λ m. keeps_guard AnyOne (is_function m.form && serves s id m spot.rights) done keeps_done))) s once

pub invoked_keeps : (calls : Calls) (x2 : Name) (x3 : Row) (x4 : Spot) → CalleesKeep calls → HasNoneInRow x3 → Keeps HasNone (invoked calls x2 x3 x4)
invoked_keeps calls name r spot keep n2 = keeps_some HasNone (composite_id spot.tree) _ (λ id. keeps_some HasNone spot.label _ (λ l. keep (method id name l) r n2))

pub tick_if_called_keeps : (x1 : Builtin) → Keeps AnyOne (tick_if_called x1)
tick_if_called_keeps b = keeps_choose AnyOne (is_read b) done _ keeps_done (keeps_spend 1)

pub held_keeps : (x1 : ℕ) (x2 : Tree) (x3 : Action Tree) → HasNone x2 → Keeps HasNone x3 → Keeps HasNone (held x1 x2 x3)
held_keeps n t rest n1 h_rest = keeps_bind HasNone HasNone _ _ (keeps_bind AnyOne HasNone _ _ (filling_keeps (variable n) t n1) (λ u1 h_u1. h_rest)) (λ r h_r. keeps_bind AnyOne HasNone _ (λ u2. give r) (ending_keeps n) (λ u2 h_u2. keeps_give HasNone r h_r))

pub forced_keeps : (x1 : Tree) → HasNone x1 → Keeps HasNone (forced x1)
forced_keeps t n0 = opened_keeps HasNone t (fail 106) (λ v1. give v1) n0 (keeps_fail HasNone 106) (λ v1 h_v1. keeps_give HasNone v1 h_v1)

pub coalesced_keeps : (x1 : Bool) (x2 : PureType) (x3 : Tree) (x4 : Action Tree) → HasNone x3 → Keeps HasNone x4 → Keeps HasNone (coalesced x1 x2 x3 x4)
coalesced_keeps takes type t right n2 h_right = opened_keeps HasNone t _ (λ inside. give (taken_if takes t inside)) n2 (keeps_bind HasNone HasNone _ (λ v. give (rounded type v)) h_right (λ v h_v. keeps_give HasNone (rounded type v) h_v)) (λ inside h_inside. keeps_give HasNone (taken_if takes t inside) (taken_none takes t inside n2 h_inside))

pub nil_of_keeps : (x1 : Content) → Keeps AnyOne (nil_of x1)
nil_of_keeps nothing = keeps_give {A = Bool} AnyOne true tt
nil_of_keeps (content t) = keeps_give {A = Bool} AnyOne false tt
nil_of_keeps no_optional = keeps_stuck {A = Bool} AnyOne

pub nil_told_keeps : (x1 : Bool) (x2 : Tree) → Keeps HasNone (nil_told x1 x2)
nil_told_keeps negated t = keeps_bind AnyOne HasNone _ (λ x. give (bool_tree (turned_if negated x))) (nil_of_keeps (content_of t)) (λ x h_x. keeps_give HasNone (bool_tree (turned_if negated x)) (λ p. refl))

pub truth_only_keeps : (x1 : Tree) → Keeps HasNone (truth_only x1)
truth_only_keeps t = keeps_some HasNone (truth_of t) (λ x. give (bool_tree x)) (λ x. keeps_give HasNone (bool_tree x) (λ p. refl))

pub both_keeps : (x1 : Tree) (x2 : Action Tree) → Keeps HasNone x2 → Keeps HasNone (both x1 x2)
both_keeps t right h_right = keeps_by_truth HasNone (truth_of t) _ (give (bool_tree false)) (keeps_bind HasNone HasNone _ _ h_right (λ v1 h_v1. truth_only_keeps v1)) (keeps_give HasNone (bool_tree false) (λ p. refl))

pub either_keeps : (x1 : Tree) (x2 : Action Tree) → Keeps HasNone x2 → Keeps HasNone (either x1 x2)
either_keeps t right h_right = keeps_by_truth HasNone (truth_of t) (give (bool_tree true)) _ (keeps_give HasNone (bool_tree true) (λ p. refl)) (keeps_bind HasNone HasNone _ _ h_right (λ v1 h_v1. truth_only_keeps v1))

pub before_value_keeps : (x1 : ℕ) → Keeps HasNone (before_value x1)
before_value_keeps n = λ s once. (keeps_some HasNone (in_slot (slot n (before_row (newest s)))) _ (λ v1. copied_keeps v1)) s once
