-- What `result` is.
use Rattle.std.specs.Prelude.{ℕ, suc, Bool, true, false, ◌&&◌, ◌==◌, Option, Some, None, if◌then◌else◌}
use Rattle.cad_syntax.specs.declared.types.Authorization.TheVariants.{Unauthorized}
use Rattle.cad_values.specs.Values.{PureValue, nil}
use Rattle.cad_world.specs.Labels.{newest, with_frame}
use Rattle.cad_world.specs.Rows.{NodeShape, plain, Tree, Slot, full, slot, named}
use Rattle.cad_world.specs.State.{Frame, Action, ok}
use Rattle.cad_evaluation.specs.Bodies.{result_by, result_row}
use Rattle.cad_evaluation.specs.Casts.{link_tree}
use Rattle.cad_making.specs.declared.results.Seen.{Seen}
use Rattle.cad_making.specs.declared.results.Seen.TheVariants as seen

-- whether a value, a shape or a node is nil
abbrev pub is_nil_in : PureValue → Bool
is_nil_in nil = true
is_nil_in _ = false

abbrev pub is_nil_node : NodeShape → Bool
is_nil_node (plain x) = is_nil_in x
is_nil_node _ = false

abbrev pub is_nil_tree : Tree → Bool
is_nil_tree t = (t.optionals == 0) && is_nil_node t.shape

-- what a reference to a node, or to what stands in a place, sees
abbrev pub seen_in : Tree → Seen
seen_in t = if is_nil_tree t then seen.Nil else seen.Content t.optionals

abbrev pub seen_at : Slot → Option Seen
seen_at (full t) = Some (seen_in t)
seen_at _ = None

-- a reference to a node, in so many optionals
abbrev pub link_in : ℕ → ℕ → Tree
link_in label n = record (link_tree Unauthorized label 0) { optionals = n }

-- the result of a call is named
abbrev pub named_result : ℕ → Frame → Frame
named_result label f = record f { result = named 0 label f.result }

-- the result is named, and a reference to it is given
abbrev pub linked_in : ℕ → Action Tree
linked_in n = λ s. ok (link_in s.next_label n) (with_frame (named_result s.next_label) (record s { next_label = suc s.next_label }))

-- the result by whether it is of a resource type
abbrev pub result_of : Bool → Action Tree
result_of linear = λ s. result_by linear (slot 0 (result_row (newest s))) s
