-- Events, and the end of resources and of variables.
use Rattle.std.specs.Prelude.{ℕ, suc, ◌+◌, Bool, true, false, not, List, [], ◌∷◌, ◌++◌, length, Option, Some, None}
use Rattle.cad_syntax.specs.declared.type_id.TypeId.{TypeId}
use Rattle.cad_declarations.specs.Typed.{TypeBody, DestroyedBody}
use Rattle.cad_values.specs.Forms.{is_told}
use Rattle.cad_world.specs.Rows.{NodeShape, composite, Row, stop, gap, node, Tree, alone, join, front, back, owns, tree_owns, tree_identities}
use Rattle.cad_world.specs.State.{State, Action, ok, ◌>>=◌, ◌>>◌, give, done, require, guard, with_some}
use Rattle.cad_world.specs.Trees.{whole, value_of}
use Rattle.cad_world.specs.Declared.{entry_of, bodies_of}
use Rattle.cad_world.specs.Labels.{variables, with_variables}
use Rattle.cad_world.specs.Transfers.{charged}
use Rattle.cad_evaluation.specs.Callees.{destroyed_event, Calls}
use Rattle.cad_evaluation.specs.Making.{field_names}

-- ---- variables

-- the variables from this number on go; IllTyped where one holds a resource
abbrev pub ended : ℕ → Action (Unit {0})
ended n = λ s. guard (not (owns (back n (variables s)))) (λ s. ok tt (with_variables (front n) s)) s

-- a value goes; IllTyped where it holds a resource
abbrev pub dropped : Tree → Action (Unit {0})
dropped t = guard (not (tree_owns t)) done

-- ---- events

-- the event of a type, with these fields in order
abbrev pub event_of : TypeId → Row → Action Tree
event_of id r = λ s. with_some (entry_of s id) (λ entry. give (whole (composite id 0 (field_names entry.members)) r)) s

-- an event joins the events, 134 where a part of it can't be told
abbrev pub emitted : Tree → Action (Unit {0})
emitted t = require 134 (is_told (value_of t)) (λ s. ok tt (record s { events = s.events ++ value_of t ∷ [] }))

abbrev pub all_emitted : List Tree → Action (Unit {0})
all_emitted [] = done
all_emitted (t ∷ ts) = emitted t >> all_emitted ts

-- ---- the end of resources

abbrev pub has_event : Option TypeBody → Bool
has_event None = false
has_event (Some b) = is_there b.destroyed
  where
    is_there : Option DestroyedBody → Bool
    is_there None = false
    is_there (Some d) = true

-- a resource whose end is told
abbrev pub is_told_of : State → NodeShape → Bool
is_told_of s (composite id (suc i) names) = has_event (bodies_of s id)
is_told_of s shape = false

abbrev pub type_of : NodeShape → List TypeId
type_of (composite id i names) = id ∷ []
type_of _ = []

abbrev pub type_if : Bool → NodeShape → List TypeId
type_if true shape = type_of shape
type_if false shape = []

-- the types of the nodes that pass the test: an outer node before those inside, and those in the order of their places
abbrev pub passing : (NodeShape → Bool) → Row → List TypeId
passing test stop = []
passing test (gap r) = passing test r
passing test (node l n s k r) = type_if (test s) s ++ passing test k ++ passing test r

abbrev pub label_if : Bool → ℕ → List ℕ → List ℕ
label_if true p l = l ++ p ∷ []
label_if false p l = l

abbrev pub one_if : Bool → ℕ
one_if true = 1
one_if false = 0

-- these nodes are named in the same order, by labels from p on
abbrev pub numbered : (NodeShape → Bool) → ℕ → Row → Row
numbered test p stop = stop
numbered test p (gap r) = gap (numbered test p r)
numbered test p (node l n s k r) =
    node (label_if (test s) p l) n s (numbered test (p + one_if (test s)) k) (numbered test (p + one_if (test s) + length (passing test k)) r)

-- the events of the nodes with labels from l on, by their default arguments
abbrev pub events_of : Calls → ℕ → List TypeId → Action (List Tree)
events_of calls l [] = give []
events_of calls l (id ∷ ids) = calls (destroyed_event id l) stop >>= (λ e. events_of calls (suc l) ids >>= (λ es. give (e ∷ es)))

-- what ends stands among what is made until its events are
abbrev pub set_aside : Tree → Action (Unit {0})
set_aside t = λ s. ok tt (record s {
  making = join (numbered (is_told_of s) s.next_label (alone t)) s.making;
  next_label = s.next_label + length (passing (is_told_of s) (alone t));
})

abbrev pub gone : Tree → Action (Unit {0})
gone t = λ s. ok tt (record s { making = back 1 s.making; destroyed = s.destroyed ++ tree_identities t })

-- `destroy`: the events of the whole tree are made, then emitted; its identities join those that were destroyed
abbrev pub destroyed : Calls → Tree → Action (Unit {0})
destroyed calls t = charged t >> (λ s. (set_aside t >> events_of calls s.next_label (passing (is_told_of s) (alone t))) s) >>= all_emitted >> gone t
