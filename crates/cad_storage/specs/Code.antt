-- What is done with what stands in a place of storage, step by step.
use Rattle.std.specs.Prelude.{ℕ, ◌-◌, Bool, true, false, not, Option, Some, None}
use Rattle.cad_syntax.specs.Types.{PureType}
use Rattle.cad_syntax.specs.declared.address.Address.{Address}
use Rattle.cad_syntax.specs.declared.text.Name.{Name}
use Rattle.cad_types.specs.Below.{below}
use Rattle.cad_casts.specs.Settled.{settled, label_in}
use Rattle.cad_evaluation.specs.Casts.{with_type, type_tree}
use Rattle.cad_evaluation.specs.Containers.{void_tree}
use Rattle.cad_evaluation.specs.Numbers.{bool_tree}
use Rattle.cad_evaluation.specs.Reading.{copied}
use Rattle.cad_evaluation.specs.Storage.{is_stored_as, of_stored_type, paid_parts, storing, stored_reference, without}
use Rattle.cad_syntax.specs.declared.types.Authorization.{Authorization}
use Rattle.cad_world.specs.Declared.{declarations}
use Rattle.cad_world.specs.Labels.{stored_slot, with_account}
use Rattle.cad_world.specs.Rows.{Tree, Slot, out, free, full, bare_tree, tree_owns}
use Rattle.cad_world.specs.State.{Action, ok, ◌>>=◌, ◌>>◌, done, fail, give, guard, require, stuck}
use Rattle.cad_world.specs.Trees.{nil_tree, tree_weight, wrapped}

-- something is done with what an account stores under an identifier now
abbrev pub at_stored : {A : Type 0} → (Slot → Action A) → Address → Name → Action A
at_stored f a name = λ s. f (stored_slot s a.0 name) s

-- with the value that stands there
abbrev pub of_full : {A : Type 0} → (Tree → Action A) → Slot → Action A
of_full p (full t) = p t
of_full p _ = stuck

-- ---- own types

-- the label of the node to which what stands there refers
abbrev pub slot_label : Slot → Option ℕ
slot_label (full t) = label_in t.shape
slot_label _ = None

-- the node to which what stands there refers is there
abbrev pub settled_slot : Slot → Action (Unit {0})
settled_slot (full t) = settled t.shape
settled_slot _ = done

-- the own type of what stands there; none where nothing does
abbrev pub slot_type : Slot → Action (Option PureType)
slot_type (full t) = with_type t (λ own. give (Some own))
slot_type out = give None
slot_type free = stuck

-- a type as a value in an optional, or nil
abbrev pub told : Option PureType → Tree
told None = nil_tree
told (Some own) = wrapped (type_tree own)

-- whether there is something, and it has such a type
abbrev pub is_of : Option PureType → PureType → Action Bool
is_of None type = give false
is_of (Some own) type = λ s. give (below (declarations s) own type) s

-- the same of what stands there, as a value
abbrev pub checked : PureType → Slot → Action Tree
checked type slot = is_stored_as type slot >>= (λ x. give (bool_tree x))

-- whether there is something; 112 where it hasn't such a type
abbrev pub passed : Option PureType → PureType → Action Bool
passed None type = give false
passed (Some own) type = λ s. require 112 (below (declarations s) own type) (give true) s

-- ---- what has a type

-- something is done with what stands there if it is of the type, 112 if not; nil where nothing stands there
abbrev pub typed : PureType → (Tree → Action Tree) → Slot → Action Tree
typed type p (full t) = of_stored_type type t (p t)
typed type p out = give nil_tree
typed type p free = stuck

-- whether something stands there; 112 where it isn't of the type
abbrev pub there_as : PureType → Slot → Action Bool
there_as type (full t) = of_stored_type type t (give true)
there_as type out = give false
there_as type free = stuck

-- a unit for each part but the first
abbrev pub slot_parts : Slot → ℕ
slot_parts (full t) = tree_weight t - 1
slot_parts _ = 0

-- its parts are paid, and then it is used
abbrev pub paid_of : (Tree → Action Tree) → Tree → Action Tree
paid_of p t = paid_parts t >> p t

-- it leaves its place, and comes in an optional
abbrev pub taken : Address → Name → Tree → Action Tree
taken a name t = λ s. ok (wrapped (bare_tree t)) (with_account a.0 (without name) s)

abbrev pub paid_and_taken : Address → Name → Tree → Action Tree
paid_and_taken a name = paid_of (taken a name)

abbrev pub slot_owns : Slot → Bool
slot_owns (full t) = tree_owns t
slot_owns _ = false

-- IllTyped where there is a resource in it
abbrev pub copyable : Slot → Action (Unit {0})
copyable slot = guard (not (slot_owns slot)) done

abbrev pub copied_whole : Tree → Action Tree
copied_whole t = give (wrapped (bare_tree t))

abbrev pub paid_and_copied : Tree → Action Tree
paid_and_copied = paid_of copied_whole

-- where there is no resource in it
abbrev pub copied_if : Tree → Action Tree
copied_if t = copied t >>= (λ c. paid_parts t >> give (wrapped c))

-- a reference to what the account stores, in an optional, whatever that is
abbrev pub referred : Address → Name → Authorization → PureType → Tree → Action Tree
referred a name own type t = give (wrapped (stored_reference a name own type))

-- ---- what comes to storage

-- 111 where something stands there
abbrev pub vacant : Slot → Action (Unit {0})
vacant (full t) = fail 111
vacant out = done
vacant free = stuck

abbrev pub stored : Address → Name → Tree → Action Tree
stored a name t = λ s. ok void_tree (with_account a.0 (storing name t) s)

abbrev pub paid_and_stored : Address → Name → Tree → Action Tree
paid_and_stored a name t = paid_parts t >> stored a name t
