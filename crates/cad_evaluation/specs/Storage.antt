-- What an account stores: the calls of its storage.
use Rattle.std.specs.Prelude.{ℕ, zero, suc, ◌-◌, Bool, false, List, [], ◌∷◌, insert, remove, Option, Some, None, if◌then◌else◌}
use Rattle.cad_syntax.specs.Types.{PureType, reference}
use Rattle.cad_syntax.specs.declared.address.Address.{Address}
use Rattle.cad_syntax.specs.declared.address.Domain.TheVariants as d
use Rattle.cad_syntax.specs.declared.text.Name.{Name}
use Rattle.cad_syntax.specs.declared.types.Authorization.{Authorization}
use Rattle.cad_types.specs.Below.{below}
use Rattle.cad_values.specs.Values as v
use Rattle.cad_values.specs.declared.value.Target.TheVariants as to
use Rattle.cad_world.specs.Declared.{declarations}
use Rattle.cad_world.specs.Labels.{position_of, stored_slot, with_account}
use Rattle.cad_world.specs.Orders.{name_before}
use Rattle.cad_world.specs.Rows.{Row, Tree, Slot, out, free, full, wedge, cut, bare_tree}
use Rattle.cad_world.specs.State.{Account, Action, ok, ◌>>=◌, ◌>>◌, give, stuck, fail, require, spend}
use Rattle.cad_world.specs.Trees.{of_plain, wrapped, nil_tree, tree_weight}
use Rattle.cad_evaluation.specs.Accounts.{there}
use Rattle.cad_evaluation.specs.Arguments.{with_argument, with_identifier}
use Rattle.cad_evaluation.specs.Casts.{with_type, type_tree}
use Rattle.cad_evaluation.specs.Containers.{void_tree}
use Rattle.cad_evaluation.specs.Numbers.{bool_tree}
use Rattle.cad_evaluation.specs.Reading.{copied}

-- ---- the map

-- how many identifiers stand before this one
abbrev pub place_for : Name → List Name → ℕ
place_for name [] = 0
place_for name (n ∷ ns) = if name_before n name then suc (place_for name ns) else 0

-- a value under an identifier that the account lacks
abbrev pub storing_at : ℕ → Name → Tree → Account → Account
storing_at i name t a = record a { identifiers = insert a.identifiers i name; stored = wedge i t a.stored }

abbrev pub storing : Name → Tree → Account → Account
storing name t a = storing_at (place_for name a.identifiers) name t a

abbrev pub without_place : Option ℕ → Account → Account
without_place None a = a
without_place (Some i) a = record a { identifiers = remove a.identifiers i; stored = cut i a.stored }

-- without what stands under an identifier
abbrev pub without : Name → Account → Account
without name a = without_place (position_of name a.identifiers) a

-- a unit for each part of a value but the first
abbrev pub paid_parts : Tree → Action (Unit {0})
paid_parts t = spend (tree_weight t - 1)

-- 112 where what is stored isn't of the type, 113 where it is a reference to what is gone
abbrev pub of_stored_type : {A : Type 0} → PureType → Tree → Action A → Action A
of_stored_type type t p = with_type t (λ own s. require 112 (below (declarations s) own type) p s)

-- ---- `save`

abbrev pub saved : Address → Name → Tree → Slot → Action Tree
saved a name t (full old) = fail 111
saved a name t out = paid_parts t >> (λ s. ok void_tree (with_account a.0 (storing name t) s))
saved a name t free = stuck

-- 111 where something is stored there
abbrev pub save : Row → Address → Action Tree
save r a = there a (with_argument r (λ t. with_identifier d.Storage 1 r (λ name s. saved a name t (stored_slot s a.0 name) s)))

-- ---- `load` and `copy`

abbrev pub loaded : Address → Name → PureType → Slot → Action Tree
loaded a name type (full t) = of_stored_type type t (paid_parts t >> (λ s. ok (wrapped (bare_tree t)) (with_account a.0 (without name) s)))
loaded a name type out = give nil_tree
loaded a name type free = stuck

-- what is stored leaves its place; nil where nothing is
abbrev pub load : PureType → Row → Address → Action Tree
load type r a = with_identifier d.Storage 0 r (λ name s. loaded a name type (stored_slot s a.0 name) s)

abbrev pub copy_of : PureType → Slot → Action Tree
copy_of type (full t) = of_stored_type type t (copied t >>= (λ c. paid_parts t >> give (wrapped c)))
copy_of type out = give nil_tree
copy_of type free = stuck

abbrev pub copy : PureType → Row → Address → Action Tree
copy type r a = with_identifier d.Storage 0 r (λ name s. copy_of type (stored_slot s a.0 name) s)

-- ---- `borrow`

-- a reference to what an account stores under an identifier, whatever that will be when it is used
abbrev pub stored_reference : Address → Name → Authorization → PureType → Tree
stored_reference a name own type = of_plain (v.reference own type (to.Stored a name))

abbrev pub borrowed_as : Address → Name → PureType → Slot → Action Tree
borrowed_as a name (reference own type) (full t) = of_stored_type type t (give (wrapped (stored_reference a name own type)))
borrowed_as a name (reference own type) out = give nil_tree
borrowed_as a name type place = stuck

abbrev pub borrow : PureType → Row → Address → Action Tree
borrow type r a = with_identifier d.Storage 0 r (λ name s. borrowed_as a name type (stored_slot s a.0 name) s)

-- ---- `check` and `type`

abbrev pub is_stored_as : PureType → Slot → Action Bool
is_stored_as type (full t) = with_type t (λ own s. give (below (declarations s) own type) s)
is_stored_as type out = give false
is_stored_as type free = stuck

abbrev pub check : PureType → Row → Address → Action Tree
check type r a = with_identifier d.Storage 0 r (λ name s. (is_stored_as type (stored_slot s a.0 name) >>= (λ x. give (bool_tree x))) s)

abbrev pub type_of_stored : Slot → Action Tree
type_of_stored (full t) = with_type t (λ own. give (wrapped (type_tree own)))
type_of_stored out = give nil_tree
type_of_stored free = stuck

abbrev pub type_at : Row → Address → Action Tree
type_at r a = with_identifier d.Storage 0 r (λ name s. type_of_stored (stored_slot s a.0 name) s)
