-- References that are made, casts, and what a value tells of its type.
use Rattle.std.specs.Prelude.{ℕ, ◌-◌, Bool, true, false, not, Option, Some, None}
use Rattle.cad_syntax.specs.Types.{PureType, reference}
use Rattle.cad_syntax.specs.declared.types.Authorization.{Authorization}
use Rattle.cad_grammar.specs.declared.expression.CastKind.{CastKind}
use Rattle.cad_grammar.specs.declared.expression.CastKind.TheVariants.{Static, Failable, Forced}
use Rattle.cad_types.specs.Below.{below}
use Rattle.cad_types.specs.Optionals.{optionals}
use Rattle.cad_values.specs.Values.{PureValue, meta}
use Rattle.cad_values.specs.Values as v
use Rattle.cad_values.specs.declared.value.Target.{Target}
use Rattle.cad_values.specs.declared.value.Target.TheVariants as to
use Rattle.cad_world.specs.Rows.{link, Tree, stop, plain, NodeShape}
use Rattle.cad_world.specs.State.{Action, ◌>>=◌, give, stuck, fail, require, choose, or_fail, with_some, State}
use Rattle.cad_world.specs.Trees.{of_plain, wrapped, nil_tree}
use Rattle.cad_world.specs.Declared.{declarations}
use Rattle.cad_world.specs.OwnTypes.{own_type}
use Rattle.cad_world.specs.Transfers.{transferred}
use Rattle.cad_world.specs.Locations.{Location, name}
use Rattle.cad_world.specs.Receivers.{Spot, deref, is_reference_shape}
use Rattle.cad_evaluation.specs.Changing.{Content, nothing, content, no_optional, content_of}
use Rattle.cad_evaluation.specs.Numbers.{bool_tree}
use Rattle.cad_evaluation.specs.Reading.{copied}
use Rattle.cad_evaluation.specs.Texts.{in_tree}

-- ---- references

abbrev pub one_less : Bool → ℕ → ℕ
one_less true n = n - 1
one_less false n = n

abbrev pub link_tree : Authorization → ℕ → ℕ → Tree
link_tree a l n = record { optionals = 0; shape = link a l n; parts = stop }

-- a reference to what stands in a place, which is named; it sees these optionals
abbrev pub refer : Authorization → Location → ℕ → Action Tree
refer a x n = name x >>= (λ l. give (link_tree a l n))

-- where the form is an optional, nil stays nil
abbrev pub refer_optional : Authorization → Location → Bool → Content → Tree → Action Tree
refer_optional a x one nothing t = give nil_tree
refer_optional a x one (content v) t = refer a x (one_less one t.optionals) >>= (λ r. give (wrapped r))
refer_optional a x one no_optional t = stuck

abbrev pub refer_to : Authorization → Location → Bool → Bool → Tree → Action Tree
refer_to a x one true t = refer_optional a x one (content_of t) t
refer_to a x one false t = refer a x (one_less one t.optionals)

abbrev pub nil_if : Bool → Action Tree
nil_if true = give nil_tree
nil_if false = stuck

-- `&x as auth(a) &T`: whether one optional is taken off the place, and whether the result is an optional. No reference names
-- a reference: 107.
abbrev pub borrowed : Authorization → Location → Bool → Bool → Option Tree → Action Tree
borrowed a x one wraps None = nil_if wraps
borrowed a x one wraps (Some t) = require 107 (not (is_reference_shape t.shape)) (refer_to a x one wraps t)

-- `*a`: what a reference names is copied
abbrev pub dereferenced : Spot → Action Tree
dereferenced spot = copied spot.tree

-- ---- casts

-- with the own type, 113 of a reference to what is gone
abbrev pub with_type : {A : Type 0} → Tree → (PureType → Action A) → Action A
with_type t f = λ s. or_fail 113 (own_type s t) f s

-- A cast is a use: of a reference to storage it looks at what is stored, whose type counts.
abbrev pub stored_type : Tree → Authorization → Spot → (PureType → Action Tree) → Action Tree
stored_type t a spot f = with_type spot.tree (λ own. f (optionals t.optionals (reference a own)))

abbrev pub with_cast_target : Tree → PureValue → Authorization → Target → (PureType → Action Tree) → Action Tree
with_cast_target t x a (to.Stored address n) f = deref (plain x) >>= (λ spot. stored_type t a spot f)
with_cast_target t x a target f = with_type t f

abbrev pub with_cast_value : Tree → PureValue → (PureType → Action Tree) → Action Tree
with_cast_value t (v.reference a type target) f = with_cast_target t (v.reference a type target) a target f
with_cast_value t x f = with_type t f

abbrev pub with_cast_shape : Tree → NodeShape → (PureType → Action Tree) → Action Tree
with_cast_shape t (plain x) f = with_cast_value t x f
with_cast_shape t shape f = with_type t f

abbrev pub with_cast_type : Tree → (PureType → Action Tree) → Action Tree
with_cast_type t f = with_cast_shape t t.shape f

-- what is of the type comes to it; of anything else the other action
abbrev pub cast_or : Action Tree → PureType → Tree → (Tree → Action Tree) → Action Tree
cast_or otherwise type t f = with_cast_type t (λ own s. choose (below (declarations s) own type) (transferred type t >>= f) otherwise s)

abbrev pub cast : CastKind → PureType → Tree → Action Tree
cast Static type t = with_cast_type t (λ own. transferred type t)
cast Failable type t = cast_or (give nil_tree) type t (λ v. give (wrapped v))
cast Forced type t = cast_or (fail 107) type t give

-- ---- types as values

abbrev pub type_tree : PureType → Tree
type_tree type = of_plain (meta type)

abbrev pub type_in_value : PureValue → Option PureType
type_in_value (meta type) = Some type
type_in_value _ = None

abbrev pub target_of : PureValue → Option PureType
target_of (v.reference a type target) = Some type
target_of x = None

abbrev pub target_in : NodeShape → Option PureType
target_in (plain x) = target_of x
target_in shape = None

-- the type of what a receiver is: of an account, a part of it or a controller that which the reference to it names
abbrev pub spot_type : State → Option ℕ → Option Authorization → Tree → Option PureType
spot_type s None (Some a) t = target_in t.shape
spot_type s label rights t = own_type s t

abbrev pub with_spot_type : Spot → (PureType → Action Tree) → Action Tree
with_spot_type spot f = λ s. or_fail 113 (spot_type s spot.label spot.rights spot.tree) f s

-- `getType()`: of what the receiver is
abbrev pub type_told : Spot → Action Tree
type_told spot = with_spot_type spot (λ own. give (type_tree own))

-- `isInstance(type)`
abbrev pub instance_told : Spot → Tree → Action Tree
instance_told spot t = with_some (in_tree type_in_value t) (λ type. with_spot_type spot (λ own s. give (bool_tree (below (declarations s) own type)) s))
