-- Capabilities: published in accounts, issued and led by controllers, and what they lend.
use Rattle.std.specs.Prelude.{ℕ, suc, ◌-◌, ◌^◌, Bool, true, false, not, ◌&&◌, ◌||◌, ◌==◌, nat_lt, List, [], ◌∷◌, ◌++◌, map, filter, find, Option, Some, None, option_and_then, if◌then◌else◌}
use Rattle.std.specs.Option.{is_some}
use Rattle.cad_syntax.specs.Types.{PureType, basic, reference}
use Rattle.cad_syntax.specs.declared.address.Address.{Address}
use Rattle.cad_syntax.specs.declared.address.Domain.TheVariants as d
use Rattle.cad_syntax.specs.declared.address.Path.{Path}
use Rattle.cad_syntax.specs.declared.num.Num.{Num}
use Rattle.cad_syntax.specs.declared.text.Name.{Name}
use Rattle.cad_syntax.specs.declared.types.Authorization.TheVariants.{Unauthorized}
use Rattle.cad_syntax.specs.declared.types.Basic.TheVariants as b
use Rattle.cad_auth.specs.Tests.{grants}
use Rattle.cad_declarations.specs.Names.{same_name}
use Rattle.cad_types.specs.Below.{below}
use Rattle.cad_types.specs.Declarations.{Declaration}
use Rattle.cad_values.specs.Shapes.{is_reference_type}
use Rattle.cad_values.specs.Values as v
use Rattle.cad_values.specs.Values.{PureValue}
use Rattle.cad_values.specs.declared.value.Target.TheVariants as to
use Rattle.cad_world.specs.Declared.{declarations}
use Rattle.cad_world.specs.Labels.{account_at, stored_slot, with_account}
use Rattle.cad_world.specs.Orders.{insert_in, publication_before}
use Rattle.cad_world.specs.OwnTypes.{controller_at}
use Rattle.cad_world.specs.Receivers.{Spot}
use Rattle.cad_world.specs.Rows.{Row, Tree, Slot, out, free, full}
use Rattle.cad_world.specs.State.{Publication, Controller, Account, State, Action, ok, ◌>>=◌, give, stuck, guard, require, or_fail, with_some}
use Rattle.cad_world.specs.Trees.{of_plain, nil_tree, wrapped}
use Rattle.cad_evaluation.specs.Accounts.{there}
use Rattle.cad_evaluation.specs.Arguments.{argument, with_argument, with_identifier}
use Rattle.cad_evaluation.specs.Casts.{type_tree}
use Rattle.cad_evaluation.specs.Containers.{void_tree}
use Rattle.cad_evaluation.specs.Numbers.{bool_tree, number_in}
use Rattle.cad_evaluation.specs.Reading.{unsigned_64}
use Rattle.cad_evaluation.specs.Storage.{is_stored_as, stored_reference}
use Rattle.cad_evaluation.specs.Texts.{in_tree, text_in, text_tree, optional_tree}

-- the account, the number there, and the reference type that is lent
pub record Capability : Type 0 where
  pub address : Address
  pub number : ℕ
  pub lent : PureType

abbrev pub capability_tree : Capability → Tree
capability_tree c = of_plain (v.capability c.address c.number c.lent)

abbrev pub capability_in_value : PureValue → Option Capability
capability_in_value (v.capability a n type) = Some (record { address = a; number = n; lent = type })
capability_in_value _ = None

abbrev pub capability_in : Tree → Option Capability
capability_in t = in_tree capability_in_value t

-- the authorization of the one reference type grants that of the other
abbrev pub grants_type : PureType → PureType → Bool
grants_type (reference own t) (reference need u) = grants own need
grants_type t u = false

-- one of the targets is below the other
abbrev pub targets_meet : List Declaration → PureType → PureType → Bool
targets_meet k (reference a t) (reference b u) = below k t u || below k u t
targets_meet k t u = false

-- ---- `issue`

-- the greatest number of a controller that may be next
abbrev pub last_controller : ℕ
last_controller = 2 ^ 64 - 1

-- a controller with the account's next number
abbrev pub issuing : PureType → Name → Account → Account
issuing type target a = record a {
  controllers = a.controllers ++ record { number = a.next_controller; borrow = type; tag = []; target = target } ∷ [];
  next_controller = suc a.next_controller;
}

abbrev pub issued : Address → PureType → Name → Account → Action Tree
issued a type target account = require 135 (nat_lt account.next_controller last_controller)
    (λ s. ok (capability_tree (record { address = a; number = account.next_controller; lent = type })) (with_account a.0 (issuing type target) s))

-- 135 where no number is left
abbrev pub issue : PureType → Row → Address → Action Tree
issue type r a = guard (is_reference_type type) (with_identifier d.Storage 0 r (λ target s. with_some (account_at s.accounts a.0) (issued a type target) s))

-- ---- what is published

abbrev pub published_in : Name → Option Account → Option Publication
published_in name None = None
published_in name (Some a) = find (λ p. same_name p.identifier name) a.published

abbrev pub published_at : State → Address → Name → Option Publication
published_at s a name = published_in name (account_at s.accounts a.0)

abbrev pub publishing : Publication → Account → Account
publishing p a = record a { published = insert_in publication_before p a.published }

abbrev pub unpublishing : Name → Account → Account
unpublishing name a = record a { published = filter (λ p. not (same_name p.identifier name)) a.published }

-- the account's own, and led by a controller
abbrev pub is_own : Address → Capability → Bool
is_own a c = (c.address.0 == a.0) && not (c.number == 0)

abbrev pub publish_free : Address → Capability → Name → Action Tree
publish_free a c name = λ s.
    require 116 (not (is_some (published_at s a name)))
    (λ s. ok void_tree (with_account a.0 (publishing (record { identifier = name; number = c.number; lent = c.lent })) s)) s

-- `publish`: 117 of a capability of another account or of number 0, then 116 where one is published there
abbrev pub publish : Row → Address → Action Tree
publish r a = there a (with_some (option_and_then capability_in (argument 0 r)) (λ c. with_identifier d.Public 1 r (λ name. require 117 (is_own a c) (publish_free a c name))))

abbrev pub capability_of : Address → Publication → Capability
capability_of a p = record { address = a; number = p.number; lent = p.lent }

abbrev pub unpublished : Address → Name → Option Publication → Action Tree
unpublished a name None = give nil_tree
unpublished a name (Some p) = λ s. ok (wrapped (capability_tree (capability_of a p))) (with_account a.0 (unpublishing name) s)

-- `unpublish`: the capability, or nil
abbrev pub unpublish : Row → Address → Action Tree
unpublish r a = there a (with_identifier d.Public 0 r (λ name s. unpublished a name (published_at s a name) s))

-- `exists`
abbrev pub exists : Row → Address → Action Tree
exists r a = with_identifier d.Public 0 r (λ name s. give (bool_tree (is_some (published_at s a name))) s)

-- ---- `get`

-- the published number where its authorization grants what is asked for and the targets meet; else 0
abbrev pub number_as : List Declaration → PureType → Option Publication → ℕ
number_as k type None = 0
number_as k type (Some p) = if grants_type p.lent type && targets_meet k p.lent type then p.number else 0

-- a capability of the type that is asked for, never of the published one
abbrev pub got : State → Address → PureType → Name → Capability
got s a type name = record { address = a; number = number_as (declarations s) type (published_at s a name); lent = type }

abbrev pub get : PureType → Row → Address → Action Tree
get type r a = guard (is_reference_type type) (with_identifier d.Public 0 r (λ name s. give (capability_tree (got s a type name)) s))

-- ---- what a capability lends

abbrev pub target_of : PureType → Option Controller → Option Name
target_of type None = None
target_of type (Some c) = if grants_type c.borrow type then Some c.target else None

-- the identifier in storage to which the capability leads: its controller is there, and grants what it lends
abbrev pub aimed_at : State → Capability → Option Name
aimed_at s c = if c.number == 0 then None else target_of c.lent (controller_at s c.address.0 c.number)

abbrev pub reference_if : Bool → Tree → Option Tree
reference_if true t = Some t
reference_if false t = None

abbrev pub lent_as : Capability → Name → PureType → Action (Option Tree)
lent_as c name (reference own type) = λ s.
    (is_stored_as type (stored_slot s c.address.0 name) >>= (λ x. give (reference_if x (stored_reference c.address name own type)))) s
lent_as c name _ = stuck

abbrev pub lent_at : Capability → Option Name → Action (Option Tree)
lent_at c None = give None
lent_at c (Some name) = lent_as c name c.lent

-- A reference to what is stored there now, if that is of the type that the capability lends. None of number 0, of a controller
-- that isn't there or doesn't grant it, and where storage has no value of the type.
abbrev pub lent_by : Capability → Action (Option Tree)
lent_by c = λ s. lent_at c (aimed_at s c) s

abbrev pub on_capability : Spot → (Capability → Action Tree) → Action Tree
on_capability spot f = with_some (capability_in spot.tree) f

-- `borrow` of a capability
abbrev pub lend : Capability → Action Tree
lend c = lent_by c >>= (λ t. give (optional_tree t))

-- `check` of a capability
abbrev pub lends : Capability → Action Tree
lends c = lent_by c >>= (λ t. give (bool_tree (is_some t)))

-- `borrow` of what is published
abbrev pub borrow_published : PureType → Row → Address → Action Tree
borrow_published type r a = guard (is_reference_type type) (with_identifier d.Public 0 r (λ name s. lend (got s a type name) s))

abbrev pub read_number : Capability → Action Tree
read_number c = with_some (unsigned_64 c.number) give

abbrev pub read_home : Capability → Action Tree
read_home c = give (of_plain (v.address c.address))

-- ---- controllers

abbrev pub controller_reference : Address → ℕ → Tree
controller_reference a n = of_plain (v.reference Unauthorized (basic b.StorageCapabilityController) (to.Controller a n))

abbrev pub found_controller : Address → ℕ → Option Controller → Tree
found_controller a n None = nil_tree
found_controller a n (Some c) = wrapped (controller_reference a n)

-- `getController`: a reference to the account's controller of that number, or nil
abbrev pub get_controller : Row → Address → Action Tree
get_controller r a = with_some (option_and_then number_in (argument 0 r)) (λ n s. give (found_controller a n.magnitude (controller_at s a.0 n.magnitude)) s)

-- the account and the number
pub record ControllerId : Type 0 where
  pub address : Address
  pub number : ℕ

abbrev pub controller_in_value : PureValue → Option ControllerId
controller_in_value (v.reference a type (to.Controller address n)) = Some (record { address = address; number = n })
controller_in_value _ = None

-- with the controller, 113 where it was deleted
abbrev pub on_controller : Spot → (ControllerId → Controller → Action Tree) → Action Tree
on_controller spot f = with_some (in_tree controller_in_value spot.tree) (λ i s. or_fail 113 (controller_at s i.address.0 i.number) (f i) s)

abbrev pub change_controller : ℕ → (Controller → Controller) → List Controller → List Controller
change_controller n g all = map (λ c. if c.number == n then g c else c) all

abbrev pub with_controller : ControllerId → (Controller → Controller) → State → State
with_controller i g s = with_account i.address.0 (λ a. record a { controllers = change_controller i.number g a.controllers }) s

abbrev pub without_controller : ControllerId → State → State
without_controller i s = with_account i.address.0 (λ a. record a { controllers = filter (λ c. not (c.number == i.number)) a.controllers }) s

abbrev pub becomes : (Controller → Controller) → ControllerId → Action Tree
becomes g i = λ s. ok void_tree (with_controller i g s)

-- the number, the type that may be borrowed, the tag, and the path that it has now
abbrev pub read_controller_number : Spot → Action Tree
read_controller_number spot = on_controller spot (λ i c. with_some (unsigned_64 c.number) give)

abbrev pub read_borrow_type : Spot → Action Tree
read_borrow_type spot = on_controller spot (λ i c. give (type_tree c.borrow))

abbrev pub read_tag : Spot → Action Tree
read_tag spot = on_controller spot (λ i c. give (text_tree c.tag))

abbrev pub read_target : Spot → Action Tree
read_target spot = on_controller spot (λ i c. give (of_plain (v.path (record { domain = d.Storage; identifier = c.target }))))

abbrev pub set_tag : Row → Spot → Action Tree
set_tag r spot = on_controller spot (λ i c. with_some (option_and_then text_in (argument 0 r)) (λ text. becomes (λ x. record x { tag = text }) i))

abbrev pub retarget : Row → Spot → Action Tree
retarget r spot = on_controller spot (λ i c. with_identifier d.Storage 0 r (λ name. becomes (λ x. record x { target = name }) i))

abbrev pub delete : Spot → Action Tree
delete spot = on_controller spot (λ i c s. ok void_tree (without_controller i s))
