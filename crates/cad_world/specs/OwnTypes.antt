-- The own types of nodes, values and references.
use Rattle.std.specs.Prelude.{ℕ, Bool, true, List, [], ◌∷◌, ◌==◌, Option, Some, None, option_map, option_and_then, if◌then◌else◌}
use Rattle.std.specs.Option.{is_some}
use Rattle.cad_syntax.specs.Types.{PureType, reference, declared}
use Rattle.cad_syntax.specs.Types as t
use Rattle.cad_values.specs.Values.{PureValue}
use Rattle.cad_values.specs.Values as v
use Rattle.cad_values.specs.Types.{type_of_value}
use Rattle.cad_values.specs.declared.value.Target.{Target}
use Rattle.cad_values.specs.declared.value.Target.TheVariants as to
use Rattle.cad_types.specs.Optionals.{optionals}
use Rattle.cad_world.specs.Rows.{NodeShape, plain, link, array, dictionary, composite, Tree}
use Rattle.cad_world.specs.State.{Account, Controller, State}
use Rattle.cad_world.specs.Labels.{at, account_at}

-- ---- controllers

abbrev pub controller_in : List Controller → ℕ → Option Controller
controller_in [] n = None
controller_in (c ∷ all) n = if c.number == n then Some c else controller_in all n

abbrev pub controller_of : Option Account → ℕ → Option Controller
controller_of None n = None
controller_of (Some a) n = controller_in a.controllers n

-- an account's controller of a number
abbrev pub controller_at : State → ℕ → ℕ → Option Controller
controller_at s address n = controller_of (account_at s.accounts address) n

-- ---- own types

-- of a node without its optionals; a reference to a node isn't known by its shape
abbrev pub solid_type : NodeShape → Option PureType
solid_type (plain v) = Some (type_of_value v)
solid_type (link a l n) = None
solid_type (array element) = Some (t.array element)
solid_type (dictionary key value ks) = Some (t.dictionary key value)
solid_type (composite id i ns) = Some (declared id)

-- what a label stands for, in so many optionals
abbrev pub type_at : State → ℕ → ℕ → Option PureType
type_at s l n = option_and_then (λ f. option_map (optionals n) (solid_type f.tree.shape)) (at l s)

-- the controller of a reference may have been deleted; what is stored isn't looked at
abbrev pub leads : State → Target → Bool
leads s (to.Controller a n) = is_some (controller_at s a.0 n)
leads s _ = true

abbrev pub plain_type : State → PureValue → Option PureType
plain_type s (v.reference a t target) = if leads s target then Some (reference a t) else None
plain_type s v = Some (type_of_value v)

-- None of a reference that leads nowhere any more. A reference to a node is of the type of that node, as it sees it.
abbrev pub shape_type : State → NodeShape → Option PureType
shape_type s (plain v) = plain_type s v
shape_type s (link a l n) = option_map (reference a) (type_at s l n)
shape_type s shape = solid_type shape

abbrev pub own_type : State → Tree → Option PureType
own_type s t = option_map (optionals t.optionals) (shape_type s t.shape)
