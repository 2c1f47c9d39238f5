-- The own types of nodes and values, where it is known what a label stands for.
use Rattle.std.specs.Prelude.{◌≡◌, ℕ, Bool, true, false, Option, Some, None, option_map, option_and_then}
use Rattle.std.specs.Option.{is_some}
use Rattle.cad_syntax.specs.Types.{PureType, reference}
use Rattle.cad_access.specs.Shapes.{is_controller, shape_leads}
use Rattle.cad_types.specs.Optionals.{optionals}
use Rattle.cad_values.specs.Types.{type_of_value}
use Rattle.cad_values.specs.Values.{PureValue}
use Rattle.cad_values.specs.Values as v
use Rattle.cad_values.specs.declared.value.Target.TheVariants as to
use Rattle.cad_world.specs.Rows.{NodeShape, plain, link, Tree}
use Rattle.cad_world.specs.State.{State}
use Rattle.cad_world.specs.Labels.{at}
use Rattle.cad_world.specs.OwnTypes.{controller_at, solid_type}

-- whether a reference to a controller leads to one that is there; nothing is said of other values
abbrev pub LeadsThere : State → PureValue → Bool → Type 0
LeadsThere s (v.reference a t (to.Controller address n)) is = is ≡ is_some (controller_at s address.0 n)
LeadsThere s x is = Unit {0}

-- LeadsTo s shape o: o is the shape of the node to which a reference of this shape leads in s, None where that is gone; of a
-- reference to a controller it is something where that is there. Nothing is said of other shapes.
abbrev pub LeadsTo : State → NodeShape → Option NodeShape → Type 0
LeadsTo s (link a l n) o = option_map (λ f. f.tree.shape) (at l s) ≡ o
LeadsTo s (plain x) o = LeadsThere s x (is_some o)
LeadsTo s shape o = Unit {0}

-- whether it is known of a reference to a controller, that leads there, that it leads nowhere
abbrev pub leads_nowhere : NodeShape → Option NodeShape → Bool
leads_nowhere shape None = shape_leads is_controller shape
leads_nowhere shape (Some other) = false

-- of what a reference sees in so many optionals
abbrev pub seen_type : ℕ → Option NodeShape → Option PureType
seen_type n o = option_and_then (λ shape. option_map (optionals n) (solid_type shape)) o

-- of a shape that leads there
abbrev pub type_of_shape : Option NodeShape → NodeShape → Option PureType
type_of_shape o (plain v) = Some (type_of_value v)
type_of_shape o (link a l n) = option_map (reference a) (seen_type n o)
type_of_shape o shape = solid_type shape
