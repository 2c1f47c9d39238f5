-- Which trees are values of a type: those without a reference to a node are the values that they stand for.
use Rattle.std.specs.Prelude.{◌≡◌, ◌≤◌, Bool, true, false, not, ◌&&◌, zero, List}
use Rattle.cad_syntax.specs.Types.{PureType}
use Rattle.cad_types.specs.declared.declared.Sort.{Sort}
use Rattle.cad_types.specs.Declarations.{is_resource_sort}
use Rattle.cad_values.specs.Forms.{is_storable_value}
use Rattle.cad_values.specs.Sizes.{height, most_high}
use Rattle.cad_values.specs.Shapes.{Shapes, shape_of, has_sort}
use Rattle.cad_values.specs.Types.{type_of_value}
use Rattle.cad_values.specs.Values.{PureValue}
use Rattle.cad_values.specs.Fits as of
use Rattle.cad_world.specs.Rows.{NodeShape, composite, Row, stop, gap, node, Tree, alone}
use Rattle.cad_world.specs.Trees.{tree_of, value_of}

-- the tree is that of its value: no part of it has a label, names a node, or is an empty place
abbrev pub IsOfValue : Tree → Type 0
IsOfValue t = tree_of (value_of t) ≡ t

-- Fits k t want: the tree is a value of this type
abbrev pub Fits : Shapes → Tree → PureType → Type 0
Fits k t want = IsOfValue t × of.Fits k (value_of t) want

-- what is of its own type: all in it is as that type says
abbrev pub FitsItself : Shapes → Tree → Type 0
FitsItself k t = Fits k t (type_of_value (value_of t))

-- a composite of a resource type has an identity
abbrev pub has_identity : Shapes → NodeShape → Bool
has_identity k (composite id zero names) = not (has_sort is_resource_sort (shape_of k id))
has_identity k shape = true

-- each resource in the row has an identity
abbrev pub have_identities : Shapes → Row → Bool
have_identities k stop = true
have_identities k (gap r) = have_identities k r
have_identities k (node l n s parts r) = has_identity k s && (have_identities k parts && have_identities k r)

-- a value that can stand in an account between commands
pub record Lasts (k : Shapes) (t : Tree) : Type 0 where
  pub of_value : IsOfValue t
  pub storable : is_storable_value (value_of t) ≡ true
  pub low : height (value_of t) ≤ most_high
  pub identities : have_identities k (alone t) ≡ true
