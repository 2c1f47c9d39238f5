-- The arguments of built-in members: a row, one in each place.
use Rattle.std.specs.Prelude.{ℕ, Bool, List, [], ◌∷◌, Option, Some, None, option_and_then, if◌then◌else◌}
use Rattle.cad_syntax.specs.Types.{PureType}
use Rattle.cad_syntax.specs.declared.address.Domain.{Domain}
use Rattle.cad_syntax.specs.declared.address.Path.{Path}
use Rattle.cad_syntax.specs.declared.text.Name.{Name}
use Rattle.cad_values.specs.Values.{PureValue, path}
use Rattle.cad_world.specs.Rows.{Row, Tree, Slot, full, slot}
use Rattle.cad_world.specs.Same.{same_domain}
use Rattle.cad_world.specs.State.{Action, stuck, with_some}
use Rattle.cad_evaluation.specs.Texts.{in_tree}

abbrev pub in_slot : Slot → Option Tree
in_slot (full t) = Some t
in_slot _ = None

-- the argument at a place of the row
abbrev pub argument : ℕ → Row → Option Tree
argument i r = in_slot (slot i r)

abbrev pub with_argument : Row → (Tree → Action Tree) → Action Tree
with_argument r f = with_some (argument 0 r) f

abbrev pub with_arguments : Row → (Tree → Tree → Action Tree) → Action Tree
with_arguments r f = with_some (argument 0 r) (λ a. with_some (argument 1 r) (λ b. f a b))

-- the one type argument
abbrev pub with_type_argument : List PureType → (PureType → Action Tree) → Action Tree
with_type_argument (type ∷ []) f = f type
with_type_argument _ f = stuck

-- ---- paths

abbrev pub identifier_in_value : Domain → PureValue → Option Name
identifier_in_value domain (path p) = if same_domain p.domain domain then Some p.identifier else None
identifier_in_value domain _ = None

-- the identifier of a path into the domain
abbrev pub identifier_in : Domain → Tree → Option Name
identifier_in domain t = in_tree (identifier_in_value domain) t

-- with the identifier of the path that is the argument at a place
abbrev pub with_identifier : Domain → ℕ → Row → (Name → Action Tree) → Action Tree
with_identifier domain i r f = with_some (option_and_then (identifier_in domain) (argument i r)) f
