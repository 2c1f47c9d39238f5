-- Declarations of types, and what is found in a list of them.
use Rattle.std.specs.Prelude.{◌≡◌, Bool, true, false, List, [], ◌∷◌, Option, Some, None, map, if◌then◌else◌}
use Rattle.std.specs.List.{list_any}
use Rattle.std.specs.Option.{is_some}
use Rattle.cad_syntax.specs.TypeIds.{same_id, has}
use Rattle.cad_syntax.specs.Types.{PureType, basic, optional, array, dictionary, intersection, declared, reference, capability, capability_of, pure_type}
use Rattle.cad_syntax.specs.declared.type_id.TypeId.{TypeId}
use Rattle.cad_syntax.specs.declared.types.Basic.{Basic}
use Rattle.cad_syntax.specs.declared.types.Basic.TheVariants as b
use Rattle.cad_types.specs.declared.declared.Declared.{Declared}
use Rattle.cad_types.specs.declared.declared.Sort.{Sort}
use Rattle.cad_types.specs.declared.declared.Sort.TheVariants as s

-- a declared type, without where its fields' types lie in memory
pub record Declaration : Type 0 where
  pub id : TypeId
  pub sort : Sort
  pub fields : List PureType
  pub interfaces : List TypeId

abbrev pub declaration_of : Declared → Declaration
declaration_of d = record { id = d.id; sort = d.sort; fields = map pure_type d.fields; interfaces = d.interfaces }

-- the first declaration of an identifier
abbrev pub found : List Declaration → TypeId → Option Declaration
found [] id = None
found (d ∷ ds) id = if same_id d.id id then Some d else found ds id

abbrev pub is_declared : List Declaration → TypeId → Bool
is_declared k id = is_some (found k id)

abbrev pub interfaces_in : Option Declaration → List TypeId
interfaces_in None = []
interfaces_in (Some d) = d.interfaces

-- the interfaces that a declared type has, by linearisation
abbrev pub interfaces_of : List Declaration → TypeId → List TypeId
interfaces_of k id = interfaces_in (found k id)

abbrev pub is_resource_sort : Sort → Bool
is_resource_sort s.Resource = true
is_resource_sort s.ResourceInterface = true
is_resource_sort _ = false

abbrev pub resource_in : Option Declaration → Bool
resource_in None = false
resource_in (Some d) = is_resource_sort d.sort

-- a resource, or an interface of resources
abbrev pub is_resource_id : List Declaration → TypeId → Bool
is_resource_id k id = resource_in (found k id)

abbrev pub is_any_resource : Basic → Bool
is_any_resource b.AnyResource = true
is_any_resource _ = false

-- the resource types: AnyResource, resources, intersections of their interfaces, and optionals, arrays and dictionaries of
-- these
abbrev pub resource : List Declaration → PureType → Bool
resource k (basic t) = is_any_resource t
resource k (optional t) = resource k t
resource k (array t) = resource k t
resource k (dictionary key value) = resource k value
resource k (intersection ids) = list_any (is_resource_id k) ids
resource k (declared id) = is_resource_id k id
resource k (reference a t) = false
resource k capability = false
resource k (capability_of t) = false

-- the interfaces of an interface that a type has are its own too
abbrev pub IsClosed : List Declaration → Type 0
IsClosed k = (i j m : TypeId) → has (interfaces_of k i) j ≡ true → has (interfaces_of k j) m ≡ true → has (interfaces_of k i) m ≡ true
