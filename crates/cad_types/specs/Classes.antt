-- Which types can be stored, which arguments can have and which can be handed out: the greatest classes with these rules. While
-- a type is judged, the same type met again inside it counts as in the class.
use Rattle.std.specs.Prelude.{◌≡◌, Bool, true, false, ◌&&◌, ◌||◌, List, [], Option, Some, None}
use Rattle.std.specs.List.{list_all}
use Rattle.cad_syntax.specs.Types.{PureType, basic, optional, array, dictionary, intersection, declared, reference, capability, capability_of}
use Rattle.cad_syntax.specs.declared.types.Basic.{Basic}
use Rattle.cad_syntax.specs.declared.types.Basic.TheVariants as b
use Rattle.cad_types.specs.Declarations.{Declaration, found}
use Rattle.cad_types.specs.declared.declared.Sort.{Sort}
use Rattle.cad_types.specs.declared.declared.Sort.TheVariants as s

abbrev pub fields_in : Option Declaration → List PureType
fields_in None = []
fields_in (Some d) = d.fields

abbrev pub has_sort : (Sort → Bool) → Option Declaration → Bool
has_sort test None = false
has_sort test (Some d) = test d.sort

-- structs and enums
abbrev pub is_data_sort : Sort → Bool
is_data_sort s.Struct = true
is_data_sort s.Enum = true
is_data_sort _ = false

-- resources and events
abbrev pub is_carried_sort : Sort → Bool
is_carried_sort s.Resource = true
is_carried_sort s.Event = true
is_carried_sort _ = false

abbrev pub is_storable_basic : Basic → Bool
is_storable_basic b.Void = false
is_storable_basic b.Account = false
is_storable_basic b.AccountStorage = false
is_storable_basic b.AccountContracts = false
is_storable_basic b.AccountCapabilities = false
is_storable_basic b.AccountStorageCapabilities = false
is_storable_basic b.StorageCapabilityController = false
is_storable_basic _ = true

abbrev pub is_importable_basic : Basic → Bool
is_importable_basic (b.Number kind) = true
is_importable_basic b.Bool = true
is_importable_basic b.Character = true
is_importable_basic b.String = true
is_importable_basic b.Path = true
is_importable_basic b.StoragePath = true
is_importable_basic b.PublicPath = true
is_importable_basic b.AnyStruct = true
is_importable_basic _ = false

abbrev pub is_void : PureType → Bool
is_void (basic b.Void) = true
is_void _ = false

-- when a type is storable, by which types inside it are
abbrev pub storable_rule : List Declaration → (PureType → Bool) → PureType → Bool
storable_rule k inside (basic t) = is_storable_basic t
storable_rule k inside (optional t) = inside t
storable_rule k inside (array t) = inside t
storable_rule k inside (dictionary p t) = inside p && inside t
storable_rule k inside (intersection ids) = true
storable_rule k inside (declared id) = list_all inside (fields_in (found k id))
storable_rule k inside (reference a t) = false
storable_rule k inside capability = true
storable_rule k inside (capability_of t) = true

abbrev pub importable_rule : List Declaration → (PureType → Bool) → PureType → Bool
importable_rule k inside (basic t) = is_importable_basic t
importable_rule k inside (optional t) = inside t
importable_rule k inside (array t) = inside t
importable_rule k inside (dictionary p t) = inside p && inside t
importable_rule k inside (declared id) = has_sort is_data_sort (found k id) && list_all inside (fields_in (found k id))
importable_rule k inside _ = false

abbrev pub carried_rule : List Declaration → (PureType → Bool) → PureType → Bool
carried_rule k inside (declared id) = has_sort is_carried_sort (found k id) && list_all inside (fields_in (found k id))
carried_rule k inside _ = false

abbrev pub exportable_rule : List Declaration → (PureType → Bool) → (PureType → Bool) → PureType → Bool
exportable_rule k importable inside t = importable t || (is_void t || carried_rule k inside t)

-- each type of the class meets the class's rule
abbrev pub Keeps : ((PureType → Bool) → PureType → Bool) → (PureType → Bool) → Type 0
Keeps rule class = (t : PureType) → class t ≡ true → rule class t ≡ true

-- t is in some class of types that meet the rule, so in the greatest one
abbrev pub InGreatest : ((PureType → Bool) → PureType → Bool) → PureType → Type 0
InGreatest rule t = (class : PureType → Bool) × Keeps rule class × (class t ≡ true)

abbrev pub Storable : List Declaration → PureType → Type 0
Storable k = InGreatest (storable_rule k)

abbrev pub Importable : List Declaration → PureType → Type 0
Importable k = InGreatest (importable_rule k)

abbrev pub Exportable : List Declaration → PureType → Type 0
Exportable k t = (importable : PureType → Bool) × Keeps (importable_rule k) importable × InGreatest (exportable_rule k importable) t
