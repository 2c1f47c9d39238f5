-- Declarations that are added, and types that name declared types.
use Rattle.std.specs.Prelude.{◌≡◌, Bool, true, ◌&&◌, List, Some}
use Rattle.std.specs.List.{list_all}
use Rattle.cad_syntax.specs.Types.{PureType, basic, optional, array, dictionary, intersection, declared, reference, capability, capability_of}
use Rattle.cad_syntax.specs.declared.type_id.TypeId.{TypeId}
use Rattle.cad_types.specs.Declarations.{Declaration, found, is_declared}

-- what is declared in the one list is declared in the other as it is
abbrev pub Grows : List Declaration → List Declaration → Type 0
Grows k m = (id : TypeId) (d : Declaration) → found k id ≡ Some d → found m id ≡ Some d

-- each declared type that a type names is declared
abbrev pub is_named : List Declaration → PureType → Bool
is_named k (basic t) = true
is_named k (optional t) = is_named k t
is_named k (array t) = is_named k t
is_named k (dictionary p t) = is_named k p && is_named k t
is_named k (intersection ids) = list_all (is_declared k) ids
is_named k (declared id) = is_declared k id
is_named k (reference a t) = is_named k t
is_named k capability = true
is_named k (capability_of t) = is_named k t
