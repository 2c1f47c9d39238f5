-- What a mapping makes of an authorization covers a right, without the sets in between.
use Rattle.std.specs.Prelude.{Bool, true, ◌&&◌, ◌||◌, List}
use Rattle.std.specs.List.{list_any, list_all}
use Rattle.cad_syntax.specs.TypeIds.{same_id}
use Rattle.cad_syntax.specs.declared.type_id.TypeId.{TypeId}
use Rattle.cad_syntax.specs.declared.types.Authorization.{Authorization}
use Rattle.cad_auth.specs.Grants.{sets}
use Rattle.cad_auth.specs.declared.mapping.Mapping.{Mapping}

-- the mapping makes one entitlement of the other
abbrev pub maps_to : Mapping → TypeId → TypeId → Bool
maps_to m to from = (m.identity && same_id from to) || list_any (λ pair. same_id pair.0 from && same_id pair.1 to) m.pairs

-- it makes each of these entitlements of some member of the set
abbrev pub makes_all : Mapping → List TypeId → List TypeId → Bool
makes_all m set part = list_all (λ to. list_any (maps_to m to) set) part

-- it makes all of some set of the right of the set
abbrev pub makes_some : Mapping → Authorization → List TypeId → Bool
makes_some m right set = list_any (makes_all m set) (sets right)

abbrev pub makes : Mapping → Authorization → Authorization → Bool
makes m own right = list_all (makes_some m right) (sets own)
