-- The tests by which the code finds out.
use Rattle.std.specs.Prelude.{Bool, true, List, [], ◌∷◌, false}
use Rattle.std.specs.List.{list_all, list_any}
use Rattle.cad_syntax.specs.TypeIds.{has}
use Rattle.cad_syntax.specs.declared.type_id.TypeId.{TypeId}
use Rattle.cad_syntax.specs.declared.types.Authorization.{Authorization}
use Rattle.cad_syntax.specs.declared.types.Authorization.TheVariants.{Unauthorized, All, Any}
use Rattle.cad_auth.specs.Grants.{single}
use Rattle.cad_auth.specs.Images.{includes, replaced}
use Rattle.cad_auth.specs.declared.mapping.Mapping.{Mapping}

-- the set contains one that is enough
abbrev pub is_enough : List TypeId → Authorization → Bool
is_enough set Unauthorized = true
is_enough set (All entitlements) = includes set entitlements
is_enough set (Any []) = true
is_enough set (Any (first ∷ others)) = list_any (has set) (first ∷ others)

abbrev pub grants : Authorization → Authorization → Bool
grants Unauthorized need = is_enough [] need
grants (All entitlements) need = is_enough entitlements need
grants (Any []) need = is_enough [] need
grants (Any (first ∷ others)) need = list_all (λ entitlement. is_enough (single entitlement) need) (first ∷ others)

-- the targets of one entitlement
abbrev pub alone : Mapping → TypeId → List TypeId
alone mapping entitlement = replaced mapping (single entitlement)

-- there is more than one set, or may be
abbrev pub is_choice : Authorization → Bool
is_choice Unauthorized = false
is_choice (All entitlements) = false
is_choice (Any []) = false
is_choice (Any (first ∷ others)) = true
