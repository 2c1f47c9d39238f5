-- The order of types by recursion, as conditions: what the test tests.
use Rattle.std.proofs.Common.{◌≡◌, true, false, ◌||◌, ◌⊎◌, List}
use Rattle.std.specs.List.{list_any, list_all}
use Rattle.cad_syntax.specs.TypeIds.{has}
use Rattle.cad_syntax.specs.Types.{PureType, basic, optional, array, dictionary, intersection, declared, reference, capability, capability_of}
use Rattle.cad_syntax.specs.declared.type_id.TypeId.{TypeId}
use Rattle.cad_syntax.specs.declared.types.Basic.{Basic}
use Rattle.cad_auth.specs.Grants.{Grants}
use Rattle.cad_types.specs.Below.{is_never, reaches_resource, by_class, is_path_into, has_interface}
use Rattle.cad_types.specs.Declarations.{Declaration, interfaces_of, resource, is_any_resource, is_resource_id}

abbrev pub BasicBelow : Basic → Basic → Type 0
BasicBelow t u = (t ≡ u) ⊎ ((is_never t || (by_class (is_any_resource t) (is_any_resource t) u || is_path_into t u)) ≡ true)

-- the interfaces of one intersection are had by another of its class
abbrev pub Narrower : List Declaration → List TypeId → List TypeId → Type 0
Narrower k these those = (list_any (is_resource_id k) these ≡ list_any (is_resource_id k) those) × (list_all (has_interface k these) those ≡ true)

abbrev pub Conforms : List Declaration → TypeId → List TypeId → Type 0
Conforms k id ids = (is_resource_id k id ≡ list_any (is_resource_id k) ids) × (list_all (has (interfaces_of k id)) ids ≡ true)

abbrev pub Below : List Declaration → PureType → PureType → Type 0
Below k (basic t) (basic u) = BasicBelow t u
Below k (basic t) _ = is_never t ≡ true
Below k (optional t) (optional u) = Below k t u
Below k (optional t) (basic u) = by_class (resource k t) false u ≡ true
Below k (optional t) _ = ⊥
Below k (array t) (array u) = Below k t u
Below k (array t) (basic u) = by_class (resource k t) (reaches_resource k t) u ≡ true
Below k (array t) _ = ⊥
Below k (dictionary p t) (dictionary q u) = Below k p q × Below k t u
Below k (dictionary p t) (basic u) = by_class (resource k t) (reaches_resource k t) u ≡ true
Below k (dictionary p t) _ = ⊥
Below k (intersection these) (intersection those) = Narrower k these those
Below k (intersection these) (basic u) = by_class (list_any (is_resource_id k) these) (list_any (is_resource_id k) these) u ≡ true
Below k (intersection these) _ = ⊥
Below k (declared id) (declared other) = id ≡ other
Below k (declared id) (intersection ids) = Conforms k id ids
Below k (declared id) (basic u) = by_class (is_resource_id k id) (is_resource_id k id) u ≡ true
Below k (declared id) _ = ⊥
Below k (reference x t) (reference y u) = Grants x y × Below k t u
Below k (reference x t) (basic u) = by_class false false u ≡ true
Below k (reference x t) _ = ⊥
Below k capability capability = Unit {0}
Below k capability (basic u) = by_class false false u ≡ true
Below k capability _ = ⊥
Below k (capability_of t) (capability_of u) = Below k t u
Below k (capability_of t) capability = Unit {0}
Below k (capability_of t) (basic u) = by_class false false u ≡ true
Below k (capability_of t) _ = ⊥
