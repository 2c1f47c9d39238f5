-- The order of types as a test, by recursion, which needs no steps between.
use Rattle.std.specs.Prelude.{Bool, true, false, not, ◌&&◌, ◌||◌, List}
use Rattle.std.specs.List.{list_any, list_all}
use Rattle.cad_syntax.specs.TypeIds.{same_id, has}
use Rattle.cad_syntax.specs.Types.{PureType, basic, optional, array, dictionary, intersection, declared, reference, capability, capability_of}
use Rattle.cad_syntax.specs.declared.type_id.TypeId.{TypeId}
use Rattle.cad_syntax.specs.declared.types.Basic.{Basic}
use Rattle.cad_syntax.specs.declared.types.Basic.TheVariants as b
use Rattle.cad_auth.specs.Tests.{grants}
use Rattle.cad_types.specs.Basics.{same_basic}
use Rattle.cad_types.specs.Declarations.{Declaration, interfaces_of, resource, is_any_resource, is_resource_id}

abbrev pub is_never : Basic → Bool
is_never b.Never = true
is_never _ = false

-- some resource type is above it, by Never inside a container if not by its own nature
abbrev pub reaches_resource : List Declaration → PureType → Bool
reaches_resource k (basic t) = is_never t || is_any_resource t
reaches_resource k (optional t) = reaches_resource k t
reaches_resource k (array t) = reaches_resource k t
reaches_resource k (dictionary key value) = reaches_resource k value
reaches_resource k (intersection ids) = list_any (is_resource_id k) ids
reaches_resource k (declared id) = is_resource_id k id
reaches_resource k (reference a t) = false
reaches_resource k capability = false
reaches_resource k (capability_of t) = false

-- a type is below this basic one by its class: AnyStruct where it is no resource type, AnyResource where one is above it
abbrev pub by_class : Bool → Bool → Basic → Bool
by_class is_resource reaches b.AnyStruct = not is_resource
by_class is_resource reaches b.AnyResource = reaches
by_class is_resource reaches _ = false

abbrev pub is_path_into : Basic → Basic → Bool
is_path_into b.StoragePath b.Path = true
is_path_into b.PublicPath b.Path = true
is_path_into _ _ = false

abbrev pub same_truth : Bool → Bool → Bool
same_truth true x = x
same_truth false x = not x

abbrev pub below_basic : Basic → Basic → Bool
below_basic t u = same_basic t u || (is_never t || (by_class (is_any_resource t) (is_any_resource t) u || is_path_into t u))

-- one of these interfaces is that interface, or has it
abbrev pub has_interface : List Declaration → List TypeId → TypeId → Bool
has_interface k ids id = list_any (λ i. same_id i id || has (interfaces_of k i) id) ids

-- the interfaces of one intersection are had by another of its class
abbrev pub narrower : List Declaration → List TypeId → List TypeId → Bool
narrower k these those = same_truth (list_any (is_resource_id k) these) (list_any (is_resource_id k) those) && list_all (has_interface k these) those

-- a declared type has these interfaces, and is of their class
abbrev pub conforms : List Declaration → TypeId → List TypeId → Bool
conforms k id ids = same_truth (is_resource_id k id) (list_any (is_resource_id k) ids) && list_all (has (interfaces_of k id)) ids

-- t is below u
abbrev pub below : List Declaration → PureType → PureType → Bool
below k (basic t) (basic u) = below_basic t u
below k (basic t) _ = is_never t
below k (optional t) (optional u) = below k t u
below k (optional t) (basic u) = by_class (resource k t) false u
below k (optional t) _ = false
below k (array t) (array u) = below k t u
below k (array t) (basic u) = by_class (resource k t) (reaches_resource k t) u
below k (array t) _ = false
below k (dictionary p t) (dictionary q u) = below k p q && below k t u
below k (dictionary p t) (basic u) = by_class (resource k t) (reaches_resource k t) u
below k (dictionary p t) _ = false
below k (intersection these) (intersection those) = narrower k these those
below k (intersection these) (basic u) = by_class (list_any (is_resource_id k) these) (list_any (is_resource_id k) these) u
below k (intersection these) _ = false
below k (declared id) (declared other) = same_id id other
below k (declared id) (intersection ids) = conforms k id ids
below k (declared id) (basic u) = by_class (is_resource_id k id) (is_resource_id k id) u
below k (declared id) _ = false
below k (reference x t) (reference y u) = grants x y && below k t u
below k (reference x t) (basic u) = by_class false false u
below k (reference x t) _ = false
below k capability capability = true
below k capability (basic u) = by_class false false u
below k capability _ = false
below k (capability_of t) (capability_of u) = below k t u
below k (capability_of t) capability = true
below k (capability_of t) (basic u) = by_class false false u
below k (capability_of t) _ = false
