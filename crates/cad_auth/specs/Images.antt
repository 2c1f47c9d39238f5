-- The image of an authorization under a mapping of entitlements.
use Rattle.std.specs.Prelude.{◌≡◌, Bool, ◌&&◌, ◌||◌, ◌==◌, not, if◌then◌else◌, Option, Some, None, List, [], ◌∷◌, ◌++◌, length, map, filter, fold, Contains}
use Rattle.std.specs.List.{flat_map, list_all, list_any}
use Rattle.cad_syntax.specs.TypeIds.{same_id, has}
use Rattle.cad_syntax.specs.declared.type_id.TypeId.{TypeId}
use Rattle.cad_syntax.specs.declared.types.Authorization.{Authorization}
use Rattle.cad_syntax.specs.declared.types.Authorization.TheVariants.{Unauthorized, All, Any}
use Rattle.cad_auth.specs.declared.mapping.Mapping.{Mapping}
use Rattle.cad_auth.specs.Grants.{sets, Includes, Covers, Grants}

-- the targets of an entitlement: itself where the mapping includes the identity, and then those of its pairs in their order
abbrev pub targets_of : Mapping → TypeId → List TypeId
targets_of mapping entitlement =
    (if mapping.identity then entitlement ∷ [] else [])
    ++ map (λ pair. pair.1) (filter (λ pair. same_id pair.0 entitlement) mapping.pairs)

-- a list with one more entitlement at its end, if it isn't there
abbrev pub with_once : List TypeId → TypeId → List TypeId
with_once entitlements entitlement = if has entitlements entitlement then entitlements else entitlements ++ entitlement ∷ []

-- each entitlement once, where it comes first
abbrev pub each_once : List TypeId → List TypeId
each_once entitlements = fold with_once [] entitlements

-- the targets of a set's members
abbrev pub replaced : Mapping → List TypeId → List TypeId
replaced mapping set = each_once (flat_map (targets_of mapping) set)

-- each entitlement of part is one of set
abbrev pub includes : List TypeId → List TypeId → Bool
includes set part = list_all (has set) part

abbrev pub same_set : List TypeId → List TypeId → Bool
same_set a b = includes a b && includes b a

-- a list of sets with one more at its end, if no equal one is there
abbrev pub with_set : List (List TypeId) → List TypeId → List (List TypeId)
with_set these set = if list_any (same_set set) these then these else these ++ set ∷ []

-- one of several equal sets
abbrev pub distinct : List (List TypeId) → List (List TypeId)
distinct these = fold with_set [] these

-- none of these sets is a smaller part of this set
abbrev pub is_least : List (List TypeId) → List TypeId → Bool
is_least these set = list_all (λ other. not (includes set other) || includes other set) these

-- the sets that contain no other of them
abbrev pub least : List (List TypeId) → List (List TypeId)
least these = filter (is_least these) these

-- the sets that the mapping makes of those of an authorization
abbrev pub targets : Mapping → Authorization → List (List TypeId)
targets mapping a = least (distinct (map (replaced mapping) (sets a)))

-- the entitlements that an authorization names
abbrev pub members : Authorization → List TypeId
members Unauthorized = []
members (All entitlements) = entitlements
members (Any entitlements) = entitlements

-- one of these sets has the entitlement
abbrev pub is_named : List (List TypeId) → TypeId → Bool
is_named these entitlement = list_any (λ set. has set entitlement) these

-- the entitlements of these sets, in this order
abbrev pub among : List (List TypeId) → List TypeId → List TypeId
among these order = filter (is_named these) order

abbrev pub conjunction : List TypeId → Authorization
conjunction [] = Unauthorized
conjunction (first ∷ others) = All (first ∷ others)

-- one set is a conjunction, sets of one member each are a disjunction, and anything else is no authorization
abbrev pub read : List (List TypeId) → List TypeId → Option Authorization
read these order =
    if length these == 1 then Some (conjunction (among these order))
    else (if list_all (λ set. length set == 1) these then Some (Any (among these order)) else None)

-- the image, in the order of the authorization's members, for each first itself and then its pairs
abbrev pub image : Mapping → Authorization → Option Authorization
image mapping a = read (targets mapping a) (replaced mapping (members a))

-- Law: the image of a stronger authorization is stronger.
abbrev pub ImageStronger : Type 0
ImageStronger = (mapping : Mapping) (weak strong x y : Authorization) → Grants strong weak → image mapping weak ≡ Some x → image mapping strong ≡ Some y → Grants y x

-- no entitlement stands there again behind itself
abbrev pub AreOnce : List TypeId → Type 0
AreOnce [] = Unit {0}
AreOnce (entitlement ∷ others) = (Contains others entitlement → ⊥) × AreOnce others

-- The image, told by none of the steps above: its sets and the targets of the authorization's sets contain each other's, no
-- set of it includes another, each member stands there once, and the members stand in the order of the targets.
pub record IsImage (mapping : Mapping) (a x : Authorization) : Type 0 where
  pub covers : Covers (sets x) (map (replaced mapping) (sets a))
  pub covered : Covers (map (replaced mapping) (sets a)) (sets x)
  pub apart : (set other : List TypeId) → Contains (sets x) set → Contains (sets x) other → Includes set other → set ≡ other
  pub once : AreOnce (members x)
  pub ordered : (test : TypeId → Bool) × (members x ≡ filter test (replaced mapping (members a)))

-- Law: an image is that.
abbrev pub ImageIsLeast : Type 0
ImageIsLeast = (mapping : Mapping) (a x : Authorization) → image mapping a ≡ Some x → IsImage mapping a x

-- Law: what grants another authorization has targets that cover the other's image.
abbrev pub TargetsCover : Type 0
TargetsCover = (mapping : Mapping) (weak strong x : Authorization) → Grants strong weak → image mapping weak ≡ Some x → Covers (targets mapping strong) (sets x)
