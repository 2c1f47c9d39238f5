-- Which sets of entitlements an authorization stands for, and which authorization serves where another is needed.
use Rattle.std.specs.Prelude.{List, [], ◌∷◌, map, Contains}
use Rattle.cad_syntax.specs.declared.type_id.TypeId.{TypeId}
use Rattle.cad_syntax.specs.declared.types.Authorization.{Authorization}
use Rattle.cad_syntax.specs.declared.types.Authorization.TheVariants.{Unauthorized, All, Any}

abbrev pub single : TypeId → List TypeId
single entitlement = entitlement ∷ []

-- the sets that a holder may have, or that are enough each
abbrev pub sets : Authorization → List (List TypeId)
sets Unauthorized = [] ∷ []
sets (All entitlements) = entitlements ∷ []
sets (Any []) = [] ∷ []
sets (Any (first ∷ others)) = map single (first ∷ others)

-- each entitlement of part is one of set
abbrev pub Includes : List TypeId → List TypeId → Type 0
Includes set part = (entitlement : TypeId) → Contains part entitlement → Contains set entitlement

-- each of these sets contains some set of those
abbrev pub Covers : List (List TypeId) → List (List TypeId) → Type 0
Covers these those = (set : List TypeId) → Contains these set → (part : List TypeId) × Contains those part × Includes set part

-- what a holder has serves where need is asked for
abbrev pub Grants : Authorization → Authorization → Type 0
Grants holder need = Covers (sets holder) (sets need)

-- Laws.
abbrev pub GrantsReflexive : Type 0
GrantsReflexive = (a : Authorization) → Grants a a

abbrev pub GrantsTransitive : Type 0
GrantsTransitive = (a b c : Authorization) → Grants a b → Grants b c → Grants a c

-- what is granted to a weaker authorization is granted to a stronger one
abbrev pub GrantsStronger : Type 0
GrantsStronger = (weak strong need : Authorization) → Grants strong weak → Grants weak need → Grants strong need
