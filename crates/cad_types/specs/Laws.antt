-- Laws of the order of types.
use Rattle.std.specs.Prelude.{◌≡◌, ◌↔◌, ℕ, ◌+◌, ◌-◌, true, false, List}
use Rattle.cad_syntax.specs.Types.{PureType}
use Rattle.cad_syntax.specs.declared.types.Authorization.{Authorization}
use Rattle.cad_types.specs.Below.{below}
use Rattle.cad_types.specs.Declarations.{Declaration, IsClosed, resource}
use Rattle.cad_types.specs.Growth.{Grows, is_named}
use Rattle.cad_types.specs.Optionals.{optionals, depth, fits, layers, nil_type, is_solid, reading}
use Rattle.cad_types.specs.Sub.{Sub}

-- the test, which is by recursion, tells the least relation, which is transitive
abbrev pub NeedsNoStepsBetween : Type 0
NeedsNoStepsBetween = (k : List Declaration) → IsClosed k → (t u : PureType) → (below k t u ≡ true) ↔ Sub k t u

-- what is above a resource type is one
abbrev pub ResourcesStayAbove : Type 0
ResourcesStayAbove = (k : List Declaration) → IsClosed k → (t u : PureType) → Sub k t u → resource k t ≡ true → resource k u ≡ true

-- Optionals.

-- what fits a type is of it, with the optionals round it that a transfer puts there
abbrev pub FitsOnceThere : Type 0
FitsOnceThere = (k : List Declaration) → IsClosed k → (n : ℕ) (own t u : PureType) → is_solid own ≡ true → below k (optionals n own) t ≡ true → fits k t u ≡ true
    → below k (optionals (layers n u) own) u ≡ true

-- nil, with optionals round it or without, is of each type that it fits as it is
abbrev pub NilFits : Type 0
NilFits = (k : List Declaration) → IsClosed k → (n : ℕ) (t u : PureType) → below k (optionals n nil_type) t ≡ true → fits k t u ≡ true
    → below k (optionals n nil_type) u ≡ true

-- a transfer puts no optional round what is of the type
abbrev pub BelowIsNotWrapped : Type 0
BelowIsNotWrapped = (k : List Declaration) (n : ℕ) (own u : PureType) → is_solid own ≡ true → below k (optionals n own) u ≡ true → layers n u ≡ n

-- the larger of the two numbers of optionals
abbrev pub LayersAreDepths : Type 0
LayersAreDepths = (n : ℕ) (u : PureType) → layers n u ≡ n + (depth u - n)

-- what is read through a reference keeps the order
abbrev pub ReadingKeepsOrder : Type 0
ReadingKeepsOrder = (k : List Declaration) (a : Authorization) (t u : PureType) → below k t u ≡ true → below k (reading a t) (reading a u) ≡ true

-- what is read through a reference is of no resource type
abbrev pub ReadingIsPlain : Type 0
ReadingIsPlain = (k : List Declaration) (a : Authorization) (t : PureType) → resource k (reading a t) ≡ false

-- More declarations.

-- types that name declared types stay resource types or stay none
abbrev pub ResourcesStay : Type 0
ResourcesStay = (k m : List Declaration) → Grows k m → (t : PureType) → is_named k t ≡ true → resource m t ≡ resource k t

-- the order of types that name declared types stays
abbrev pub OrderStays : Type 0
OrderStays = (k m : List Declaration) → Grows k m → (t u : PureType) → is_named k t ≡ true → is_named k u ≡ true → below m t u ≡ below k t u
