-- Contracts while they are loaded: a slot for each source, with its program once that is known.
use Rattle.std.specs.Prelude.{◌≡◌, ℕ, ◌+◌, ◌<◌, Bool, true, false, Option, Some, None, List, [], ◌∷◌, ◌++◌, length, slice_get}
use Rattle.cad_syntax.specs.TypeIds.{same_id}
use Rattle.cad_syntax.specs.declared.type_id.TypeId.{TypeId}
use Rattle.cad_declarations.specs.Imports.{ContractEntry, deployed_contract, is_deployed}
use Rattle.cad_loads.specs.Loads.{Source, Loaded, Loads, Stands, loaded_as, entries_of}
use Rattle.cad_world.specs.State.{Program}

-- ---- one source

abbrev pub is_id : Option TypeId → TypeId → Bool
is_id None id = false
is_id (Some own) id = same_id own id

-- the program is the contract of this identifier
abbrev pub is_fit : TypeId → Program → Bool
is_fit id p = is_id p.tables.contract id

abbrev pub if_fit : Bool → Program → Option Program
if_fit true p = Some p
if_fit false p = None

-- the program as which a source stands beside these, or it doesn't
abbrev pub Standing : List ContractEntry → Source → Option Program → Type 0
Standing deployed s None = (p : Program) → Stands deployed (loaded_as s p) → ⊥
Standing deployed s (Some p) = Stands deployed (loaded_as s p)

-- ---- all sources

-- those that are loaded, in the order of the sources
abbrev pub loaded_in : List Source → List (Option Program) → List Loaded
loaded_in [] slots = []
loaded_in (s ∷ sources) [] = []
loaded_in (s ∷ sources) (None ∷ slots) = loaded_in sources slots
loaded_in (s ∷ sources) (Some p ∷ slots) = loaded_as s p ∷ loaded_in sources slots

-- none is loaded
abbrev pub no_programs : {X : Type 0} → List X → List (Option Program)
no_programs [] = []
no_programs (x ∷ xs) = None ∷ no_programs xs

abbrev pub is_gap : Option (Option Program) → Bool
is_gap None = false
is_gap (Some None) = true
is_gap (Some (Some p)) = false

-- whether one is left
abbrev pub some_gap : List (Option Program) → Bool
some_gap [] = false
some_gap (None ∷ slots) = true
some_gap (Some p ∷ slots) = some_gap slots

-- how many are left
abbrev pub gaps : List (Option Program) → ℕ
gaps [] = 0
gaps (None ∷ slots) = gaps slots + 1
gaps (Some p ∷ slots) = gaps slots

-- these and the programs in the slots, where each has one
abbrev pub gathered : List Program → List (Option Program) → Option (List Program)
gathered front [] = Some front
gathered front (None ∷ slots) = None
gathered front (Some p ∷ slots) = gathered (front ++ p ∷ []) slots

abbrev pub if_whole : Bool → List Program → Option (List Program)
if_whole true programs = Some programs
if_whole false programs = None

-- the same contracts, in whatever orders
abbrev pub AreAlike : List ContractEntry → List ContractEntry → Type 0
AreAlike d e = (id : TypeId) → deployed_contract d id ≡ deployed_contract e id

-- what is loaded was deployed one after another, and code is checked beside it
pub record IsLoaded (sources : List Source) (slots : List (Option Program)) (deployed : List ContractEntry) : Type 0 where
  pub many : length slots ≡ length sources
  pub loads : Loads (loaded_in sources slots)
  pub alike : AreAlike deployed (entries_of (loaded_in sources slots))

-- ---- a pass

-- the source in this place, if it is left, has a name that is taken, or doesn't stand beside these
abbrev pub RestsAt : List ContractEntry → List Source → List (Option Program) → ℕ → Type 0
RestsAt deployed sources slots at =
    (s : Source) → slice_get sources at ≡ Some s → slice_get slots at ≡ Some None → is_deployed deployed s.id ≡ false → Standing deployed s None

abbrev pub AreAtRest : List ContractEntry → List Source → List (Option Program) → Type 0
AreAtRest deployed sources slots = (at : ℕ) → RestsAt deployed sources slots at

abbrev pub ComesOn : List Source → List (Option Program) → List (Option Program) → List ContractEntry → Type 0
ComesOn sources slots slots' deployed' = IsLoaded sources slots' deployed' × (gaps slots' < gaps slots)

-- the source in a place is loaded, or rests there
abbrev pub Tried : List Source → ℕ → List (Option Program) → List ContractEntry → List (Option Program) → List ContractEntry → Bool → Type 0
Tried sources at slots deployed slots' deployed' true = ComesOn sources slots slots' deployed'
Tried sources at slots deployed slots' deployed' false = (slots' ≡ slots) × (deployed' ≡ deployed) × RestsAt deployed sources slots at

-- some source is loaded, or all rest that are left
abbrev pub Passed : List Source → List (Option Program) → List ContractEntry → List (Option Program) → List ContractEntry → Bool → Type 0
Passed sources slots deployed slots' deployed' true = ComesOn sources slots slots' deployed'
Passed sources slots deployed slots' deployed' false = (slots' ≡ slots) × (deployed' ≡ deployed) × AreAtRest deployed sources slots
