-- Whether composites and interfaces meet their interfaces.
use Rattle.std.specs.Prelude.{◌≡◌, Bool, true, false, Option, Some, None, List, [], ◌∷◌, ◌++◌, filter, filter_map, if◌then◌else◌}
use Rattle.std.specs.Option.{option_or}
use Rattle.cad_syntax.specs.declared.text.Name.{Name}
use Rattle.cad_syntax.specs.declared.type_id.TypeId.{TypeId}
use Rattle.cad_grammar.specs.declared.statement.VariableKind.{VariableKind}
use Rattle.cad_types.specs.Declarations.{Declaration}
use Rattle.cad_types.specs.Sub.{Sub}
use Rattle.cad_declarations.specs.Imports.{is_part_of}
use Rattle.cad_declarations.specs.Kinds.{kinds_of}
use Rattle.cad_declarations.specs.Members.{type_in, members_in, own_member, default_in, interface_member}
use Rattle.cad_declarations.specs.Scopes.{is_interface_sort}
use Rattle.cad_declarations.specs.Tables.{ParameterType, SignatureType, MemberForm, field, function, MemberEntry, TypeEntry, ProgramTables}
use Rattle.cad_declarations.specs.declared.stop.Stop.{Stop}

-- ---- one member

-- `let` or `var` as the interface's field is, where that is one of them
abbrev pub KindMeets : Option VariableKind → Option VariableKind → Type 0
KindMeets kind None = Unit {0}
KindMeets kind (Some asked) = kind ≡ Some asked

-- parameters with the same labels and types
abbrev pub SameParameters : List ParameterType → List ParameterType → Type 0
SameParameters [] [] = Unit {0}
SameParameters (p ∷ ps) (q ∷ qs) = (p.label ≡ q.label) × (p.type ≡ q.type) × SameParameters ps qs
SameParameters [] (q ∷ qs) = ⊥
SameParameters (p ∷ ps) [] = ⊥

-- the same parameters, a result below, and `view` where that is asked
pub record SignatureMeets (k : List Declaration) (own asked : SignatureType) : Type 0 where
  pub parameters : SameParameters own.parameters asked.parameters
  pub result : Sub k own.result asked.result
  pub view : asked.is_view ≡ true → own.is_view ≡ true

abbrev pub FormMeets : List Declaration → MemberForm → MemberForm → Type 0
FormMeets k (field kind type) (field asked other) = KindMeets kind asked × (type ≡ other)
FormMeets k (function own own_body) (function asked body) = SignatureMeets k own asked
FormMeets k (field kind type) (function asked body) = ⊥
FormMeets k (function own own_body) (field asked other) = ⊥

-- a member meets one of an interface
pub record MemberMeets (k : List Declaration) (own asked : MemberEntry) : Type 0 where
  pub access : own.access ≡ asked.access
  pub form : FormMeets k own.form asked.form

-- ---- a type

-- the only one of a list
abbrev pub only : {X : Type 0} → List X → Option X
only [] = None
only (x ∷ []) = Some x
only (x ∷ y ∷ more) = None

-- what stands in a composite for the members of a name that its interfaces have: its own, else their one body
abbrev pub composite_offer : List TypeEntry → TypeEntry → Name → Option MemberEntry
composite_offer types t name = option_or (own_member types name t.id) (only (filter_map (default_in types name) t.interfaces))

-- an interface has the members of its parents
abbrev pub offer : List TypeEntry → TypeEntry → Name → Option MemberEntry
offer types t name = if is_interface_sort t.sort then interface_member types name t.id else composite_offer types t name

abbrev pub Offers : List Declaration → Option MemberEntry → MemberEntry → Type 0
Offers k None asked = ⊥
Offers k (Some own) asked = MemberMeets k own asked

-- each of a list
abbrev pub Each : {X : Type 0} → (X → Type 0) → List X → Type 0
Each P [] = Unit {0}
Each P (x ∷ xs) = P x × Each P xs

-- a type meets an interface
abbrev pub MeetsInterface : List Declaration → List TypeEntry → TypeEntry → TypeId → Type 0
MeetsInterface k types t i = Each (λ asked. Offers k (offer types t asked.name) asked) (members_in (type_in types i))

-- a type meets all interfaces that it has
abbrev pub Meets : List Declaration → List TypeEntry → TypeEntry → Type 0
Meets k types t = Each (MeetsInterface k types t) t.interfaces

-- ---- a program

-- a type is declared by the program's contract
abbrev pub is_own : Option TypeId → TypeId → Bool
is_own None id = false
is_own (Some contract) id = is_part_of contract id

abbrev pub own_types : Option TypeId → List TypeEntry → List TypeEntry
own_types contract types = filter (λ t. is_own contract t.id) types

-- each type that the program's contract declares meets its interfaces
abbrev pub Conforms : ProgramTables → Type 0
Conforms tables = Each (Meets (kinds_of tables) tables.types) (own_types tables.contract tables.types)

-- the first of these types that doesn't meet its interfaces
pub record IsUnmet (k : List Declaration) (types own : List TypeEntry) (t : TypeEntry) : Type 0 where
  pub before : List TypeEntry
  pub after : List TypeEntry
  pub split : own ≡ before ++ t ∷ after
  pub met : Each (Meets k types) before
  pub unmet : Meets k types t → ⊥

abbrev pub stop_of : TypeEntry → Stop
stop_of t = record { inside = t.id.names; at = 0 }

-- the program is refused at the first type that doesn't meet its interfaces
abbrev pub Unmet : ProgramTables → Stop → Type 0
Unmet tables stop = (t : TypeEntry) × IsUnmet (kinds_of tables) tables.types (own_types tables.contract tables.types) t × (stop ≡ stop_of t)
