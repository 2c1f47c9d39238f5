-- Marks of declared types, by which the classes of all types are found.
use Rattle.std.specs.Prelude.{◌≡◌, ℕ, Option, Some, None, slice_get, Bool, true, false, ◌&&◌, ◌||◌, List, [], ◌∷◌, length, if◌then◌else◌}
use Rattle.std.specs.List.{list_all}
use Rattle.cad_syntax.specs.TypeIds.{same_id}
use Rattle.cad_syntax.specs.Types.{PureType, basic, optional, array, dictionary, intersection, declared, reference, capability, capability_of}
use Rattle.cad_syntax.specs.declared.type_id.TypeId.{TypeId}
use Rattle.cad_types.specs.Declarations.{Declaration}
use Rattle.cad_types.specs.Classes.{is_data_sort, is_carried_sort, is_storable_basic, is_importable_basic, is_void, storable_rule, importable_rule, carried_rule, exportable_rule, Keeps}
use Rattle.cad_types.specs.declared.marks.Marks.{Marks}

-- of what isn't declared
abbrev pub unmarked : Marks
unmarked = record { storable = true; importable = false; carried = false }

abbrev pub or_unmarked : Option Marks → Marks
or_unmarked None = unmarked
or_unmarked (Some m) = m

-- the marks at a place
abbrev pub marks_at : List Marks → ℕ → Marks
marks_at marks place = or_unmarked (slice_get marks place)

-- the marks of the first declaration of an identifier
abbrev pub marked : List Declaration → List Marks → TypeId → Marks
marked [] marks id = unmarked
marked (d ∷ ds) [] id = unmarked
marked (d ∷ ds) (m ∷ ms) id = if same_id d.id id then m else marked ds ms id

abbrev pub storable_by : List Declaration → List Marks → PureType → Bool
storable_by k marks (basic t) = is_storable_basic t
storable_by k marks (optional t) = storable_by k marks t
storable_by k marks (array t) = storable_by k marks t
storable_by k marks (dictionary p t) = storable_by k marks p && storable_by k marks t
storable_by k marks (intersection ids) = true
storable_by k marks (declared id) = (marked k marks id).storable
storable_by k marks (reference a t) = false
storable_by k marks capability = true
storable_by k marks (capability_of t) = true

abbrev pub importable_by : List Declaration → List Marks → PureType → Bool
importable_by k marks (basic t) = is_importable_basic t
importable_by k marks (optional t) = importable_by k marks t
importable_by k marks (array t) = importable_by k marks t
importable_by k marks (dictionary p t) = importable_by k marks p && importable_by k marks t
importable_by k marks (declared id) = (marked k marks id).importable
importable_by k marks _ = false

abbrev pub carried_by : List Declaration → List Marks → PureType → Bool
carried_by k marks (declared id) = (marked k marks id).carried
carried_by k marks _ = false

abbrev pub exportable_by : List Declaration → List Marks → PureType → Bool
exportable_by k marks t = importable_by k marks t || (is_void t || carried_by k marks t)

abbrev pub is_importable_data : List Declaration → List Marks → Declaration → Bool
is_importable_data k marks d = is_data_sort d.sort && list_all (importable_by k marks) d.fields

abbrev pub is_exportable_carried : List Declaration → List Marks → Declaration → Bool
is_exportable_carried k marks d = is_carried_sort d.sort && list_all (exportable_by k marks) d.fields

-- the marks that a declaration keeps, where its fields are judged by these marks
abbrev pub kept : List Declaration → List Marks → Declaration → Marks → Marks
kept k marks d m = record {
  storable = m.storable && list_all (storable_by k marks) d.fields;
  importable = m.importable && is_importable_data k marks d;
  carried = m.carried && is_exportable_carried k marks d;
}

abbrev pub each_kept : (Declaration → Marks → Marks) → List Declaration → List Marks → List Marks
each_kept keep [] marks = []
each_kept keep (d ∷ ds) [] = []
each_kept keep (d ∷ ds) (m ∷ ms) = keep d m ∷ each_kept keep ds ms

-- one turn of judging
abbrev pub refined : List Declaration → List Marks → List Marks
refined k marks = each_kept (kept k marks) k marks

-- no declared type of a class lacks its mark
pub record IsGreatest (k : List Declaration) (marks : List Marks) : Type 0 where
  pub storables : (class : PureType → Bool) → Keeps (storable_rule k) class → (id : TypeId) → class (declared id) ≡ true → (marked k marks id).storable ≡ true
  pub importables : (class : PureType → Bool) → Keeps (importable_rule k) class → (id : TypeId) → class (declared id) ≡ true → (marked k marks id).importable ≡ true
  pub carrieds : (importable class : PureType → Bool) → Keeps (importable_rule k) importable → Keeps (exportable_rule k importable) class → (id : TypeId) → carried_rule k class (declared id) ≡ true → (marked k marks id).carried ≡ true

-- the marks of declarations, of which none that a class needs is lost
pub record IsAtLeast (k : List Declaration) (marks : List Marks) : Type 0 where
  pub whole : length marks ≡ length k
  pub greatest : IsGreatest k marks

-- the marks are those of the greatest classes
pub record IsJudged (k : List Declaration) (marks : List Marks) : Type 0 where
  pub whole : length marks ≡ length k
  pub stable : refined k marks ≡ marks
  pub greatest : IsGreatest k marks
