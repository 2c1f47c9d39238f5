-- What the tables say of a declared type's fields and of what makes its values.
use Rattle.std.specs.Prelude.{◌||◌, ◌&&◌, not, List, [], ◌∷◌, map, Option, Some, None, if◌then◌else◌, Bool, true, false}
use Rattle.cad_syntax.specs.TypeIds.{same_id}
use Rattle.cad_syntax.specs.Types.{PureType}
use Rattle.cad_syntax.specs.declared.type_id.TypeId.{TypeId}
use Rattle.cad_syntax.specs.declared.text.Name.{Name}
use Rattle.cad_grammar.specs.declared.statement.VariableKind.{VariableKind}
use Rattle.cad_grammar.specs.declared.statement.VariableKind.TheVariants.{Let}
use Rattle.cad_types.specs.Declarations.{Declaration, resource}
use Rattle.cad_types.specs.declared.declared.Sort.{Sort}
use Rattle.cad_types.specs.declared.declared.Sort.TheVariants as sort
use Rattle.cad_declarations.specs.Tables.{ProgramTables, TypeEntry, MemberEntry, MemberForm, field, function, SignatureType}
use Rattle.cad_paths.specs.declared.letter.FieldRule.{FieldRule}

-- ---- what is declared

-- the type of a field, before those of further members
abbrev pub field_type : MemberForm → List PureType → List PureType
field_type (field k t) rest = t ∷ rest
field_type (function s has_body) rest = rest

abbrev pub field_types : List MemberEntry → List PureType
field_types [] = []
field_types (m ∷ ms) = field_type m.form (field_types ms)

-- the declared types, as the order of types looks at them
abbrev pub declaration_in : TypeEntry → Declaration
declaration_in t = record { id = t.id; sort = t.sort; fields = field_types t.members; interfaces = t.interfaces }

abbrev pub declarations_in : ProgramTables → List Declaration
declarations_in tables = map declaration_in tables.types

-- the first declaration of an identifier
abbrev pub found_entry : List TypeEntry → TypeId → Option TypeEntry
found_entry [] id = None
found_entry (t ∷ ts) id = if same_id t.id id then Some t else found_entry ts id

abbrev pub sort_of : Option TypeEntry → Option Sort
sort_of None = None
sort_of (Some t) = Some t.sort

abbrev pub sort_in : ProgramTables → TypeId → Option Sort
sort_in tables id = sort_of (found_entry tables.types id)

abbrev pub initializer_of : Option TypeEntry → Option SignatureType
initializer_of None = None
initializer_of (Some t) = t.initializer

-- the initializer that is written
abbrev pub initializer_in : ProgramTables → TypeId → Option SignatureType
initializer_in tables id = initializer_of (found_entry tables.types id)

-- ---- fields that are to be set

abbrev pub is_let : Option VariableKind → Bool
is_let (Some Let) = true
is_let _ = false

-- a `let` field, and one of resource type, is set but once
abbrev pub field_rule : List Declaration → Name → MemberForm → List FieldRule → List FieldRule
field_rule k name (field kind t) rest = record { name = name; is_once = is_let kind || resource k t } ∷ rest
field_rule k name (function s has_body) rest = rest

abbrev pub field_rules : List Declaration → List MemberEntry → List FieldRule
field_rules k [] = []
field_rules k (m ∷ ms) = field_rule k m.name m.form (field_rules k ms)

abbrev pub rules_of : List Declaration → Option TypeEntry → List FieldRule
rules_of k None = []
rules_of k (Some t) = field_rules k t.members

-- the fields that an initializer of this type sets
abbrev pub rules_in : ProgramTables → TypeId → List FieldRule
rules_in tables id = rules_of (declarations_in tables) (found_entry tables.types id)

abbrev pub needs_initializer : Sort → Bool
needs_initializer sort.Contract = true
needs_initializer sort.Struct = true
needs_initializer sort.Resource = true
needs_initializer _ = false

abbrev pub is_empty : List PureType → Bool
is_empty [] = true
is_empty (t ∷ ts) = false

abbrev pub is_absent : Option SignatureType → Bool
is_absent None = true
is_absent (Some s) = false

-- a struct, resource or contract that has fields, and no initializer that is written
abbrev pub lacks_initializer : TypeEntry → Bool
lacks_initializer t = needs_initializer t.sort && (is_absent t.initializer && not (is_empty (field_types t.members)))
