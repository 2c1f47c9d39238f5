-- The declared types of tables, and the scope in which a program's names are looked up.
use Rattle.std.specs.Prelude.{List, ◌++◌, Option, Some, None, map, filter_map, option_to_list}
use Rattle.cad_syntax.specs.Types.{PureType, basic}
use Rattle.cad_syntax.specs.declared.kind.Kind.{Kind}
use Rattle.cad_syntax.specs.declared.types.Basic.TheVariants as b
use Rattle.cad_types.specs.Declarations.{Declaration}
use Rattle.cad_declarations.specs.Tables.{MemberForm, field, function, TypeEntry, ProgramTables}
use Rattle.cad_declarations.specs.Scopes.{Scope}

abbrev pub field_type : MemberForm → Option PureType
field_type (field kind type) = Some type
field_type (function signature has_body) = None

abbrev pub raw_type : Kind → PureType
raw_type kind = basic (b.Number kind)

-- the types of its fields in order; an enum has its raw value
abbrev pub field_types : TypeEntry → List PureType
field_types entry = filter_map (λ m. field_type m.form) entry.members ++ map raw_type (option_to_list entry.raw)

abbrev pub declaration_of : TypeEntry → Declaration
declaration_of entry = record {
  id = entry.id;
  sort = entry.sort;
  fields = field_types entry;
  interfaces = entry.interfaces;
}

-- the declared types, by which the order of types is judged
abbrev pub kinds_of : ProgramTables → List Declaration
kinds_of tables = map declaration_of tables.types

-- what the names of a checked program are looked up in
abbrev pub scope_of : ProgramTables → Scope
scope_of tables = record {
  contract = tables.contract;
  imports = tables.imports;
  types = kinds_of tables;
  entitlements = tables.entitlements;
  mappings = map (λ m. m.id) tables.mappings;
}
