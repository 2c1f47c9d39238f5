-- Stops of imports, where it doesn't matter what names mean, and what is built behind imports that are right.
use Rattle.std.specs.Prelude.{true, Option, None, Result, []}
use Rattle.std.specs.Option.{is_some}
use Rattle.cad_syntax.specs.declared.address.Address.{Address}
use Rattle.cad_grammar.specs.Trees.{ProgramTree}
use Rattle.cad_declarations.specs.Build.{Setting, first_stop, all_declaration_points, with_names, import_names, built, tables_by}
use Rattle.cad_declarations.specs.Scopes.{Scope}
use Rattle.cad_declarations.specs.Tables.{ProgramTables}
use Rattle.cad_declarations.specs.declared.stop.Stop.{Stop}

-- no name means anything
abbrev pub no_scope : Scope
no_scope = record { contract = None; imports = []; types = []; entitlements = []; mappings = [] }

-- the first stop of declarations
abbrev pub declared_stop : Option Address → ProgramTree → Setting → Option Stop
declared_stop place program by =
    first_stop by.scope (all_declaration_points by.scope by.links (is_some place) by.own true (with_names (import_names program.imports) []) program.declarations)

-- what is built where all imports are right
abbrev pub built_by : Option Address → ProgramTree → Setting → Result ProgramTables Stop
built_by place program by = built (declared_stop place program by) (tables_by place program by)
