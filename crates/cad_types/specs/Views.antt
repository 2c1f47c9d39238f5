-- What a `DeclaredTypes` holds.
use Rattle.std.specs.Prelude.{List, map}
use Rattle.cad_types.specs.Declarations.{Declaration, declaration_of}
use Rattle.cad_types.specs.declared.declared_types.DeclaredTypes.{DeclaredTypes}

abbrev pub declarations : DeclaredTypes → List Declaration
declarations declared_types = map declaration_of declared_types.table.declared.items
