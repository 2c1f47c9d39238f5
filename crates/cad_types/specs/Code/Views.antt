-- What a table of declared types holds.
use Rattle.std.specs.Prelude.{List, map}
use Rattle.cad_types.specs.Declarations.{Declaration, declaration_of}
use Rattle.cad_types.specs.declared.table.TypeTable.{TypeTable}

abbrev pub listed : TypeTable → List Declaration
listed table = map declaration_of table.declared.items
