-- The sorts of declared types alone: what is asked where values are told.
use Rattle.std.specs.Prelude.{List, [], map}
use Rattle.cad_declarations.specs.Tables.{TypeEntry}
use Rattle.cad_types.specs.Declarations.{Declaration}
use Rattle.cad_world.specs.Declared.{types_of}
use Rattle.cad_world.specs.State.{Contract}

-- without fields and interfaces
abbrev pub sort_of_entry : TypeEntry → Declaration
sort_of_entry entry = record { id = entry.id; sort = entry.sort; fields = []; interfaces = [] }

abbrev pub sorts : List Contract → List Declaration
sorts contracts = map sort_of_entry (types_of contracts)
