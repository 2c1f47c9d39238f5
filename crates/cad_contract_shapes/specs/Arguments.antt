-- By which declarations arguments are judged.
use Rattle.std.specs.Prelude.{◌≡◌, ◌++◌, map, true}
use Rattle.cad_declarations.specs.Names.{built_in, entitlement_names}
use Rattle.cad_declarations.specs.Tables.{ProgramTables}
use Rattle.cad_shapes.specs.Views.{all_names_differ}
use Rattle.cad_values.specs.Shapes.{Shapes}
use Rattle.cad_world.specs.Shapes.{shape_of_entry}

-- what a program and all that it imports declare, and the entitlements that are built in
abbrev pub argument_shapes : ProgramTables → Shapes
argument_shapes tables = record {
  types = map shape_of_entry tables.types;
  entitlements = tables.entitlements ++ map built_in entitlement_names;
}

-- no two fields of a type have one name, as in every program that is accepted: without it a JSON could stand for two values
abbrev pub HasDistinctFields : ProgramTables → Type 0
HasDistinctFields tables = all_names_differ (argument_shapes tables).types ≡ true
