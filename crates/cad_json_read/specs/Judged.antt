-- What reading knows of declared types.
use Rattle.std.specs.Prelude.{Bool}
use Rattle.cad_syntax.specs.Types.{PureType, declared}
use Rattle.cad_types.specs.Code.Judged.{importable_by}
use Rattle.cad_types.specs.Views.{declarations}
use Rattle.cad_types.specs.declared.declared_types.DeclaredTypes.{DeclaredTypes}
use Rattle.cad_shapes.specs.Held.{shapes_of}
use Rattle.cad_shapes.specs.declared.shapes.DeclaredShapes.{DeclaredShapes}
use Rattle.cad_json_read.specs.Reading.{Known}

-- whether arguments can have a type, as it was judged
unfoldable pub is_importable_in : DeclaredTypes → PureType → Bool
is_importable_in types want = importable_by (declarations types) types.marks.items want

abbrev pub known_of : DeclaredShapes → Known
known_of shapes = record { shapes = shapes_of shapes; importable = λ id. is_importable_in shapes.types (declared id) }
