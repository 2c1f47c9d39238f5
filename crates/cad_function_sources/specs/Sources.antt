-- The declarations of a function that take part in a call, as the program has them.
use Rattle.std.specs.Prelude.{Bool, true, false, List, find, filter_map, map, Option, None, option_map}
use Rattle.cad_syntax.specs.TypeIds.{same_id}
use Rattle.cad_syntax.specs.Types.{basic}
use Rattle.cad_syntax.specs.declared.types.Basic.TheVariants as b
use Rattle.cad_syntax.specs.declared.text.Name.{Name}
use Rattle.cad_syntax.specs.declared.type_id.TypeId.{TypeId}
use Rattle.cad_declarations.specs.Typed as e
use Rattle.cad_declarations.specs.Views.{function_of, type_body_of}
use Rattle.cad_declarations.specs.declared.program.Checked.{Checked}
use Rattle.cad_evaluation.specs.Bodies as s
use Rattle.cad_function_sources.specs.declared.sources.Piece.{Piece}
use Rattle.cad_function_sources.specs.declared.sources.Source.{Source}

-- the bodies that a program has of a type
abbrev pub found_in : Checked → TypeId → Option e.TypeBody
found_in x id = find (λ b. same_id b.id id) (map type_body_of x.bodies.types.items)

-- those that a source has of its own type
abbrev pub bodies_in : Source → Option e.TypeBody
bodies_in x = found_in x.checked.value x.id

-- a function as sources declare it, in their order
abbrev pub pieces : Name → List Source → List s.Piece
pieces name all = filter_map (λ x. s.piece_in x.id name (bodies_in x)) all

-- an initializer has no result
abbrev pub as_run : Bool → e.FunctionBody → e.FunctionBody
as_run true f = record f { result = basic b.Void; result_variable = None }
as_run false f = f

abbrev pub piece_of : Piece → s.Piece
piece_of x = record { within = option_map (λ id. id.now) x.within; function = as_run x.initializes (function_of x.function.now) }
