-- The declarations of a function that take part in a call.
use Rattle.std.specs.Prelude.{Option, Some, None, option_map}
use Rattle.cad_declarations.specs.Typed as e
use Rattle.cad_evaluation.specs.Bodies as s
use Rattle.cad_evaluation.specs.Evaluation.{destroyed_body, making}
use Rattle.cad_evaluation.specs.Making.{initializer_of}
use Rattle.cad_function_sources.specs.Sources.{bodies_in, piece_of}
use Rattle.cad_function_sources.specs.declared.sources.Piece.{Piece}
use Rattle.cad_function_sources.specs.declared.sources.Source.{Source}
use Rattle.cad_syntax.specs.declared.text.Name.{Name}

abbrev pub maybe_piece : Option Piece → Option s.Piece
maybe_piece o = option_map piece_of o

-- a function as its own type declares it
abbrev pub own_of : Name → Option Source → Option s.Piece
own_of name None = None
own_of name (Some x) = s.piece_in x.id name (bodies_in x)

-- the written initializer of its own type
abbrev pub initializer_in : Option Source → Option s.Piece
initializer_in None = None
initializer_in (Some x) = making x.id (initializer_of (bodies_in x))

-- the event that tells of the end of a resource of its own type
abbrev pub event_in : Option Source → Option e.DestroyedBody
event_in None = None
event_in (Some x) = destroyed_body (bodies_in x)
