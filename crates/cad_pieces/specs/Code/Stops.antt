-- Where types refuse pieces.
use Rattle.std.specs.Prelude.{ℕ, Option, Some, None, Result, Ok, Err, List, [], ◌∷◌, option_map, if◌then◌else◌}
use Rattle.std.specs.Option.{option_or}
use Rattle.cad_declarations.specs.Build.{stop_at}
use Rattle.cad_declarations.specs.Typed as e
use Rattle.cad_declarations.specs.declared.stop.Stop.{Stop}
use Rattle.cad_typing.specs.Pieces as p
use Rattle.cad_typing.specs.Pieces.{Piece, PieceBody}
use Rattle.cad_pieces.specs.Code.Comes.{lacks_return}

-- the number of statements of a function that lacks its return
abbrev pub lacking : e.FunctionBody → Option ℕ
lacking f = if lacks_return f then Some f.statements else None

abbrev pub refused_body : PieceBody → Option ℕ
refused_body (p.function_piece f) = lacking f
refused_body (p.type_piece id) = None
refused_body (p.initializer_piece id f) = None
refused_body (p.transaction_piece rules t) = None
refused_body (p.destroyed_piece d) = None
refused_body p.plain_piece = None

abbrev pub refused_at : Result PieceBody ℕ → Option ℕ
refused_at (Err n) = Some n
refused_at (Ok body) = refused_body body

abbrev pub piece_stop : Piece → Option Stop
piece_stop p = option_map (stop_at p.inside) (refused_at p.typing)

abbrev pub first_stop : List Piece → Option Stop
first_stop [] = None
first_stop (p ∷ ps) = option_or (piece_stop p) (first_stop ps)
