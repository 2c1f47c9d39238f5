-- The pieces that values of the program are.
use Rattle.std.specs.Prelude.{ℕ, Option, Result, Ok, Err, List, map, unwrap_or}
use Rattle.cad_syntax.specs.declared.type_id.TypeId.{TypeId}
use Rattle.cad_declarations.specs.Entries.{no_id}
use Rattle.cad_declarations.specs.Typed as e
use Rattle.cad_declarations.specs.Views.{part_of, destroyed_of}
use Rattle.cad_paths.specs.declared.letter.FieldRule.{FieldRule}
use Rattle.cad_typing.specs.Pieces as p
use Rattle.cad_pieces.specs.declared.piece.Piece.{Piece}
use Rattle.cad_pieces.specs.declared.piece.PieceBody.{PieceBody}
use Rattle.cad_pieces.specs.declared.piece.PieceBody.TheVariants as piece

-- a body, with the type whose initializer it is, or the rules of the fields that it sets
abbrev pub body_piece : Option TypeId → List FieldRule → e.PartBody → p.PieceBody
body_piece owner rules (e.function_part f) = p.function_piece f
body_piece owner rules (e.initializer_part f) = p.initializer_piece (unwrap_or owner no_id) f
body_piece owner rules (e.transaction_part t) = p.transaction_piece rules t

abbrev pub piece_body_of : PieceBody → p.PieceBody
piece_body_of (piece.Type id) = p.type_piece id
piece_body_of (piece.Body owner rules body) = body_piece owner rules.items (part_of body)
piece_body_of (piece.Destroyed d) = p.destroyed_piece (destroyed_of d)
piece_body_of piece.Plain = p.plain_piece

abbrev pub result_of : Result PieceBody ℕ → Result p.PieceBody ℕ
result_of (Ok body) = Ok (piece_body_of body)
result_of (Err n) = Err n

abbrev pub piece_of : Piece → p.Piece
piece_of x = record { inside = x.inside; typing = result_of x.typing }

abbrev pub pieces_of : List Piece → List p.Piece
pieces_of all = map piece_of all
