-- Pieces, by what was made of them.
use Rattle.std.specs.Prelude.{ℕ, ◌+◌, Option, Result, Ok, List, [], ◌∷◌, ◌++◌, codes, length, map, ok_or, option_to_list}
use Rattle.cad_grammar.specs.Trees as s
use Rattle.cad_declarations.specs.Points.{transaction_name}
use Rattle.cad_declarations.specs.Tables.{ProgramTables}
use Rattle.cad_declarations.specs.Typed as e
use Rattle.cad_typing.specs.Environments.{Local}
use Rattle.cad_typing.specs.Pieces as p
use Rattle.cad_typing.specs.Pieces.{Piece}
use Rattle.cad_transactions.specs.Code.Parts.{TransactionLocals, TransactionTyping, body_with, typing_with}
use Rattle.cad_typing.specs.Statements.{◌>>=◌}
use Rattle.cad_typing.specs.Transactions.{declaration_is_right, own_count, signer_parameters, transaction_rules}

-- the event of a resource
abbrev pub destroyed_typing : Option e.DestroyedBody → Result p.PieceBody ℕ
destroyed_typing o = ok_or o 0 >>= (λ d. Ok (p.destroyed_piece d))

-- the pieces of its parts
abbrev pub part_pieces : TransactionTyping → List Piece
part_pieces t =
    map (p.part (codes "prepare")) (option_to_list t.prepare)
    ++ p.part (codes "pre") t.pre
    ∷ map (p.part (codes "execute")) (option_to_list t.execute)
    ++ p.part (codes "post") t.post ∷ []

abbrev pub whole_with : ProgramTables → s.TransactionTree → TransactionLocals → List (List Local) → TransactionTyping → ℕ → List Piece
whole_with tables x l outer t count =
    p.declaration (transaction_name ∷ []) (declaration_is_right tables x) (p.transaction_piece (transaction_rules tables x) (body_with tables x l outer t count)) ∷ part_pieces t

-- how many variables are in use in `prepare`
abbrev pub signed_count : s.TransactionTree → ℕ
signed_count x = own_count x + length (signer_parameters x.prepare)

-- what typing makes of the parts with these variables, the innermost scope first
abbrev pub typing_in : ProgramTables → s.TransactionTree → TransactionLocals → TransactionTyping
typing_in tables x l = typing_with tables x l.fields (l.parameters ∷ []) (l.signers ∷ l.parameters ∷ []) (own_count x) (signed_count x)

-- a transaction with these variables
abbrev pub whole_in : ProgramTables → s.TransactionTree → TransactionLocals → List Piece
whole_in tables x l = whole_with tables x l (l.parameters ∷ []) (typing_in tables x l) (own_count x)
