-- The first stop that is computed is the first of all.
use Rattle.std.proofs.Common.{◌≡◌, refl, subst, sym, ◌∙◌, ap, ℕ, Bool, true, false, List, [], ◌∷◌, ◌++◌, if◌then◌else◌}
use Rattle.std.specs.Prelude.{Option, Some, None, Result, Ok, Err, IfOk, option_map}
use Rattle.std.specs.declared.alloc.AllocError.{AllocError}
use Rattle.std.specs.Option.{option_or}
use Rattle.cad_syntax.specs.declared.text.Name.{Name}
use Rattle.cad_declarations.specs.Build.{stop_at}
use Rattle.cad_declarations.specs.Typed as e
use Rattle.cad_declarations.specs.declared.stop.Stop.{Stop}
use Rattle.cad_typing.specs.Pieces as p
use Rattle.cad_typing.specs.Pieces.{Piece, PieceBody}
use Rattle.cad_typing.specs.Programs.{IsRight, FirstRefused, StopsAt, IllTyped}
use Rattle.cad_pieces.specs.Answers.{StopAnswer}
use Rattle.cad_pieces.specs.Code.Comes.{lacks_return}
use Rattle.cad_pieces.specs.Code.Stops.{refused_at, piece_stop, first_stop}
use Rattle.cad_pieces.proofs.Lacking.{lacks_sound, lacks_complete}

-- ---- one piece

no_lack : (names : List Name) (n : ℕ) (lacks : Bool) → option_map (stop_at names) (if lacks then Some n else None) ≡ None → lacks ≡ true → ⊥
no_lack names n true h e = cc
no_lack names n false h e = cc

right : (names : List Name) (r : Result PieceBody ℕ) → option_map (stop_at names) (refused_at r) ≡ None → (stop : Stop) → StopsAt names r stop → ⊥
right names (Err n) h stop s = cc
right names (Ok (p.function_piece f)) h stop s = no_lack names f.statements (lacks_return f) h (lacks_complete f s.0)
right names (Ok (p.type_piece id)) h stop s = s
right names (Ok (p.initializer_piece id f)) h stop s = s
right names (Ok (p.transaction_piece rules t)) h stop s = s
right names (Ok (p.destroyed_piece d)) h stop s = s
right names (Ok p.plain_piece) h stop s = s

lack : (names : List Name) (f : e.FunctionBody) (stop : Stop) (lacks : Bool) → lacks_return f ≡ lacks
    → option_map (stop_at names) (if lacks then Some f.statements else None) ≡ Some stop → StopsAt names (Ok (p.function_piece f)) stop
lack names f stop true is h = (lacks_sound f is, (let i : stop_at names f.statements ≡ stop = cc in sym i))
lack names f stop false is h = cc

wrong : (names : List Name) (r : Result PieceBody ℕ) (stop : Stop) → option_map (stop_at names) (refused_at r) ≡ Some stop → StopsAt names r stop
wrong names (Err n) stop h = let i : stop_at names n ≡ stop = cc in sym i
wrong names (Ok (p.function_piece f)) stop h = lack names f stop (lacks_return f) refl h
wrong names (Ok (p.type_piece id)) stop h = cc
wrong names (Ok (p.initializer_piece id f)) stop h = cc
wrong names (Ok (p.transaction_piece rules t)) stop h = cc
wrong names (Ok (p.destroyed_piece d)) stop h = cc
wrong names (Ok p.plain_piece) stop h = cc

-- ---- all pieces

behind_right : (x : Piece) (xs : List Piece) (o : Option Stop) → IsRight IllTyped x → StopAnswer IllTyped xs o → StopAnswer IllTyped (x ∷ xs) o
behind_right x xs None r rest = (r, rest)
behind_right x xs (Some stop) r rest = record {
  before = x ∷ rest.before;
  piece = rest.piece;
  after = rest.after;
  split = ap (λ z. x ∷ z) rest.split;
  right = (r, rest.right);
  refused = rest.refused;
}

first : (x : Piece) (xs : List Piece) (o : Option Stop) → piece_stop x ≡ o → StopAnswer IllTyped xs (first_stop xs) → StopAnswer IllTyped (x ∷ xs) (option_or o (first_stop xs))
first x xs (Some stop) h rest = record {
  before = [];
  piece = x;
  after = xs;
  split = refl;
  right = tt;
  refused = wrong x.inside x.typing stop h;
}
first x xs None h rest = behind_right x xs (first_stop xs) (right x.inside x.typing h) rest

pub answers : (xs : List Piece) → StopAnswer IllTyped xs (first_stop xs)
answers [] = tt
answers (x ∷ xs) = first x xs (piece_stop x) refl (answers xs)

pub answers_so : (xs : List Piece) (o : Option Stop) → o ≡ first_stop xs → StopAnswer IllTyped xs o
answers_so xs o h = subst (StopAnswer IllTyped xs) (sym h) (answers xs)

pub answered : (xs : List Piece) (r : Result (Option Stop) AllocError) → IfOk r (λ o. o ≡ first_stop xs) → IfOk r (λ o. StopAnswer IllTyped xs o)
answered xs (Ok o) h = answers_so xs o h
answered xs (Err x) h = h
