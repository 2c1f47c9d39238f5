-- Where moves, purity and initialisation refuse a declaration or function.
use Rattle.std.specs.Prelude.{◌≡◌, ℕ, true, false, Bool, Option, Some, None, Result, Ok, Err, List, [], ◌∷◌, codes}
use Rattle.cad_syntax.specs.declared.text.Name.{Name}
use Rattle.cad_declarations.specs.Build.{stop_at}
use Rattle.cad_declarations.specs.Members.{type_in}
use Rattle.cad_declarations.specs.Points.{word, transaction_name}
use Rattle.cad_declarations.specs.Tables.{TypeEntry, ProgramTables}
use Rattle.cad_declarations.specs.Typed as e
use Rattle.cad_declarations.specs.declared.stop.Stop.{Stop}
use Rattle.cad_paths.specs.declared.letter.BodyPart.{BodyPart}
use Rattle.cad_paths.specs.declared.letter.BodyPart.TheVariants.{Whole, Declaration, Prepare, Pre, Execute, Post}
use Rattle.cad_paths.specs.declared.letter.FieldRule.{FieldRule}
use Rattle.cad_paths.specs.declared.letter.Position.{Position}
use Rattle.cad_paths.specs.Bodies.{resource_letters, field_letters}
use Rattle.cad_paths.specs.Fields.{rules_in, lacks_initializer}
use Rattle.cad_paths.specs.Initialisation.{FirstMisset}
use Rattle.cad_paths.specs.Linear.{Offence, FirstOffence}
use Rattle.cad_paths.specs.Purity.{impurity, is_pure_event}
use Rattle.cad_typing.specs.Pieces.{PieceBody, type_piece, function_piece, initializer_piece, transaction_piece, destroyed_piece, plain_piece, Piece}

-- ---- places

-- the parts of a transaction have names of their own
abbrev pub part_names : List Name → BodyPart → List Name
part_names names Whole = names
part_names names Declaration = transaction_name ∷ []
part_names names Prepare = word (codes "prepare") ∷ []
part_names names Pre = word (codes "pre") ∷ []
part_names names Execute = word (codes "execute") ∷ []
part_names names Post = word (codes "post") ∷ []

-- a position in a body, as refusals name it
abbrev pub place_of : List Name → Position → Stop
place_of names position = stop_at (part_names names position.part) position.at

-- ---- bodies

-- what a phase refuses of a body, at a position
abbrev pub Refusal : Type 1
Refusal = e.PartBody → Position → Type 0

-- the refusal's position is told as this stop
abbrev pub RefusedAt : Refusal → List Name → e.PartBody → Stop → Type 0
RefusedAt Refused names body stop = (position : Position) × Refused body position × (stop ≡ place_of names position)

-- the first resource variable that is lost, or used after its move
abbrev pub MisMoved : Refusal
MisMoved body position = (o : Offence) × FirstOffence (resource_letters body) o × (o.at ≡ position)

-- the first statement that isn't pure
abbrev pub Impure : ProgramTables → Refusal
Impure tables body position = impurity tables body ≡ Some position

-- the first of these fields that is set or used wrongly
abbrev pub Misset : List FieldRule → Refusal
Misset rules body position = FirstMisset (field_letters rules body) position

-- ---- pieces

-- the declaration itself is refused
abbrev pub RefusedThere : Bool → List Name → Stop → Type 0
RefusedThere is_refused names stop = (is_refused ≡ true) × (stop ≡ stop_at names 0)

abbrev pub MovesRefuse : List Name → PieceBody → Stop → Type 0
MovesRefuse names (function_piece f) stop = RefusedAt MisMoved names (e.function_part f) stop
MovesRefuse names (initializer_piece id f) stop = RefusedAt MisMoved names (e.initializer_part f) stop
MovesRefuse names (transaction_piece rules t) stop = RefusedAt MisMoved names (e.transaction_part t) stop
MovesRefuse names _ stop = ⊥

abbrev pub PurityRefuses : ProgramTables → List Name → PieceBody → Stop → Type 0
PurityRefuses tables names (function_piece f) stop = RefusedAt (Impure tables) names (e.function_part f) stop
PurityRefuses tables names (initializer_piece id f) stop = RefusedAt (Impure tables) names (e.initializer_part f) stop
PurityRefuses tables names (transaction_piece rules t) stop = RefusedAt (Impure tables) names (e.transaction_part t) stop
PurityRefuses tables names (destroyed_piece d) stop = (is_pure_event tables d ≡ false) × (stop ≡ stop_at names 0)
PurityRefuses tables names _ stop = ⊥

-- a contract, struct or resource that has fields and no written initializer
abbrev pub is_unset : Option TypeEntry → Bool
is_unset None = false
is_unset (Some entry) = lacks_initializer entry

abbrev pub InitialisationRefuses : ProgramTables → List Name → PieceBody → Stop → Type 0
InitialisationRefuses tables names (type_piece id) stop = RefusedThere (is_unset (type_in tables.types id)) names stop
InitialisationRefuses tables names (initializer_piece id f) stop = RefusedAt (Misset (rules_in tables id)) names (e.initializer_part f) stop
InitialisationRefuses tables names (transaction_piece rules t) stop = RefusedAt (Misset rules) names (e.transaction_part t) stop
InitialisationRefuses tables names _ stop = ⊥

-- a phase judges what is well-typed
abbrev pub Judged : (List Name → PieceBody → Stop → Type 0) → List Name → Result PieceBody ℕ → Stop → Type 0
Judged Refuses names (Ok body) stop = Refuses names body stop
Judged Refuses names (Err n) stop = ⊥

abbrev pub InMoves : Piece → Stop → Type 0
InMoves p stop = Judged MovesRefuse p.inside p.typing stop

abbrev pub InPurity : ProgramTables → Piece → Stop → Type 0
InPurity tables p stop = Judged (PurityRefuses tables) p.inside p.typing stop

abbrev pub InInitialisation : ProgramTables → Piece → Stop → Type 0
InInitialisation tables p stop = Judged (InitialisationRefuses tables) p.inside p.typing stop
