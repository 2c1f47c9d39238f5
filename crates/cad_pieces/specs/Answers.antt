-- What the answers about pieces say.
use Rattle.std.specs.Prelude.{Option, Some, None, List}
use Rattle.cad_declarations.specs.Meets.{Each}
use Rattle.cad_declarations.specs.declared.stop.Stop.{Stop}
use Rattle.cad_typing.specs.Pieces.{Piece}
use Rattle.cad_typing.specs.Programs.{IsRight, FirstRefused}

-- something is refused of no piece, or this is where it is refused first
abbrev pub StopAnswer : (Piece → Stop → Type 0) → List Piece → Option Stop → Type 0
StopAnswer Refused pieces None = Each (IsRight Refused) pieces
StopAnswer Refused pieces (Some stop) = FirstRefused Refused pieces stop
