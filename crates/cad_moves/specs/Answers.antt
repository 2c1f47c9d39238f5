-- What a check of moves answers.
use Rattle.std.specs.Prelude.{Result, Ok, Err}
use Rattle.cad_paths.specs.Paths.{PathBody}
use Rattle.cad_paths.specs.Linear.{Linear, FirstOffence}
use Rattle.cad_moves.specs.declared.misuse.MoveStop.{MoveStop}
use Rattle.cad_moves.specs.declared.misuse.MoveStop.TheVariants.{At, Memory}
use Rattle.cad_moves.specs.Views.{offence_of}

-- each life is linear, or the first offence; nothing is said where there was no memory
abbrev pub MovesAnswer : PathBody → Result (Unit {0}) MoveStop → Type 0
MovesAnswer b (Ok x) = Linear b
MovesAnswer b (Err (At m)) = FirstOffence b (offence_of m)
MovesAnswer b (Err Memory) = Unit {0}
