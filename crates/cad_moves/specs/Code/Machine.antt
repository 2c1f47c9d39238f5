-- How a variable goes on from letter to letter, and where it goes wrong.
use Rattle.std.specs.Prelude.{◌≡◌, ℕ, ◌≤◌, ◌||◌, List, [], ◌∷◌, Option, Some, None, Bool, true, false, nat_eq, nat_le, nat_lt, if◌then◌else◌}
use Rattle.cad_paths.specs.declared.letter.Letter.{Letter}
use Rattle.cad_paths.specs.declared.letter.Letter.TheVariants.{Use, Fill, Spend, Empty, Need, Fresh, Set}
use Rattle.cad_paths.specs.declared.letter.Position.{Position}
use Rattle.cad_paths.specs.declared.letter.MoveKind.{MoveKind}
use Rattle.cad_paths.specs.declared.letter.MoveKind.TheVariants.{UsedAfterMove, Lost}
use Rattle.cad_paths.specs.Paths.{PathBody, LetterAt, letter_at, Life}
use Rattle.cad_paths.specs.Linear.{closes, part_order, Offence, NoLater}
use Rattle.cad_moves.specs.declared.state.Rules.{Rules}
use Rattle.cad_moves.specs.declared.state.Rules.TheVariants.{Moves, Fields}
use Rattle.cad_moves.specs.declared.state.State.{State}
use Rattle.cad_moves.specs.declared.state.State.TheVariants.{Live, Vacant, Refilled, Gone}

-- the state after a letter; None where no linear word goes on so
abbrev pub moved : State → Letter → Option State
moved Live Use = Some Live
moved Live Fill = Some Live
moved Live Spend = Some Gone
moved Live Empty = Some Vacant
moved Vacant Use = Some Vacant
moved Vacant Fill = Some Refilled
moved Vacant Spend = Some Gone
moved Refilled Use = Some Refilled
moved Refilled Fill = Some Refilled
moved Refilled Spend = Some Gone
moved _ _ = None

-- a field that is set
abbrev pub set : State → State
set Live = Vacant
set Vacant = Vacant
set Refilled = Refilled
set Gone = Gone

abbrev pub field_moved : State → Letter → State
field_moved q Set = set q
field_moved q _ = q

abbrev pub steps : Rules → State → Letter → Option State
steps Moves q l = moved q l
steps Fields q l = Some (field_moved q l)

abbrev pub is_absent : Option State → Bool
is_absent None = true
is_absent (Some q) = false

-- a field is needed while unset, or is to be unset while set
abbrev pub is_misset : State → Letter → Bool
is_misset Live Need = true
is_misset Vacant Fresh = true
is_misset _ _ = false

abbrev pub is_wrong : Rules → State → Letter → Bool
is_wrong Moves q l = is_absent (moved q l)
is_wrong Fields q l = is_misset q l

-- where a word has come to: a state, or a statement where a letter is wrong
pub data Outcome : Type 0 where
  fine : State → Outcome
  off : Position → Outcome

pub data Runs (r : Rules) : State → List LetterAt → Outcome → Type 0 where
  at_end : {q : State} → Runs r q [] (fine q)
  is_off : {q : State} {l : Letter} {s : Position} {w : List LetterAt} → is_wrong r q l ≡ true → Runs r q (letter_at l s ∷ w) (off s)
  goes : {q k : State} {l : Letter} {s : Position} {w : List LetterAt} {o : Outcome} → steps r q l ≡ Some k → Runs r k w o → Runs r q (letter_at l s ∷ w) o

-- a scope may not be left so
abbrev pub is_held : State → Bool
is_held Live = true
is_held Refilled = true
is_held Vacant = false
is_held Gone = false

-- some life goes wrong, or ends with what is held
pub data Errs (r : Rules) : PathBody → Offence → Type 0 where
  goes_wrong : {b : PathBody} {v : _} {s t : Position} {w : List LetterAt} {x : _} → Life b v s w x → Runs r Live w (off t)
      → Errs r b (record { at = t; kind = UsedAfterMove; variable = v })
  ends_held : {b : PathBody} {v : _} {s : Position} {w : List LetterAt} {x : _} {q : State} → Life b v s w x → Runs r Live w (fine q) → closes x ≡ true → is_held q ≡ true
      → Errs r b (record { at = s; kind = Lost; variable = v })

pub record FirstError (r : Rules) (b : PathBody) (o : Offence) : Type 0 where
  pub errs : Errs r b o
  pub is_first : (p : Offence) → Errs r b p → NoLater o p

abbrev pub Verdict : Rules → PathBody → Option Offence → Type 0
Verdict r b None = (o : Offence) → Errs r b o → ⊥
Verdict r b (Some o) = FirstError r b o

-- ---- the order of positions

abbrev pub is_before : Position → Position → Bool
is_before s t = if nat_eq (part_order s.part) (part_order t.part) then nat_le s.at t.at else nat_lt (part_order s.part) (part_order t.part)

abbrev pub is_same : Position → Position → Bool
is_same s t = if nat_eq (part_order s.part) (part_order t.part) then nat_eq s.at t.at else false
