-- Whether each field is set once and before it is used, on every path, and else the first place where one isn't.
use Rattle.std.specs.Prelude.{◌≡◌, List, ◌∷◌, ◌++◌, Option, Some, None, true}
use Rattle.cad_paths.specs.declared.letter.Letter.TheVariants.{Need, Fresh, Set}
use Rattle.cad_paths.specs.declared.letter.Way.{Way}
use Rattle.cad_paths.specs.declared.letter.Position.{Position}
use Rattle.cad_paths.specs.Paths.{PathVariable, PathBody, LetterAt, letter_at, Life}
use Rattle.cad_paths.specs.Linear.{closes, NotAfter}

-- the field is set somewhere in this part of a path
pub data IsSet : List LetterAt → Type 0 where
  set_here : {s : Position} {w : List LetterAt} → IsSet (letter_at Set s ∷ w)
  set_later : {m : LetterAt} {w : List LetterAt} → IsSet w → IsSet (m ∷ w)

-- A field is wrongly set or used at this position: on some path it is used where it wasn't set, it is set again where it may
-- be set but once, or the path ends with the field unset. The life of a field is declared at the end of what sets it.
pub data Misset : PathBody → Position → Type 0 where
  used_unset : {b : PathBody} {v : PathVariable} {s t : Position} {w : List LetterAt} {x : Way} (before behind : List LetterAt)
      → Life b v s w x → w ≡ before ++ (letter_at Need t ∷ behind) → (IsSet before → ⊥) → Misset b t
  set_again : {b : PathBody} {v : PathVariable} {s t : Position} {w : List LetterAt} {x : Way} (before behind : List LetterAt)
      → Life b v s w x → w ≡ before ++ (letter_at Fresh t ∷ behind) → IsSet before → Misset b t
  left_unset : {b : PathBody} {v : PathVariable} {s : Position} {w : List LetterAt} {x : Way}
      → Life b v s w x → closes x ≡ true → (IsSet w → ⊥) → Misset b s

pub record FirstMisset (b : PathBody) (s : Position) : Type 0 where
  pub is_wrong : Misset b s
  pub is_first : (t : Position) → Misset b t → NotAfter s t

-- what a check of initialisation answers
abbrev pub InitialisationOf : PathBody → Option Position → Type 0
InitialisationOf b None = (s : Position) → Misset b s → ⊥
InitialisationOf b (Some s) = FirstMisset b s
