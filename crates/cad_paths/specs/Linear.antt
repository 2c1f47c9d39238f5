-- Which lives of a resource variable are linear, and the first offence where some isn't.
use Rattle.std.specs.Prelude.{◌≡◌, ℕ, ◌≤◌, List, [], ◌∷◌, ◌++◌, map, Option, Some, None, Bool, true, false, if◌then◌else◌}
use Rattle.cad_paths.specs.declared.letter.Letter.{Letter}
use Rattle.cad_paths.specs.declared.letter.Letter.TheVariants.{Use, Fill, Spend, Empty}
use Rattle.cad_paths.specs.declared.letter.Way.{Way}
use Rattle.cad_paths.specs.declared.letter.Way.TheVariants.{Next, Broken, Continued, Returned, Never}
use Rattle.cad_paths.specs.declared.letter.BodyPart.{BodyPart}
use Rattle.cad_paths.specs.declared.letter.BodyPart.TheVariants.{Whole, Declaration, Prepare, Pre, Execute, Post}
use Rattle.cad_paths.specs.declared.letter.Position.{Position}
use Rattle.cad_paths.specs.declared.letter.MoveKind.{MoveKind}
use Rattle.cad_paths.specs.declared.letter.MoveKind.TheVariants.{UsedAfterMove, Lost}
use Rattle.cad_paths.specs.Paths.{PathVariable, PathBody, LetterAt, letter_at, Life}

-- ---- words

-- the letters of a life, each at its statement: the variable is made, then what the path spells, and its scope is closed
pub data LifeLetter : Type 0 where
  make : Position → LifeLetter
  spells : Letter → Position → LifeLetter
  close : Position → LifeLetter

abbrev pub life_letter : LetterAt → LifeLetter
life_letter (letter_at l s) = spells l s

-- a path that leaves by a call that never ends closes nothing
abbrev pub closes : Way → Bool
closes Never = false
closes Next = true
closes Broken = true
closes Continued = true
closes Returned = true

abbrev pub closing : Way → Position → List LifeLetter
closing x s = if closes x then close s ∷ [] else []

-- the word of a life: both ends stand at the declaring statement
abbrev pub life_word : Position → List LetterAt → Way → List LifeLetter
life_word s w x = make s ∷ (map life_letter w ++ closing x s)

-- `use` and `fill`, any number of them
pub data Uses : List LifeLetter → Type 0 where
  no_uses : Uses []
  and_use : {s : Position} {w : List LifeLetter} → Uses w → Uses (spells Use s ∷ w)
  and_fill : {s : Position} {w : List LifeLetter} → Uses w → Uses (spells Fill s ∷ w)

-- `use`, any number of them
pub data Looks : List LifeLetter → Type 0 where
  no_looks : Looks []
  and_look : {s : Position} {w : List LifeLetter} → Looks w → Looks (spells Use s ∷ w)

-- The linear words. A variable is spent once; where it is nil, it may be left, spent, or filled and then spent.
pub data LinearWord : List LifeLetter → Type 0 where
  spent : (a b c : Position) {u : List LifeLetter} → Uses u → LinearWord (make a ∷ (u ++ (spells Spend b ∷ (close c ∷ []))))
  left_nil : (a b c : Position) {u r : List LifeLetter} → Uses u → Looks r → LinearWord (make a ∷ (u ++ (spells Empty b ∷ (r ++ (close c ∷ [])))))
  spent_nil : (a b c d : Position) {u r : List LifeLetter} → Uses u → Looks r
      → LinearWord (make a ∷ (u ++ (spells Empty b ∷ (r ++ (spells Spend c ∷ (close d ∷ []))))))
  filled_again : (a b c d e : Position) {u r v : List LifeLetter} → Uses u → Looks r → Uses v
      → LinearWord (make a ∷ (u ++ (spells Empty b ∷ (r ++ (spells Fill c ∷ (v ++ (spells Spend d ∷ (close e ∷ []))))))))

-- some linear word begins so
abbrev pub BeginsLinear : List LifeLetter → Type 0
BeginsLinear w = (z : List LifeLetter) × LinearWord (w ++ z)

-- a life is linear where its word is; where a call never ends, where its word begins a linear one
abbrev pub IsLinear : Way → List LifeLetter → Type 0
IsLinear Never w = BeginsLinear w
IsLinear Next w = LinearWord w
IsLinear Broken w = LinearWord w
IsLinear Continued w = LinearWord w
IsLinear Returned w = LinearWord w

-- each life of each variable is linear
abbrev pub Linear : PathBody → Type 0
Linear b = (v : PathVariable) (s : Position) (w : List LetterAt) (x : Way) → Life b v s w x → IsLinear x (life_word s w x)

-- ---- the first offence

pub record Offence : Type 0 where
  pub at : Position
  pub kind : MoveKind
  pub variable : PathVariable

-- what is wrong with a life whose first letter that continues no linear word is this one
abbrev pub offence_of : PathVariable → LifeLetter → Offence
offence_of v (make s) = record { at = s; kind = UsedAfterMove; variable = v }
offence_of v (spells l s) = record { at = s; kind = UsedAfterMove; variable = v }
offence_of v (close s) = record { at = s; kind = Lost; variable = v }

pub data Offends : PathBody → Offence → Type 0 where
  offends : {b : PathBody} {v : PathVariable} {s : Position} {w : List LetterAt} {x : Way} (p r : List LifeLetter) (m : LifeLetter)
      → Life b v s w x → life_word s w x ≡ p ++ (m ∷ r) → BeginsLinear p → (BeginsLinear (p ++ (m ∷ [])) → ⊥) → Offends b (offence_of v m)

-- the order of a transaction's parts in its source
abbrev pub part_order : BodyPart → ℕ
part_order Whole = 0
part_order Declaration = 1
part_order Prepare = 2
part_order Pre = 3
part_order Execute = 4
part_order Post = 5

abbrev pub kind_order : MoveKind → ℕ
kind_order UsedAfterMove = 0
kind_order Lost = 1

-- by part, then by statement
pub record NotAfter (s t : Position) : Type 0 where
  pub by_part : part_order s.part ≤ part_order t.part
  pub by_statement : part_order s.part ≡ part_order t.part → s.at ≤ t.at

-- by position, then use after a move before a loss, then the variable declared first
pub record NoLater (o p : Offence) : Type 0 where
  pub by_position : NotAfter o.at p.at
  pub by_kind : o.at ≡ p.at → kind_order o.kind ≤ kind_order p.kind
  pub by_variable : o.at ≡ p.at → o.kind ≡ p.kind → o.variable.number ≤ p.variable.number

pub record FirstOffence (b : PathBody) (o : Offence) : Type 0 where
  pub offends : Offends b o
  pub is_first : (p : Offence) → Offends b p → NoLater o p

-- what a check of moves answers
abbrev pub MovesOf : PathBody → Option Offence → Type 0
MovesOf b None = Linear b
MovesOf b (Some o) = FirstOffence b o
