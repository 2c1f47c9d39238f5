-- Whole paths of a body, and their lives.
use Rattle.std.specs.Prelude.{◌≡◌, ◌↔◌, ℕ, List, [], ◌∷◌, ◌++◌, Option, Some, false}
use Rattle.cad_paths.specs.declared.letter.Letter.{Letter}
use Rattle.cad_paths.specs.declared.letter.Way.{Way}
use Rattle.cad_paths.specs.declared.letter.Way.TheVariants.{Next}
use Rattle.cad_paths.specs.declared.letter.Position.{Position}
use Rattle.cad_paths.specs.Paths.{PathVariable, PathBody, leave, spell, seq, either, loop, catch, scope, LetterAt, spelled, goes_on, caught, Life}

pub data Path : PathBody → Way → Type 0 where
  leaving : {x : Way} → Path (leave x) x
  passing : {v : ℕ} {l : Letter} {s : Position} → Path (spell v l s) Next
  both : {a b : PathBody} {x : Way} → Path a Next → Path b x → Path (seq a b) x
  first_alone : {a b : PathBody} {x : Way} → goes_on x ≡ false → Path a x → Path (seq a b) x
  left : {a b : PathBody} {x : Way} → Path a x → Path (either a b) x
  right : {a b : PathBody} {x : Way} → Path b x → Path (either a b) x
  no_turn : {a : PathBody} → Path (loop a) Next
  turn : {a : PathBody} {y : Way} → Path a Next → Path (loop a) y → Path (loop a) y
  last_turn : {a : PathBody} {x : Way} → goes_on x ≡ false → Path a x → Path (loop a) x
  catching : {c : Way} {a : PathBody} {x : Way} → Path a x → Path (catch c a) (caught c x)
  inside : {v : PathVariable} {s : Position} {b : PathBody} {x : Way} → Path b x → Path (scope v s b) x

-- what a path spells for a variable
abbrev pub word : Option ℕ → {b : PathBody} {x : Way} → Path b x → List LetterAt
word who leaving = []
word who (passing {v = v} {l = l} {s = s}) = spelled who v l s
word who (both p q) = word who p ++ word who q
word who (first_alone e p) = word who p
word who (left p) = word who p
word who (right p) = word who p
word who no_turn = []
word who (turn p q) = word who p ++ word who q
word who (last_turn e p) = word who p
word who (catching p) = word who p
word who (inside p) = word who p

pub record LifeEntry : Type 0 where
  pub variable : PathVariable
  pub at : Position
  pub word : List LetterAt
  pub way : Way

-- a life begins at each passage of a declaration, and ends where its scope is left
abbrev pub lives : {b : PathBody} {x : Way} → Path b x → List LifeEntry
lives leaving = []
lives passing = []
lives (both p q) = lives p ++ lives q
lives (first_alone e p) = lives p
lives (left p) = lives p
lives (right p) = lives p
lives no_turn = []
lives (turn p q) = lives p ++ lives q
lives (last_turn e p) = lives p
lives (catching p) = lives p
lives (inside {v = v} {s = s} {x = x} p) = record { variable = v; at = s; word = word (Some v.number) p; way = x } ∷ lives p

pub data Among (l : LifeEntry) : List LifeEntry → Type 0 where
  at_head : {ls : List LifeEntry} → Among l (l ∷ ls)
  further : {m : LifeEntry} {ls : List LifeEntry} → Among l ls → Among l (m ∷ ls)

-- some whole path has this life
abbrev pub OnPath : PathBody → PathVariable → Position → List LetterAt → Way → Type 0
OnPath b v s w x = (y : Way) × (p : Path b y) × Among (record { variable = v; at = s; word = w; way = x }) (lives p)

abbrev pub LivesAreOnPaths : Type 0
LivesAreOnPaths = (b : PathBody) (v : PathVariable) (s : Position) (w : List LetterAt) (x : Way) → Life b v s w x ↔ OnPath b v s w x
