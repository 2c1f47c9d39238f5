-- A body whose lives are linear has marks.
use Rattle.std.proofs.Common.{◌≡◌, refl, ◌∙◌, ap, false, List, [], ◌∷◌, ◌++◌, map, append-nil}
use Rattle.std.specs.Prelude.{Option, Some, None}
use Rattle.cad_paths.specs.declared.letter.Letter.TheVariants.{Fill, Spend, Empty}
use Rattle.cad_paths.specs.declared.letter.Way.{Way}
use Rattle.cad_paths.specs.declared.letter.Way.TheVariants.{Next, Broken, Continued, Returned, Never}
use Rattle.cad_paths.specs.declared.letter.Position.{Position}
use Rattle.cad_paths.specs.Paths.{LetterAt, letter_at}
use Rattle.cad_paths.specs.Linear.{LifeLetter, make, spells, close, life_letter, life_word, Uses, no_uses, and_use, and_fill, Looks, no_looks, and_look, LinearWord, spent, left_nil, spent_nil, filled_again, BeginsLinear, IsLinear}
use Rattle.cad_paths.specs.Marks.{LinearHasMarks}
use Rattle.cad_mark_laws.proofs.States.{State, valued, emptied, left, lacking, onward, run}
use Rattle.std.proofs.lemmas.Bool.{false≢true}
use Rattle.cad_mark_laws.proofs.Entries.{none_some}
use Rattle.cad_mark_laws.proofs.Sound.{IsBad, unmarked}

-- ---- words with their ends

abbrev pub closed : Option State → Option State
closed None = None
closed (Some valued) = None
closed (Some emptied) = Some emptied
closed (Some left) = Some left
closed (Some lacking) = Some lacking

abbrev pub made : Option State → Option State
made None = None
made (Some s) = Some valued

-- the state after a life's letters; None where one isn't allowed
abbrev pub goes : Option State → List LifeLetter → Option State
goes q [] = q
goes q (make a ∷ w) = goes (made q) w
goes q (spells l a ∷ w) = goes (onward l q) w
goes q (close a ∷ w) = goes (closed q) w

goes_none : (w : List LifeLetter) → goes None w ≡ None
goes_none [] = refl
goes_none (make a ∷ w) = goes_none w
goes_none (spells l a ∷ w) = goes_none w
goes_none (close a ∷ w) = goes_none w

goes_append : (q : Option State) (u w : List LifeLetter) → goes q (u ++ w) ≡ goes (goes q u) w
goes_append q [] w = refl
goes_append q (make a ∷ u) w = goes_append (made q) u w
goes_append q (spells l a ∷ u) w = goes_append (onward l q) u w
goes_append q (close a ∷ u) w = goes_append (closed q) u w

goes_on_behind : (q r : Option State) (u w : List LifeLetter) → goes q u ≡ r → goes q (u ++ w) ≡ goes r w
goes_on_behind q r u w e = goes_append q u w ∙ ap (λ z. goes z w) e

goes_run : (q : Option State) (w : List LetterAt) → goes q (map life_letter w) ≡ run q w
goes_run q [] = refl
goes_run q (letter_at l s ∷ w) = goes_run (onward l q) w

uses_keep : {u : List LifeLetter} → Uses u → goes (Some valued) u ≡ Some valued
uses_keep no_uses = refl
uses_keep (and_use h) = uses_keep h
uses_keep (and_fill h) = uses_keep h

looks_keep : {u : List LifeLetter} → Looks u → goes (Some emptied) u ≡ Some emptied
looks_keep no_looks = refl
looks_keep (and_look h) = looks_keep h

-- a linear word is allowed
linear_goes : {w : List LifeLetter} → LinearWord w → (k : State) × (goes (Some valued) w ≡ Some k)
linear_goes (spent a b c {u = u} h) = (left, goes_on_behind (Some valued) (Some valued) u (spells Spend b ∷ (close c ∷ [])) (uses_keep h))
linear_goes (left_nil a b c {u = u} {r = r} h k) = (
  emptied,
  goes_on_behind (Some valued) (Some valued) u (spells Empty b ∷ (r ++ (close c ∷ []))) (uses_keep h)
      ∙ goes_on_behind (Some emptied) (Some emptied) r (close c ∷ []) (looks_keep k),
)
linear_goes (spent_nil a b c d {u = u} {r = r} h k) = (
  left,
  goes_on_behind (Some valued) (Some valued) u (spells Empty b ∷ (r ++ (spells Spend c ∷ (close d ∷ [])))) (uses_keep h)
      ∙ goes_on_behind (Some emptied) (Some emptied) r (spells Spend c ∷ (close d ∷ [])) (looks_keep k),
)
linear_goes (filled_again a b c d e {u = u} {r = r} {v = v} h k l) = (
  left,
  goes_on_behind (Some valued) (Some valued) u (spells Empty b ∷ (r ++ (spells Fill c ∷ (v ++ (spells Spend d ∷ (close e ∷ [])))))) (uses_keep h)
      ∙ goes_on_behind (Some emptied) (Some emptied) r (spells Fill c ∷ (v ++ (spells Spend d ∷ (close e ∷ [])))) (looks_keep k)
      ∙ goes_on_behind (Some valued) (Some valued) v (spells Spend d ∷ (close e ∷ [])) (uses_keep l),
)

-- ---- lives

begins_well : (w z : List LifeLetter) (q : Option State) → goes (Some valued) w ≡ q → LinearWord (w ++ z) → q ≡ None → ⊥
begins_well w z q e h d = let p = linear_goes h in let g = goes_on_behind (Some valued) q w z e in let f = ap (λ o. goes o z) d in let n = goes_none z in none_some (goes (Some valued) (w ++ z)) p.0 (g ∙ f ∙ n) p.1

ended_well : (s : Position) (w : List LetterAt) (q : Option State) → run (Some valued) w ≡ q → LinearWord (make s ∷ (map life_letter w ++ (close s ∷ []))) → (closed q ≡ None) → ⊥
ended_well s w q e h d =
    let p = linear_goes h in
    let g = goes_on_behind (Some valued) q (map life_letter w) (close s ∷ []) (goes_run (Some valued) w ∙ e) in
    none_some (goes (Some valued) (map life_letter w ++ (close s ∷ []))) p.0 (g ∙ d) p.1

ends_linear : (s : Position) (w : List LetterAt) (x : Way) (q : Option State) → run (Some valued) w ≡ q → LinearWord (make s ∷ (map life_letter w ++ (close s ∷ []))) → IsBad false x q → ⊥
ends_linear s w x None e h i = ended_well s w None e h refl
ends_linear s w x (Some k) e h i = ended_well s w (Some k) e h (ap (λ z. closed (Some z)) i.1)

never_linear : (s : Position) (w : List LetterAt) (q : Option State) → run (Some valued) w ≡ q → BeginsLinear (make s ∷ (map life_letter w ++ [])) → IsBad false Never q → ⊥
never_linear s w None e h i =
    begins_well (make s ∷ (map life_letter w ++ [])) h.0 None (ap (λ z. goes (Some valued) z) (append-nil (map life_letter w)) ∙ (goes_run (Some valued) w ∙ e)) h.1 refl
never_linear s w (Some k) e h i = false≢true i.0

-- a linear life is allowed, and ends as it may
linear_well : (s : Position) (w : List LetterAt) (x : Way) → IsLinear x (life_word s w x) → IsBad false x (run (Some valued) w) → ⊥
linear_well s w Never h i = never_linear s w (run (Some valued) w) refl h i
linear_well s w Next h i = ends_linear s w Next (run (Some valued) w) refl h i
linear_well s w Broken h i = ends_linear s w Broken (run (Some valued) w) refl h i
linear_well s w Continued h i = ends_linear s w Continued (run (Some valued) w) refl h i
linear_well s w Returned h i = ends_linear s w Returned (run (Some valued) w) refl h i

pub linear_marked : LinearHasMarks
linear_marked b d l e = let g = unmarked false b d e in linear_well g.1 g.2 g.3 (l g.0 g.1 g.2 g.3 g.4) g.5
