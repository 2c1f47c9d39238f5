-- Why the laws have their premises: bodies without marks.
use Rattle.std.proofs.Common.{◌≡◌, refl, sym, ◌∙◌, ap, subst, ◌⊎◌, inl, inr, ℕ, List, [], ◌∷◌, ◌++◌}
use Rattle.std.proofs.lemmas.Bool.{both_ways}
use Rattle.std.specs.Prelude.{Option, Some}
use Rattle.cad_syntax.specs.declared.text.Name.{Name}
use Rattle.cad_paths.specs.declared.letter.Letter.{Letter}
use Rattle.cad_paths.specs.declared.letter.Letter.TheVariants.{Use, Need, Fresh, Set}
use Rattle.cad_paths.specs.declared.letter.Way.{Way}
use Rattle.cad_paths.specs.declared.letter.Way.TheVariants.{Next}
use Rattle.cad_paths.specs.declared.letter.Position.{Position}
use Rattle.cad_paths.specs.Paths.{PathVariable, PathBody, leave, spell, seq, either, loop, catch, scope, LetterAt, letter_at, spelled, goes_on, Words, by_leaving, by_letter, by_both, by_first_alone, by_left, by_right, by_no_turn, by_turn, by_last_turn, by_catching, by_scope, Life, in_scope, in_inner, in_first, in_second, in_left, in_right, in_turn, in_catch}
use Rattle.cad_paths.specs.Initialisation.{IsSet, set_here, set_later, Misset, used_unset, set_again, left_unset}
use Rattle.cad_paths.specs.Marks.{SettingHasMarks}

abbrev variable : Name → PathVariable
variable name = record { number = 0; name = name }

-- ---- words and lives of letters in a row

abbrev word_of : Option ℕ → PathBody → List LetterAt
word_of who (leave x) = []
word_of who (spell v l s) = spelled who v l s
word_of who (seq a b) = []
word_of who (either a b) = []
word_of who (loop a) = []
word_of who (catch c a) = []
word_of who (scope v s b) = []

spell_is : {who : Option ℕ} {b : PathBody} {w : List LetterAt} {x : Way} → Words who b w x → (v : ℕ) (l : Letter) (s : Position) → b ≡ spell v l s → (w ≡ spelled who v l s) × (x ≡ Next)
spell_is by_leaving v l s e = cc
spell_is {who = who} by_letter v l s e = (ap (word_of who) e, refl)
spell_is (by_both i j) v l s e = cc
spell_is (by_first_alone g i) v l s e = cc
spell_is (by_left i) v l s e = cc
spell_is (by_right i) v l s e = cc
spell_is by_no_turn v l s e = cc
spell_is (by_turn i j) v l s e = cc
spell_is (by_last_turn g i) v l s e = cc
spell_is (by_catching i) v l s e = cc
spell_is (by_scope i) v l s e = cc

-- two letters of the variable with the number 0
two_are : {who : Option ℕ} {b : PathBody} {w : List LetterAt} {x : Way} → Words who b w x → (l i : Letter) (s : Position) → b ≡ seq (spell 0 l s) (spell 0 i s) → w ≡ spelled who 0 l s ++ spelled who 0 i s
two_are by_leaving l i s e = cc
two_are by_letter l i s e = cc
two_are {who = who} (by_both {a = a} {b = b} {u = u} {w = w} h k) l i s e =
    let c : a ≡ spell 0 l s = cc in let d : b ≡ spell 0 i s = cc in
    ap (λ z. z ++ w) (spell_is h 0 l s c).0 ∙ ap (λ z. spelled who 0 l s ++ z) (spell_is k 0 i s d).0
two_are (by_first_alone {a = a} {x = x} g h) l i s e = let c : a ≡ spell 0 l s = cc in absurd (both_ways (goes_on x) g (ap goes_on (spell_is h 0 l s c).1))
two_are (by_left h) l i s e = cc
two_are (by_right h) l i s e = cc
two_are by_no_turn l i s e = cc
two_are (by_turn h k) l i s e = cc
two_are (by_last_turn g h) l i s e = cc
two_are (by_catching h) l i s e = cc
two_are (by_scope h) l i s e = cc

no_life : {b : PathBody} {v : PathVariable} {s : Position} {w : List LetterAt} {x : Way} → Life b v s w x → (l : Letter) (p : Position) → b ≡ spell 0 l p → ⊥
no_life (in_scope h) l p e = cc
no_life (in_inner h) l p e = cc
no_life (in_first h) l p e = cc
no_life (in_second i h) l p e = cc
no_life (in_left h) l p e = cc
no_life (in_right h) l p e = cc
no_life (in_turn h) l p e = cc
no_life (in_catch h) l p e = cc

no_lives : {b : PathBody} {v : PathVariable} {s : Position} {w : List LetterAt} {x : Way} → Life b v s w x → (l i : Letter) (p : Position) → b ≡ seq (spell 0 l p) (spell 0 i p) → ⊥
no_lives (in_scope h) l i p e = cc
no_lives (in_inner h) l i p e = cc
no_lives (in_first {a = a} h) l i p e = let c : a ≡ spell 0 l p = cc in no_life h l p c
no_lives (in_second {b = b} k h) l i p e = let c : b ≡ spell 0 i p = cc in no_life h i p c
no_lives (in_left h) l i p e = cc
no_lives (in_right h) l i p e = cc
no_lives (in_turn h) l i p e = cc
no_lives (in_catch h) l i p e = cc

-- ---- a field that is used as a variable, and then set

abbrev used_first : Name → Position → PathBody
used_first name p = scope (variable name) p (seq (spell 0 Use p) (spell 0 Set p))

abbrev used_word : Position → List LetterAt
used_word p = letter_at Use p ∷ (letter_at Set p ∷ [])

used_life : {b : PathBody} {v : PathVariable} {s : Position} {w : List LetterAt} {x : Way} → Life b v s w x → (name : Name) (p : Position) → b ≡ used_first name p → w ≡ used_word p
used_life (in_scope {v = v} {b = b} h) name p e =
    let c : b ≡ seq (spell 0 Use p) (spell 0 Set p) = cc in let d : v ≡ variable name = cc in
    two_are h Use Set p c ∙ ap (λ (z : PathVariable). spelled (Some z.number) 0 Use p ++ spelled (Some z.number) 0 Set p) d
used_life (in_inner {b = b} h) name p e = let c : b ≡ seq (spell 0 Use p) (spell 0 Set p) = cc in absurd (no_lives h Use Set p c)
used_life (in_first h) name p e = cc
used_life (in_second i h) name p e = cc
used_life (in_left h) name p e = cc
used_life (in_right h) name p e = cc
used_life (in_turn h) name p e = cc
used_life (in_catch h) name p e = cc

neither : (p : Position) (m : LetterAt) (u w : List LetterAt) → used_word p ≡ u ++ (m ∷ w) → (m ≡ letter_at Use p) ⊎ (m ≡ letter_at Set p)
neither p m [] w e = let c : letter_at Use p ≡ m = cc in inl (sym c)
neither p m (x ∷ []) w e = let c : letter_at Set p ≡ m = cc in inr (sym c)
neither p m (x ∷ (y ∷ [])) w e = cc
neither p m (x ∷ (y ∷ (z ∷ u))) w e = cc

no_need : (p t : Position) → (letter_at Need t ≡ letter_at Use p) ⊎ (letter_at Need t ≡ letter_at Set p) → ⊥
no_need p t (inl e) = cc
no_need p t (inr e) = cc

no_fresh : (p t : Position) → (letter_at Fresh t ≡ letter_at Use p) ⊎ (letter_at Fresh t ≡ letter_at Set p) → ⊥
no_fresh p t (inl e) = cc
no_fresh p t (inr e) = cc

used_well : {b : PathBody} {t : Position} → Misset b t → (name : Name) (p : Position) → b ≡ used_first name p → ⊥
used_well (used_unset {t = t} u w h e f) name p d = no_need p t (neither p (letter_at Need t) u w (sym (used_life h name p d) ∙ e))
used_well (set_again {t = t} u w h e f) name p d = no_fresh p t (neither p (letter_at Fresh t) u w (sym (used_life h name p d) ∙ e))
used_well (left_unset h c f) name p d = f (subst IsSet (sym (used_life h name p d)) (set_later set_here))

-- so not every body that sets its fields has marks: it may spell letters of variables
setting_fails : Name → Position → SettingHasMarks → ⊥
setting_fails name p f = f (used_first name p) refl (λ s h. used_well h name p refl) refl
