-- A body that sets its fields has marks.
use Rattle.std.proofs.Common.{◌≡◌, refl, sym, ◌∙◌, ap, subst, ◌⊎◌, inl, inr, ℕ, Bool, true, false, ◌&&◌, List, [], ◌∷◌, ◌++◌, append_assoc, append-nil}
use Rattle.std.proofs.lemmas.Bool.{false≢true, both_ways, and_parts}
use Rattle.std.specs.Prelude.{Option, Some, if◌then◌else◌}
use Rattle.cad_paths.specs.declared.letter.Letter.{Letter}
use Rattle.cad_paths.specs.declared.letter.Letter.TheVariants.{Use, Fill, Spend, Empty, Need, Fresh, Set}
use Rattle.cad_paths.specs.declared.letter.Way.{Way}
use Rattle.cad_paths.specs.declared.letter.Position.{Position}
use Rattle.cad_paths.specs.Paths.{PathVariable, PathBody, LetterAt, letter_at, is_spelled, Words, by_leaving, by_letter, by_both, by_first_alone, by_left, by_right, by_no_turn, by_turn, by_last_turn, by_catching, by_scope, Life, in_scope, in_inner, in_first, in_second, in_left, in_right, in_turn, in_catch}
use Rattle.cad_paths.specs.Bodies.{field_letters}
use Rattle.cad_paths.specs.Initialisation.{IsSet, set_here, set_later, Misset, used_unset, set_again, left_unset}
use Rattle.cad_mark_laws.specs.Laws.{SetFieldsHaveMarks}
use Rattle.cad_mark_laws.proofs.States.{State, valued, emptied, left, lacking, run}
use Rattle.cad_mark_laws.proofs.Plain.{is_field_letter, sets, letters_set, letters_anew}
use Rattle.cad_mark_laws.proofs.Sound.{IsBad, WrongLife, unmarked}

-- ---- the words of a body of letters of fields

abbrev pub sets_word : List LetterAt → Bool
sets_word [] = true
sets_word (letter_at l s ∷ w) = is_field_letter l && sets_word w

true_and : (a b : Bool) → a ≡ true → b ≡ true → (a && b) ≡ true
true_and true b h i = i
true_and false b h i = cc

word_append : (u w : List LetterAt) → sets_word u ≡ true → sets_word w ≡ true → sets_word (u ++ w) ≡ true
word_append [] w h i = i
word_append (letter_at l s ∷ u) w h i = let p = and_parts (is_field_letter l) (sets_word u) h in true_and (is_field_letter l) (sets_word (u ++ w)) p.0 (word_append u w p.1 i)

word_spelled : (b : Bool) (l : Letter) (s : Position) → is_field_letter l ≡ true → sets_word (if b then letter_at l s ∷ [] else []) ≡ true
word_spelled true l s h = true_and (is_field_letter l) true h refl
word_spelled false l s h = refl

word_sets : (who : Option ℕ) {b : PathBody} {w : List LetterAt} {x : Way} → Words who b w x → sets b ≡ true → sets_word w ≡ true
word_sets who by_leaving h = refl
word_sets who (by_letter {v = v} {l = l} {s = s}) h = word_spelled (is_spelled who v) l s h
word_sets who (by_both {a = a} {b = b} {u = u} {w = w} i j) h = let p = and_parts (sets a) (sets b) h in word_append u w (word_sets who i p.0) (word_sets who j p.1)
word_sets who (by_first_alone {a = a} {b = b} g i) h = word_sets who i (and_parts (sets a) (sets b) h).0
word_sets who (by_left {a = a} {b = b} i) h = word_sets who i (and_parts (sets a) (sets b) h).0
word_sets who (by_right {a = a} {b = b} i) h = word_sets who i (and_parts (sets a) (sets b) h).1
word_sets who by_no_turn h = refl
word_sets who (by_turn {u = u} {w = w} i j) h = word_append u w (word_sets who i h) (word_sets who j h)
word_sets who (by_last_turn g i) h = word_sets who i h
word_sets who (by_catching i) h = word_sets who i h
word_sets who (by_scope i) h = word_sets who i h

life_sets : {b : PathBody} {v : PathVariable} {s : Position} {w : List LetterAt} {x : Way} → Life b v s w x → sets b ≡ true → sets_word w ≡ true
life_sets (in_scope {v = v} i) h = word_sets (Some v.number) i h
life_sets (in_inner i) h = life_sets i h
life_sets (in_first {a = a} {b = b} i) h = life_sets i (and_parts (sets a) (sets b) h).0
life_sets (in_second {a = a} {b = b} j i) h = life_sets i (and_parts (sets a) (sets b) h).1
life_sets (in_left {a = a} {b = b} i) h = life_sets i (and_parts (sets a) (sets b) h).0
life_sets (in_right {a = a} {b = b} i) h = life_sets i (and_parts (sets a) (sets b) h).1
life_sets (in_turn i) h = life_sets i h
life_sets (in_catch i) h = life_sets i h

-- ---- what was set before a letter

not_set : IsSet [] → ⊥
not_set h = elim h [ ]

set_append : (u : List LetterAt) (m : LetterAt) → IsSet u → IsSet (u ++ (m ∷ []))
set_append u m (set_here {s = s} {w = w}) = set_here
set_append u m (set_later {m = n} {w = w} h) = set_later (set_append w m h)

set_last : (u : List LetterAt) (s : Position) → IsSet (u ++ (letter_at Set s ∷ []))
set_last [] s = set_here
set_last (m ∷ u) s = set_later (set_last u s)

-- a letter that sets nothing
abbrev pub is_set_letter : LetterAt → Bool
is_set_letter (letter_at Set s) = true
is_set_letter (letter_at Use s) = false
is_set_letter (letter_at Fill s) = false
is_set_letter (letter_at Spend s) = false
is_set_letter (letter_at Empty s) = false
is_set_letter (letter_at Need s) = false
is_set_letter (letter_at Fresh s) = false

-- the first letter sets, or what stands behind does
set_split : {w : List LetterAt} → IsSet w → (m : LetterAt) (u : List LetterAt) → w ≡ m ∷ u → (is_set_letter m ≡ true) ⊎ IsSet u
set_split (set_here {s = s} {w = w}) m u e = let p : letter_at Set s ≡ m = cc in inl (ap is_set_letter (sym p))
set_split (set_later {m = n} {w = w} h) m u e = let p : w ≡ u = cc in inr (subst IsSet p h)

set_first : (m : LetterAt) (u : List LetterAt) → is_set_letter m ≡ true → IsSet (m ∷ u)
set_first (letter_at Set s) u e = set_here
set_first (letter_at Use s) u e = absurd (false≢true e)
set_first (letter_at Fill s) u e = absurd (false≢true e)
set_first (letter_at Spend s) u e = absurd (false≢true e)
set_first (letter_at Empty s) u e = absurd (false≢true e)
set_first (letter_at Need s) u e = absurd (false≢true e)
set_first (letter_at Fresh s) u e = absurd (false≢true e)

still_unset : (u : List LetterAt) (m : LetterAt) → is_set_letter m ≡ false → (IsSet u → ⊥) → IsSet (u ++ (m ∷ [])) → ⊥
still_unset [] m e f h = pick (set_split h m [] refl)
  where
    pick : (is_set_letter m ≡ true) ⊎ IsSet [] → ⊥
    pick (inl d) = both_ways (is_set_letter m) e d
    pick (inr i) = not_set i
still_unset (n ∷ u) m e f h = pick (set_split h n (u ++ (m ∷ [])) refl) (λ g i. still_unset u m e g i)
  where
    pick : (is_set_letter n ≡ true) ⊎ IsSet (u ++ (m ∷ [])) → ((IsSet u → ⊥) → IsSet (u ++ (m ∷ [])) → ⊥) → ⊥
    pick (inl d) k = f (set_first n u d)
    pick (inr i) k = k (λ j. f (set_later j)) i

-- ---- lives that go wrong

-- where a word has come to: the field was set or not, as the state says
abbrev pub Agrees : State → List LetterAt → Type 0
Agrees valued u = IsSet u
Agrees emptied u = ⊥
Agrees left u = ⊥
Agrees lacking u = IsSet u → ⊥

abbrev pub SomeMisset : PathBody → Type 0
SomeMisset b = (s : Position) × Misset b s

joined_word : (u w z : List LetterAt) (m : LetterAt) → z ≡ u ++ (m ∷ w) → z ≡ (u ++ (m ∷ [])) ++ w
joined_word u w z m e = e ∙ sym (append_assoc u (m ∷ []) w)

missets : (b : PathBody) (v : PathVariable) (s : Position) (x : Way) (z : List LetterAt) → Life b v s z x → (w u : List LetterAt) (q : State) → z ≡ u ++ w → sets_word w ≡ true → Agrees q u → IsBad true x (run (Some q) w) → SomeMisset b
missets b v s x z h [] u lacking e d g i = (s, left_unset h i.0 (λ k. g (subst IsSet (e ∙ append-nil u) k)))
missets b v s x z h [] u valued e d g i = let p : valued ≡ lacking = i.1 in cc
missets b v s x z h [] u emptied e d g i = absurd g
missets b v s x z h [] u left e d g i = absurd g
missets b v s x z h (letter_at Need t ∷ w) u lacking e d g i = (t, used_unset u w h e g)
missets b v s x z h (letter_at Need t ∷ w) u valued e d g i = missets b v s x z h w (u ++ (letter_at Need t ∷ [])) valued (joined_word u w z (letter_at Need t) e) d (set_append u (letter_at Need t) g) i
missets b v s x z h (letter_at Fresh t ∷ w) u valued e d g i = (t, set_again u w h e g)
missets b v s x z h (letter_at Fresh t ∷ w) u lacking e d g i = missets b v s x z h w (u ++ (letter_at Fresh t ∷ [])) lacking (joined_word u w z (letter_at Fresh t) e) d (still_unset u (letter_at Fresh t) refl g) i
missets b v s x z h (letter_at Set t ∷ w) u valued e d g i = missets b v s x z h w (u ++ (letter_at Set t ∷ [])) valued (joined_word u w z (letter_at Set t) e) d (set_last u t) i
missets b v s x z h (letter_at Set t ∷ w) u lacking e d g i = missets b v s x z h w (u ++ (letter_at Set t ∷ [])) valued (joined_word u w z (letter_at Set t) e) d (set_last u t) i
missets b v s x z h (letter_at Use t ∷ w) u q e d g i = absurd (false≢true d)
missets b v s x z h (letter_at Fill t ∷ w) u q e d g i = absurd (false≢true d)
missets b v s x z h (letter_at Spend t ∷ w) u q e d g i = absurd (false≢true d)
missets b v s x z h (letter_at Empty t ∷ w) u q e d g i = absurd (false≢true d)
missets b v s x z h (letter_at Need t ∷ w) u emptied e d g i = absurd g
missets b v s x z h (letter_at Need t ∷ w) u left e d g i = absurd g
missets b v s x z h (letter_at Fresh t ∷ w) u emptied e d g i = absurd g
missets b v s x z h (letter_at Fresh t ∷ w) u left e d g i = absurd g
missets b v s x z h (letter_at Set t ∷ w) u emptied e d g i = absurd g
missets b v s x z h (letter_at Set t ∷ w) u left e d g i = absurd g

wrong_misset : (b : PathBody) → sets b ≡ true → WrongLife true b → SomeMisset b
wrong_misset b h (v, p, w, x, i, g) = missets b v p x w i w [] lacking refl (life_sets i h) not_set g

pub set_marked : SetFieldsHaveMarks
set_marked fields body f e = let g = wrong_misset (field_letters fields body) (letters_set fields body) (unmarked true (field_letters fields body) (letters_anew fields body) e) in f g.0 g.1
