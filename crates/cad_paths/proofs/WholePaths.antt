-- The lives of a body are those of its whole paths.
use Rattle.std.proofs.Common.{◌≡◌, refl, sym, ◌∙◌, ap, subst, ◌⊎◌, inl, inr, ℕ, List, [], ◌∷◌, ◌++◌}
use Rattle.std.specs.Prelude.{Option, Some, None}
use Rattle.cad_paths.specs.declared.letter.Way.{Way}
use Rattle.cad_paths.specs.declared.letter.Way.TheVariants.{Next, Broken, Continued, Returned, Never}
use Rattle.cad_paths.specs.declared.letter.Position.{Position}
use Rattle.cad_paths.specs.Paths.{PathVariable, PathBody, leave, spell, seq, either, loop, catch, scope, LetterAt, caught, Words, by_leaving, by_letter, by_both, by_first_alone, by_left, by_right, by_no_turn, by_turn, by_last_turn, by_catching, by_scope, Life, in_scope, in_inner, in_first, in_second, in_left, in_right, in_turn, in_catch}
use Rattle.cad_paths.specs.WholePaths.{Path, leaving, passing, both, first_alone, left, right, no_turn, turn, last_turn, catching, inside, word, LifeEntry, lives, Among, at_head, further, LivesAreOnPaths}

-- a path's word is a word, and each word has its path
spells : (who : Option ℕ) {b : PathBody} {x : Way} (p : Path b x) → Words who b (word who p) x
spells who leaving = by_leaving
spells who passing = by_letter
spells who (both p q) = by_both (spells who p) (spells who q)
spells who (first_alone e p) = by_first_alone e (spells who p)
spells who (left p) = by_left (spells who p)
spells who (right p) = by_right (spells who p)
spells who no_turn = by_no_turn
spells who (turn p q) = by_turn (spells who p) (spells who q)
spells who (last_turn e p) = by_last_turn e (spells who p)
spells who (catching p) = by_catching (spells who p)
spells who (inside p) = by_scope (spells who p)

path : {who : Option ℕ} {b : PathBody} {w : List LetterAt} {x : Way} → Words who b w x → Path b x
path by_leaving = leaving
path by_letter = passing
path (by_both h k) = both (path h) (path k)
path (by_first_alone e h) = first_alone e (path h)
path (by_left h) = left (path h)
path (by_right h) = right (path h)
path by_no_turn = no_turn
path (by_turn h k) = turn (path h) (path k)
path (by_last_turn e h) = last_turn e (path h)
path (by_catching h) = catching (path h)
path (by_scope h) = inside (path h)

path_word : {who : Option ℕ} {b : PathBody} {w : List LetterAt} {x : Way} (h : Words who b w x) → word who (path h) ≡ w
unfolding path
path_word by_leaving = refl
path_word by_letter = refl
path_word {who = who} (by_both {u = u} {w = w} h k) = ap (λ z. z ++ word who (path k)) (path_word h) ∙ ap (λ z. u ++ z) (path_word k)
path_word (by_first_alone e h) = path_word h
path_word (by_left h) = path_word h
path_word (by_right h) = path_word h
path_word by_no_turn = refl
path_word {who = who} (by_turn {u = u} {w = w} h k) = ap (λ z. z ++ word who (path k)) (path_word h) ∙ ap (λ z. u ++ z) (path_word k)
path_word (by_last_turn e h) = path_word h
path_word (by_catching h) = path_word h
path_word (by_scope h) = path_word h

some_path : (b : PathBody) → (x : Way) × Path b x
some_path (leave x) = (x, leaving)
some_path (spell v l s) = (Next, passing)
some_path (seq a b) = let p = some_path a in go p.0 p.1 (some_path b)
  where
    go : (x : Way) → Path a x → ((y : Way) × Path b y) → (y : Way) × Path (seq a b) y
    go Next p q = (q.0, both p q.1)
    go Broken p q = (Broken, first_alone refl p)
    go Continued p q = (Continued, first_alone refl p)
    go Returned p q = (Returned, first_alone refl p)
    go Never p q = (Never, first_alone refl p)
some_path (either a b) = let p = some_path a in (p.0, left p.1)
some_path (loop a) = (Next, no_turn)
some_path (catch c a) = let p = some_path a in (caught c p.0, catching p.1)
some_path (scope v s b) = let p = some_path b in (p.0, inside p.1)

among_left : {l : LifeEntry} {ls : List LifeEntry} (ms : List LifeEntry) → Among l ls → Among l (ls ++ ms)
among_left ms at_head = at_head
among_left ms (further i) = further (among_left ms i)

among_right : {l : LifeEntry} (ls : List LifeEntry) {ms : List LifeEntry} → Among l ms → Among l (ls ++ ms)
among_right [] i = i
among_right (m ∷ ls) i = further (among_right ls i)

among_split : {l : LifeEntry} (ls ms : List LifeEntry) → Among l (ls ++ ms) → Among l ls ⊎ Among l ms
among_split [] ms i = inr i
among_split {l = l} (m ∷ ls) ms i = among_head l m ls ms i (among_split ls ms)
  where
    after : (l m : LifeEntry) (ls ms : List LifeEntry) → Among l ls ⊎ Among l ms → Among l (m ∷ ls) ⊎ Among l ms
    after l m ls ms (inl j) = inl (further j)
    after l m ls ms (inr j) = inr j

    among_head : (l m : LifeEntry) (ls ms : List LifeEntry) → Among l (m ∷ (ls ++ ms)) → (Among l (ls ++ ms) → Among l ls ⊎ Among l ms) → Among l (m ∷ ls) ⊎ Among l ms
    among_head l m ls ms at_head f = inl at_head
    among_head l m ls ms (further j) f = after l m ls ms (f j)

-- on some path of a body
abbrev On : PathBody → LifeEntry → Type 0
On b l = (y : Way) × (p : Path b y) × Among l (lives p)

on_first : (a b : PathBody) (l : LifeEntry) (y : Way) (p : Path a y) → Among l (lives p) → On (seq a b) l
on_first a b l Next p i = let q = some_path b in (q.0, both p q.1, among_left (lives q.1) i)
on_first a b l Broken p i = (Broken, first_alone refl p, i)
on_first a b l Continued p i = (Continued, first_alone refl p, i)
on_first a b l Returned p i = (Returned, first_alone refl p, i)
on_first a b l Never p i = (Never, first_alone refl p, i)

on_turn : (a : PathBody) (l : LifeEntry) (y : Way) (p : Path a y) → Among l (lives p) → On (loop a) l
on_turn a l Next p i = (Next, turn p no_turn, among_left [] i)
on_turn a l Broken p i = (Broken, last_turn refl p, i)
on_turn a l Continued p i = (Continued, last_turn refl p, i)
on_turn a l Returned p i = (Returned, last_turn refl p, i)
on_turn a l Never p i = (Never, last_turn refl p, i)

abbrev lived : PathVariable → Position → List LetterAt → Way → LifeEntry
lived v s w x = record { variable = v; at = s; word = w; way = x }

on_path : {b : PathBody} {v : PathVariable} {s : Position} {w : List LetterAt} {x : Way} → Life b v s w x → On b (lived v s w x)
on_path (in_scope {v = v} {s = s} {w = w} {x = x} h) = (x, inside (path h), subst (λ z. Among (lived v s w x) (lived v s z x ∷ lives (path h))) (sym (path_word h)) at_head)
on_path (in_inner h) = let p = on_path h in (p.0, inside p.1, further p.2)
on_path (in_first {v = v} {s = s} {a = a} {b = b} {w = w} {x = x} h) = let p = on_path h in on_first a b (lived v s w x) p.0 p.1 p.2
on_path (in_second i h) = let p = on_path h in (p.0, both (path i) p.1, among_right (lives (path i)) p.2)
on_path (in_left h) = let p = on_path h in (p.0, left p.1, p.2)
on_path (in_right h) = let p = on_path h in (p.0, right p.1, p.2)
on_path (in_turn {v = v} {s = s} {a = a} {w = w} {x = x} h) = let p = on_path h in on_turn a (lived v s w x) p.0 p.1 p.2
on_path (in_catch {c = c} h) = let p = on_path h in (caught c p.0, catching p.1, p.2)

abbrev Lives : PathBody → LifeEntry → Type 0
Lives b l = Life b l.variable l.at l.word l.way

-- the life of a scope itself, or one inside
scope_life : (v : PathVariable) (s : Position) (b : PathBody) (x : Way) (p : Path b x) (l : LifeEntry) → Among l (lived v s (word (Some v.number) p) x ∷ lives p) → (Among l (lives p) → Lives b l) → Lives (scope v s b) l
scope_life v s b x p l at_head f = in_scope (spells (Some v.number) p)
scope_life v s b x p l (further i) f = in_inner (f i)

silent_words : {b : PathBody} {x : Way} (p : Path b x) → Words None b (word None p) x
silent_words p = spells None p

seq_life : (a b : PathBody) (x : Way) (p : Path a Next) (q : Path b x) (l : LifeEntry) → Among l (lives p) ⊎ Among l (lives q) → (Among l (lives p) → Lives a l) → (Among l (lives q) → Lives b l) → Lives (seq a b) l
seq_life a b x p q l (inl i) f g = in_first (f i)
seq_life a b x p q l (inr i) f g = in_second (silent_words p) (g i)

turn_life : (a : PathBody) (y : Way) (p : Path a Next) (q : Path (loop a) y) (l : LifeEntry) → Among l (lives p) ⊎ Among l (lives q) → (Among l (lives p) → Lives a l) → (Among l (lives q) → Lives (loop a) l) → Lives (loop a) l
turn_life a y p q l (inl i) f g = in_turn (f i)
turn_life a y p q l (inr i) f g = g i

no_life : {b : PathBody} (l : LifeEntry) → Among l [] → Lives b l
no_life l i = elim i [ ]

life_of : {b : PathBody} {y : Way} (p : Path b y) (l : LifeEntry) → Among l (lives p) → Lives b l
life_of leaving l i = no_life l i
life_of passing l i = no_life l i
life_of (both {a = a} {b = b} {x = x} p q) l i = seq_life a b x p q l (among_split (lives p) (lives q) i) (life_of p l) (life_of q l)
life_of (first_alone e p) l i = in_first (life_of p l i)
life_of (left p) l i = in_left (life_of p l i)
life_of (right p) l i = in_right (life_of p l i)
life_of no_turn l i = no_life l i
life_of (turn {a = a} {y = y} p q) l i = turn_life a y p q l (among_split (lives p) (lives q) i) (life_of p l) (life_of q l)
life_of (last_turn e p) l i = in_turn (life_of p l i)
life_of (catching p) l i = in_catch (life_of p l i)
life_of (inside {v = v} {s = s} {b = b} {x = x} p) l i = scope_life v s b x p l i (life_of p l)

pub lives_are_on_paths : LivesAreOnPaths
lives_are_on_paths b v s w x = (λ h. on_path h, λ h. life_of h.1 (lived v s w x) h.2)
