-- The states of a mark one by one, and what letters do to them.
use Rattle.std.proofs.Common.{◌≡◌, refl, sym, ◌∙◌, ap, subst, ◌⊎◌, inl, inr, ℕ, ◌+◌, ◌≤◌, arith, Bool, true, false, not, ◌&&◌, ◌||◌, List, [], ◌∷◌, ◌++◌}
use Rattle.std.proofs.lemmas.Bool.{true≢false, false≢true, both_ways, not-true, not-false, and_parts, and_from, and_cases, or_cases}
use Rattle.std.specs.Prelude.{Option, Some, None}
use Rattle.cad_paths.specs.declared.letter.Letter.{Letter}
use Rattle.cad_paths.specs.declared.letter.Letter.TheVariants.{Use, Fill, Spend, Empty, Need, Fresh, Set}
use Rattle.cad_paths.specs.Paths.{LetterAt, letter_at}
use Rattle.cad_paths.specs.Marks.{Mark, is_value, is_nil, is_gone, is_unset, joined, is_there, if_allowed, after_letter, says_less, begin_mark, ends_well}

pub some_is : {A : Type 0} (x y : A) → Some x ≡ Some y → x ≡ y
some_is x y e = cc

pub none_is : {A : Type 0} (y : A) → None ≡ Some y → ⊥
none_is y e = cc

pub some_none : {A : Type 0} (x : A) → Some x ≡ None → ⊥
some_none x e = cc

pub nil_cons : {A : Type 0} (x : A) (xs : List A) → [] ≡ x ∷ xs → ⊥
nil_cons x xs e = cc

pub same_head : {A : Type 0} (x y : A) (xs ys : List A) → x ∷ xs ≡ y ∷ ys → x ≡ y
same_head x y xs ys e = cc

pub same_tail : {A : Type 0} (x y : A) (xs ys : List A) → x ∷ xs ≡ y ∷ ys → xs ≡ ys
same_tail x y xs ys e = cc

pub data State : Type 0 where
  valued : State
  emptied : State
  left : State
  lacking : State

abbrev pub is_in : Mark → State → Bool
is_in m valued = m.value
is_in m emptied = m.nil
is_in m left = m.gone
is_in m lacking = m.unset

abbrev pub Inhabited : Mark → Type 0
Inhabited m = (s : State) × (is_in m s ≡ true)

-- the state after a letter; None where it isn't allowed
abbrev pub step : Letter → State → Option State
step Use valued = Some valued
step Use emptied = Some emptied
step Use left = None
step Use lacking = None
step Fill valued = Some valued
step Fill emptied = Some valued
step Fill left = None
step Fill lacking = None
step Spend valued = Some left
step Spend emptied = Some left
step Spend left = None
step Spend lacking = None
step Empty valued = Some emptied
step Empty emptied = Some emptied
step Empty left = None
step Empty lacking = None
step Need valued = Some valued
step Need emptied = Some emptied
step Need left = Some left
step Need lacking = None
step Fresh valued = None
step Fresh emptied = None
step Fresh left = None
step Fresh lacking = Some lacking
step Set valued = Some valued
step Set emptied = Some valued
step Set left = Some valued
step Set lacking = Some valued

abbrev pub onward : Letter → Option State → Option State
onward l None = None
onward l (Some s) = step l s

-- the state after a word; None where a letter isn't allowed
abbrev pub run : Option State → List LetterAt → Option State
run q [] = q
run q (letter_at l s ∷ w) = run (onward l q) w

pub run_none : (w : List LetterAt) → run None w ≡ None
run_none [] = refl
run_none (letter_at l s ∷ w) = run_none w

pub run_append : (q : Option State) (u w : List LetterAt) → run q (u ++ w) ≡ run (run q u) w
run_append q [] w = refl
run_append q (letter_at l s ∷ u) w = run_append (onward l q) u w

-- on behind a word that comes to a state
pub run_on : (q r : Option State) (u w : List LetterAt) → run q u ≡ r → run q (u ++ w) ≡ run r w
run_on q r u w e = run_append q u w ∙ ap (λ z. run z w) e

pub run_then : (q r k : Option State) (u w : List LetterAt) → run q u ≡ r → run r w ≡ k → run q (u ++ w) ≡ k
run_then q r k u w e d = run_on q r u w e ∙ d

pub run_wrong : (q : Option State) (u w : List LetterAt) → run q u ≡ None → run q (u ++ w) ≡ None
run_wrong q u w e = run_on q None u w e ∙ run_none w

-- ---- what a mark allows

pub allowed_is : (b : Bool) (m n : Mark) → if_allowed b m ≡ Some n → (b ≡ true) × (m ≡ n)
allowed_is true m n e = (refl, some_is m n e)
allowed_is false m n e = absurd (none_is n e)

pub refused_is : (b : Bool) (m : Mark) → if_allowed b m ≡ None → b ≡ false
refused_is true m e = absurd (some_none m e)
refused_is false m e = refl

pub not_gone : (m : Mark) → is_there m ≡ true → is_in m left ≡ true → ⊥
not_gone m e h = both_ways m.gone (not-true m.gone (and_parts (not m.gone) (not m.unset) e).0) h

pub not_lacking : (m : Mark) → is_there m ≡ true → is_in m lacking ≡ true → ⊥
not_lacking m e h = both_ways m.unset (not-true m.unset (and_parts (not m.gone) (not m.unset) e).1) h

pub not_unset : (m : Mark) → not m.unset ≡ true → is_in m lacking ≡ true → ⊥
not_unset m e h = both_ways m.unset (not-true m.unset e) h

abbrev pub nothing_set : Mark → Bool
nothing_set m = not m.value && (not m.nil && not m.gone)

fresh_value : (m : Mark) → nothing_set m ≡ true → is_in m valued ≡ true → ⊥
fresh_value m e h = both_ways m.value (not-true m.value (and_parts (not m.value) (not m.nil && not m.gone) e).0) h

fresh_nil : (m : Mark) → nothing_set m ≡ true → is_in m emptied ≡ true → ⊥
fresh_nil m e h = both_ways m.nil (not-true m.nil (and_parts (not m.nil) (not m.gone) (and_parts (not m.value) (not m.nil && not m.gone) e).1).0) h

fresh_gone : (m : Mark) → nothing_set m ≡ true → is_in m left ≡ true → ⊥
fresh_gone m e h = both_ways m.gone (not-true m.gone (and_parts (not m.nil) (not m.gone) (and_parts (not m.value) (not m.nil && not m.gone) e).1).1) h

same_in : (m n : Mark) (s : State) → m ≡ n → is_in m s ≡ true → is_in n s ≡ true
same_in m n s e h = subst (λ z. is_in z s ≡ true) e h

back_in : (m n : Mark) (s : State) → m ≡ n → is_in n s ≡ true → is_in m s ≡ true
back_in m n s e h = subst (λ z. is_in z s ≡ true) (sym e) h

-- ---- each state goes on

abbrev pub Goes : Letter → Mark → State → Type 0
Goes l n s = (t : State) × (step l s ≡ Some t) × (is_in n t ≡ true)

pub letter_to : (l : Letter) (m n : Mark) (s : State) → after_letter l m ≡ Some n → is_in m s ≡ true → Goes l n s
letter_to Use m n valued e h = (valued, refl, same_in m n valued (allowed_is (is_there m) m n e).1 h)
letter_to Use m n emptied e h = (emptied, refl, same_in m n emptied (allowed_is (is_there m) m n e).1 h)
letter_to Use m n left e h = absurd (not_gone m (allowed_is (is_there m) m n e).0 h)
letter_to Use m n lacking e h = absurd (not_lacking m (allowed_is (is_there m) m n e).0 h)
letter_to Fill m n valued e h = (valued, refl, same_in is_value n valued (allowed_is (is_there m) is_value n e).1 refl)
letter_to Fill m n emptied e h = (valued, refl, same_in is_value n valued (allowed_is (is_there m) is_value n e).1 refl)
letter_to Fill m n left e h = absurd (not_gone m (allowed_is (is_there m) is_value n e).0 h)
letter_to Fill m n lacking e h = absurd (not_lacking m (allowed_is (is_there m) is_value n e).0 h)
letter_to Spend m n valued e h = (left, refl, same_in is_gone n left (allowed_is (is_there m) is_gone n e).1 refl)
letter_to Spend m n emptied e h = (left, refl, same_in is_gone n left (allowed_is (is_there m) is_gone n e).1 refl)
letter_to Spend m n left e h = absurd (not_gone m (allowed_is (is_there m) is_gone n e).0 h)
letter_to Spend m n lacking e h = absurd (not_lacking m (allowed_is (is_there m) is_gone n e).0 h)
letter_to Empty m n valued e h = (emptied, refl, same_in is_nil n emptied (allowed_is (is_there m) is_nil n e).1 refl)
letter_to Empty m n emptied e h = (emptied, refl, same_in is_nil n emptied (allowed_is (is_there m) is_nil n e).1 refl)
letter_to Empty m n left e h = absurd (not_gone m (allowed_is (is_there m) is_nil n e).0 h)
letter_to Empty m n lacking e h = absurd (not_lacking m (allowed_is (is_there m) is_nil n e).0 h)
letter_to Need m n valued e h = (valued, refl, same_in m n valued (allowed_is (not m.unset) m n e).1 h)
letter_to Need m n emptied e h = (emptied, refl, same_in m n emptied (allowed_is (not m.unset) m n e).1 h)
letter_to Need m n left e h = (left, refl, same_in m n left (allowed_is (not m.unset) m n e).1 h)
letter_to Need m n lacking e h = absurd (not_unset m (allowed_is (not m.unset) m n e).0 h)
letter_to Fresh m n valued e h = absurd (fresh_value m (allowed_is (nothing_set m) m n e).0 h)
letter_to Fresh m n emptied e h = absurd (fresh_nil m (allowed_is (nothing_set m) m n e).0 h)
letter_to Fresh m n left e h = absurd (fresh_gone m (allowed_is (nothing_set m) m n e).0 h)
letter_to Fresh m n lacking e h = (lacking, refl, same_in m n lacking (allowed_is (nothing_set m) m n e).1 h)
letter_to Set m n valued e h = (valued, refl, same_in is_value n valued (allowed_is true is_value n e).1 refl)
letter_to Set m n emptied e h = (valued, refl, same_in is_value n valued (allowed_is true is_value n e).1 refl)
letter_to Set m n left e h = (valued, refl, same_in is_value n valued (allowed_is true is_value n e).1 refl)
letter_to Set m n lacking e h = (valued, refl, same_in is_value n valued (allowed_is true is_value n e).1 refl)

-- ---- each state that is left came from one

abbrev pub Came : Letter → Mark → State → Type 0
Came l m t = (s : State) × (is_in m s ≡ true) × (step l s ≡ Some t)

fill_from : (m : Mark) (s : State) → is_there m ≡ true → is_in m s ≡ true → step Fill s ≡ Some valued
fill_from m valued e h = refl
fill_from m emptied e h = refl
fill_from m left e h = absurd (not_gone m e h)
fill_from m lacking e h = absurd (not_lacking m e h)

spend_from : (m : Mark) (s : State) → is_there m ≡ true → is_in m s ≡ true → step Spend s ≡ Some left
spend_from m valued e h = refl
spend_from m emptied e h = refl
spend_from m left e h = absurd (not_gone m e h)
spend_from m lacking e h = absurd (not_lacking m e h)

empty_from : (m : Mark) (s : State) → is_there m ≡ true → is_in m s ≡ true → step Empty s ≡ Some emptied
empty_from m valued e h = refl
empty_from m emptied e h = refl
empty_from m left e h = absurd (not_gone m e h)
empty_from m lacking e h = absurd (not_lacking m e h)

set_from : (s : State) → step Set s ≡ Some valued
set_from valued = refl
set_from emptied = refl
set_from left = refl
set_from lacking = refl

-- a mark of one state has no other
abbrev pub single : State → Mark
single valued = is_value
single emptied = is_nil
single left = is_gone
single lacking = is_unset

single_is : (s t : State) → is_in (single s) t ≡ true → t ≡ s
single_is valued valued h = refl
single_is valued emptied h = absurd (false≢true h)
single_is valued left h = absurd (false≢true h)
single_is valued lacking h = absurd (false≢true h)
single_is emptied valued h = absurd (false≢true h)
single_is emptied emptied h = refl
single_is emptied left h = absurd (false≢true h)
single_is emptied lacking h = absurd (false≢true h)
single_is left valued h = absurd (false≢true h)
single_is left emptied h = absurd (false≢true h)
single_is left left h = refl
single_is left lacking h = absurd (false≢true h)
single_is lacking valued h = absurd (false≢true h)
single_is lacking emptied h = absurd (false≢true h)
single_is lacking left h = absurd (false≢true h)
single_is lacking lacking h = refl

-- a letter that leaves one state
one_left : (l : Letter) (m n : Mark) (s t k : State) → single k ≡ n → is_in m s ≡ true → step l s ≡ Some k → is_in n t ≡ true → Came l m t
one_left l m n s t k e h d i = let p = single_is k t (back_in (single k) n t e i) in (s, h, d ∙ ap Some (sym p))

use_came : (m : Mark) (t : State) → is_there m ≡ true → is_in m t ≡ true → Came Use m t
use_came m valued e h = (valued, h, refl)
use_came m emptied e h = (emptied, h, refl)
use_came m left e h = absurd (not_gone m e h)
use_came m lacking e h = absurd (not_lacking m e h)

need_came : (m : Mark) (t : State) → not m.unset ≡ true → is_in m t ≡ true → Came Need m t
need_came m valued e h = (valued, h, refl)
need_came m emptied e h = (emptied, h, refl)
need_came m left e h = (left, h, refl)
need_came m lacking e h = absurd (not_unset m e h)

fresh_came : (m : Mark) (t : State) → nothing_set m ≡ true → is_in m t ≡ true → Came Fresh m t
fresh_came m valued e h = absurd (fresh_value m e h)
fresh_came m emptied e h = absurd (fresh_nil m e h)
fresh_came m left e h = absurd (fresh_gone m e h)
fresh_came m lacking e h = (lacking, h, refl)

pub letter_from : (l : Letter) (m n : Mark) (t : State) → after_letter l m ≡ Some n → Inhabited m → is_in n t ≡ true → Came l m t
letter_from Use m n t e (s, h) i = let p = allowed_is (is_there m) m n e in use_came m t p.0 (back_in m n t p.1 i)
letter_from Fill m n t e (s, h) i = let p = allowed_is (is_there m) is_value n e in one_left Fill m n s t valued p.1 h (fill_from m s p.0 h) i
letter_from Spend m n t e (s, h) i = let p = allowed_is (is_there m) is_gone n e in one_left Spend m n s t left p.1 h (spend_from m s p.0 h) i
letter_from Empty m n t e (s, h) i = let p = allowed_is (is_there m) is_nil n e in one_left Empty m n s t emptied p.1 h (empty_from m s p.0 h) i
letter_from Need m n t e (s, h) i = let p = allowed_is (not m.unset) m n e in need_came m t p.0 (back_in m n t p.1 i)
letter_from Fresh m n t e (s, h) i = let p = allowed_is (nothing_set m) m n e in fresh_came m t p.0 (back_in m n t p.1 i)
letter_from Set m n t e (s, h) i = let p = allowed_is true is_value n e in one_left Set m n s t valued p.1 h (set_from s) i

pub letter_inhabited : (l : Letter) (m n : Mark) → after_letter l m ≡ Some n → Inhabited m → Inhabited n
letter_inhabited l m n e (s, h) = let p = letter_to l m n s e h in (p.0, p.2)

-- ---- where a letter isn't allowed, some state doesn't allow it

abbrev pub Stuck : Letter → Mark → Type 0
Stuck l m = (s : State) × (is_in m s ≡ true) × (step l s ≡ None)

not_there : (m : Mark) → is_there m ≡ false → (is_in m left ≡ true) ⊎ (is_in m lacking ≡ true)
not_there m e = pick (and_cases (not m.gone) (not m.unset) e)
  where
    pick : (not m.gone ≡ false) ⊎ (not m.unset ≡ false) → (is_in m left ≡ true) ⊎ (is_in m lacking ≡ true)
    pick (inl d) = inl (not-false m.gone d)
    pick (inr d) = inr (not-false m.unset d)

stuck_by : (l : Letter) (m : Mark) → step l left ≡ None → step l lacking ≡ None → (is_in m left ≡ true) ⊎ (is_in m lacking ≡ true) → Stuck l m
stuck_by l m d e (inl h) = (left, h, d)
stuck_by l m d e (inr h) = (lacking, h, e)

fresh_stuck : (m : Mark) → nothing_set m ≡ false → Stuck Fresh m
fresh_stuck m e = pick (and_cases (not m.value) (not m.nil && not m.gone) e)
  where
    later : (not m.nil ≡ false) ⊎ (not m.gone ≡ false) → Stuck Fresh m
    later (inl d) = (emptied, not-false m.nil d, refl)
    later (inr d) = (left, not-false m.gone d, refl)

    pick : (not m.value ≡ false) ⊎ ((not m.nil && not m.gone) ≡ false) → Stuck Fresh m
    pick (inl d) = (valued, not-false m.value d, refl)
    pick (inr d) = later (and_cases (not m.nil) (not m.gone) d)

pub letter_stuck : (l : Letter) (m : Mark) → after_letter l m ≡ None → Stuck l m
letter_stuck Use m e = stuck_by Use m refl refl (not_there m (refused_is (is_there m) m e))
letter_stuck Fill m e = stuck_by Fill m refl refl (not_there m (refused_is (is_there m) is_value e))
letter_stuck Spend m e = stuck_by Spend m refl refl (not_there m (refused_is (is_there m) is_gone e))
letter_stuck Empty m e = stuck_by Empty m refl refl (not_there m (refused_is (is_there m) is_nil e))
letter_stuck Need m e = (lacking, not-false m.unset (refused_is (not m.unset) m e), refl)
letter_stuck Fresh m e = fresh_stuck m (refused_is (nothing_set m) m e)
letter_stuck Set m e = absurd (some_none is_value e)

-- ---- marks that are joined

or_left : (a b : Bool) → a ≡ true → (a || b) ≡ true
or_left true b e = refl
or_left false b e = cc

or_right : (a b : Bool) → b ≡ true → (a || b) ≡ true
or_right true b e = refl
or_right false b e = e

pub joined_left : (a b : Mark) (s : State) → is_in a s ≡ true → is_in (joined a b) s ≡ true
joined_left a b valued h = or_left a.value b.value h
joined_left a b emptied h = or_left a.nil b.nil h
joined_left a b left h = or_left a.gone b.gone h
joined_left a b lacking h = or_left a.unset b.unset h

pub joined_right : (a b : Mark) (s : State) → is_in b s ≡ true → is_in (joined a b) s ≡ true
joined_right a b valued h = or_right a.value b.value h
joined_right a b emptied h = or_right a.nil b.nil h
joined_right a b left h = or_right a.gone b.gone h
joined_right a b lacking h = or_right a.unset b.unset h

pub in_joined : (a b : Mark) (s : State) → is_in (joined a b) s ≡ true → (is_in a s ≡ true) ⊎ (is_in b s ≡ true)
in_joined a b valued h = or_cases a.value b.value h
in_joined a b emptied h = or_cases a.nil b.nil h
in_joined a b left h = or_cases a.gone b.gone h
in_joined a b lacking h = or_cases a.unset b.unset h

-- ---- marks that say less

implied : (a b : Bool) → (not a || b) ≡ true → a ≡ true → b ≡ true
implied true b e h = e
implied false b e h = cc

implies : (a b : Bool) → (a ≡ true → b ≡ true) → (not a || b) ≡ true
implies true b f = f refl
implies false b f = refl

abbrev pub less_of : Mark → Mark → State → Bool
less_of a b s = not (is_in a s) || is_in b s

less_parts : (a b : Mark) (s : State) → says_less a b ≡ true → less_of a b s ≡ true
less_parts a b valued e = (and_parts (less_of a b valued) (less_of a b emptied && (less_of a b left && less_of a b lacking)) e).0
less_parts a b emptied e = (and_parts (less_of a b emptied) (less_of a b left && less_of a b lacking) (and_parts (less_of a b valued) (less_of a b emptied && (less_of a b left && less_of a b lacking)) e).1).0
less_parts a b left e = (and_parts (less_of a b left) (less_of a b lacking) (and_parts (less_of a b emptied) (less_of a b left && less_of a b lacking) (and_parts (less_of a b valued) (less_of a b emptied && (less_of a b left && less_of a b lacking)) e).1).1).0
less_parts a b lacking e = (and_parts (less_of a b left) (less_of a b lacking) (and_parts (less_of a b emptied) (less_of a b left && less_of a b lacking) (and_parts (less_of a b valued) (less_of a b emptied && (less_of a b left && less_of a b lacking)) e).1).1).1

pub less_in : (a b : Mark) (s : State) → says_less a b ≡ true → is_in a s ≡ true → is_in b s ≡ true
less_in a b s e h = implied (is_in a s) (is_in b s) (less_parts a b s e) h

pub less_by : (a b : Mark) → ((s : State) → is_in a s ≡ true → is_in b s ≡ true) → says_less a b ≡ true
less_by a b f =
    and_from (less_of a b valued) (less_of a b emptied && (less_of a b left && less_of a b lacking)) (implies a.value b.value (f valued))
    (and_from (less_of a b emptied) (less_of a b left && less_of a b lacking) (implies a.nil b.nil (f emptied))
    (and_from (less_of a b left) (less_of a b lacking) (implies a.gone b.gone (f left)) (implies a.unset b.unset (f lacking))))

-- ---- how many states a mark has

abbrev pub one : Bool → ℕ
one true = 1
one false = 0

abbrev pub size : Mark → ℕ
size m = (one m.value + one m.nil) + (one m.gone + one m.unset)

one_most : (a : Bool) → one a ≤ 1
one_most true = omega arith
one_most false = omega arith

pub size_most : (m : Mark) → size m ≤ 4
size_most m = let a = one_most m.value in let b = one_most m.nil in let c = one_most m.gone in let d = one_most m.unset in omega arith

one_is : (a : Bool) → a ≡ true → one a ≡ 1
one_is true e = refl
one_is false e = cc

pub size_least : (m : Mark) → Inhabited m → 1 ≤ size m
size_least m (valued, h) = let p = one_is m.value h in omega arith
size_least m (emptied, h) = let p = one_is m.nil h in omega arith
size_least m (left, h) = let p = one_is m.gone h in omega arith
size_least m (lacking, h) = let p = one_is m.unset h in omega arith

one_grown : (a b : Bool) → one a ≤ one (a || b)
one_grown true b = omega arith
one_grown false true = omega arith
one_grown false false = omega arith

one_more : (a b : Bool) → (not b || a) ≡ false → one a + 1 ≤ one (a || b)
one_more true true e = absurd (true≢false e)
one_more true false e = absurd (true≢false e)
one_more false true e = omega arith
one_more false false e = absurd (true≢false e)

-- a mark that says more than another says grows when they are joined
pub size_grown : (a b : Mark) → says_less b a ≡ false → size a + 1 ≤ size (joined a b)
size_grown a b e = by_value (and_cases (less_of b a valued) (less_of b a emptied && (less_of b a left && less_of b a lacking)) e)
  where
    v : one a.value ≤ one (a.value || b.value)
    v = one_grown a.value b.value

    n : one a.nil ≤ one (a.nil || b.nil)
    n = one_grown a.nil b.nil

    g : one a.gone ≤ one (a.gone || b.gone)
    g = one_grown a.gone b.gone

    u : one a.unset ≤ one (a.unset || b.unset)
    u = one_grown a.unset b.unset

    by_gone : (less_of b a left ≡ false) ⊎ (less_of b a lacking ≡ false) → size a + 1 ≤ size (joined a b)
    by_gone (inl d) = let p = one_more a.gone b.gone d in let i = v in let j = n in let k = u in omega arith
    by_gone (inr d) = let p = one_more a.unset b.unset d in let i = v in let j = n in let k = g in omega arith

    by_nil : (less_of b a emptied ≡ false) ⊎ ((less_of b a left && less_of b a lacking) ≡ false) → size a + 1 ≤ size (joined a b)
    by_nil (inl d) = let p = one_more a.nil b.nil d in let i = v in let j = g in let k = u in omega arith
    by_nil (inr d) = by_gone (and_cases (less_of b a left) (less_of b a lacking) d)

    by_value : (less_of b a valued ≡ false) ⊎ ((less_of b a emptied && (less_of b a left && less_of b a lacking)) ≡ false) → size a + 1 ≤ size (joined a b)
    by_value (inl d) = let p = one_more a.value b.value d in let i = n in let j = g in let k = u in omega arith
    by_value (inr d) = by_nil (and_cases (less_of b a emptied) (less_of b a left && less_of b a lacking) d)

-- ---- how variables begin and end

abbrev pub begins : Bool → State
begins false = valued
begins true = lacking

pub begin_is : (fields : Bool) (s : State) → is_in (begin_mark fields) s ≡ true → s ≡ begins fields
begin_is false s h = single_is valued s h
begin_is true s h = single_is lacking s h

pub begin_in : (fields : Bool) → is_in (begin_mark fields) (begins fields) ≡ true
begin_in false = refl
begin_in true = refl

-- the state with which a scope may not be left
abbrev pub bad_end : Bool → State
bad_end false = valued
bad_end true = lacking

pub ends_badly : (fields : Bool) (m : Mark) → ends_well fields m ≡ false → is_in m (bad_end fields) ≡ true
ends_badly false m e = not-false m.value e
ends_badly true m e = not-false m.unset e
