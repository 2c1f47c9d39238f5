-- Lists of marks by the number of a variable.
use Rattle.std.proofs.Common.{◌≡◌, refl, sym, ◌∙◌, ap, subst, ◌⊎◌, inl, inr, ℕ, Bool, true, false, not, ◌&&◌, ◌||◌, List, [], ◌∷◌, nat_eq, eqb-true, if◌then◌else◌}
use Rattle.std.proofs.lemmas.Bool.{true≢false, false≢true, both_ways, not-true, eqb-false, and_parts, and_cases, eq-eqb, ne_eqb}
use Rattle.std.specs.Prelude.{Option, Some, None}
use Rattle.cad_paths.specs.declared.letter.Letter.{Letter}
use Rattle.cad_paths.specs.declared.letter.Position.{Position}
use Rattle.cad_paths.specs.Paths.{letter_at, spelled}
use Rattle.cad_paths.specs.Marks.{Mark, MarkEntry, joined, after_letter, on_entry, on_rest, after_spelling, meet, says_less, all_say_less, among}
use Rattle.cad_mark_laws.proofs.States.{some_is, none_is, some_none, nil_cons, same_head, same_tail, State, is_in, Inhabited, run, letter_to, letter_from, letter_inhabited, letter_stuck, joined_left, joined_right, in_joined}

abbrev pub variables : List MarkEntry → List ℕ
variables [] = []
variables (x ∷ xs) = x.variable ∷ variables xs

abbrev pub mark_at : ℕ → List MarkEntry → Option Mark
mark_at u [] = None
mark_at u (x ∷ xs) = if nat_eq x.variable u then Some x.mark else mark_at u xs

-- some path leaves the variable in this state
abbrev pub HasState : ℕ → State → List MarkEntry → Type 0
HasState u s m = (q : Mark) × (mark_at u m ≡ Some q) × (is_in q s ≡ true)

-- each variable has some state
abbrev pub AreInhabited : List MarkEntry → Type 0
AreInhabited m = (u : ℕ) (q : Mark) → mark_at u m ≡ Some q → Inhabited q

abbrev pub distinct : List ℕ → Bool
distinct [] = true
distinct (u ∷ us) = not (among us u) && distinct us

pub same_some : {A : Type 0} (x y : A) → Some x ≡ Some y → x ≡ y
same_some x y e = some_is x y e

pub none_some : {A : Type 0} (o : Option A) (x : A) → o ≡ None → o ≡ Some x → ⊥
none_some None x d e = none_is x e
none_some (Some y) x d e = some_none y d

pub same_mark : (o : Option Mark) (q r : Mark) → o ≡ Some q → o ≡ Some r → q ≡ r
same_mark o q r d e = same_some q r (sym d ∙ e)

-- ---- the first entry

pub here : (x : MarkEntry) (xs : List MarkEntry) (u : ℕ) → nat_eq x.variable u ≡ true → mark_at u (x ∷ xs) ≡ Some x.mark
here x xs u e = ap (λ z. if z then Some x.mark else mark_at u xs) e

pub behind : (x : MarkEntry) (xs : List MarkEntry) (u : ℕ) → nat_eq x.variable u ≡ false → mark_at u (x ∷ xs) ≡ mark_at u xs
behind x xs u e = ap (λ z. if z then Some x.mark else mark_at u xs) e

-- ---- which variables there are

pub is_among : (m : List MarkEntry) (u : ℕ) (q : Mark) → mark_at u m ≡ Some q → among (variables m) u ≡ true
is_among [] u q e = absurd (none_is q e)
is_among (x ∷ xs) u q e = by_head (nat_eq x.variable u) refl (λ d. is_among xs u q d)
  where
    by_head : (b : Bool) → nat_eq x.variable u ≡ b → (mark_at u xs ≡ Some q → among (variables xs) u ≡ true) → (nat_eq x.variable u || among (variables xs) u) ≡ true
    by_head true d f = ap (λ z. z || among (variables xs) u) d
    by_head false d f = ap (λ z. z || among (variables xs) u) d ∙ f (sym (behind x xs u d) ∙ e)

pub has_mark : (m : List MarkEntry) (u : ℕ) → among (variables m) u ≡ true → (q : Mark) × (mark_at u m ≡ Some q)
has_mark [] u e = absurd (false≢true e)
has_mark (x ∷ xs) u e = by_head (nat_eq x.variable u) refl (λ h. has_mark xs u h)
  where
    rest : nat_eq x.variable u ≡ false → among (variables xs) u ≡ true
    rest d = sym (ap (λ z. z || among (variables xs) u) d) ∙ e

    by_head : (b : Bool) → nat_eq x.variable u ≡ b → (among (variables xs) u ≡ true → (q : Mark) × (mark_at u xs ≡ Some q)) → (q : Mark) × (mark_at u (x ∷ xs) ≡ Some q)
    by_head true d f = (x.mark, here x xs u d)
    by_head false d f = let p = f (rest d) in (p.0, behind x xs u d ∙ p.1)

-- two lists of the same variables
pub other_mark : (m n : List MarkEntry) (u : ℕ) (q : Mark) → variables n ≡ variables m → mark_at u n ≡ Some q → (r : Mark) × (mark_at u m ≡ Some r)
other_mark m n u q e h = has_mark m u (subst (λ z. among z u ≡ true) e (is_among n u q h))

-- a variable in scope isn't the one that is declared
pub is_other : (us : List ℕ) (v u : ℕ) → not (among us v) ≡ true → among us u ≡ true → nat_eq v u ≡ false
is_other us v u e h = ne_eqb v u (λ d. both_ways (among us v) (not-true (among us v) e) (subst (λ z. among us z ≡ true) (sym d) h))

-- ---- a letter

-- what a letter of v at a statement does to the mark of u
abbrev pub Becomes : Bool → Letter → Mark → Mark → Type 0
Becomes true l q r = after_letter l q ≡ Some r
Becomes false l q r = q ≡ r

abbrev pub put : ℕ → Bool → MarkEntry → Option Mark → List MarkEntry → Option (List MarkEntry) → Option (List MarkEntry)
put v b x o all rest = if b then on_entry v o all else on_rest x rest

abbrev pub Spelled : ℕ → Letter → List MarkEntry → List MarkEntry → Type 0
Spelled v l m n = (variables n ≡ variables m) × ((u : ℕ) (q r : Mark) → mark_at u m ≡ Some q → mark_at u n ≡ Some r → Becomes (nat_eq u v) l q r)

becomes_by : (a b : Bool) (l : Letter) (q r : Mark) → a ≡ b → Becomes b l q r → Becomes a l q r
becomes_by a b l q r e h = subst (λ z. Becomes z l q r) (sym e) h

-- the letter is this entry's
at_entry : (v : ℕ) (l : Letter) (x : MarkEntry) (xs : List MarkEntry) (r : Mark) → nat_eq x.variable v ≡ true → after_letter l x.mark ≡ Some r
    → Spelled v l (x ∷ xs) (record { variable = v; mark = r } ∷ xs)
at_entry v l x xs r d e = (ap (λ z. z ∷ variables xs) (sym same), λ u q k h i. by_same u q k h i (nat_eq v u) refl)
  where
    same : x.variable ≡ v
    same = eqb-true x.variable v d

    by_same : (u : ℕ) (q k : Mark) → mark_at u (x ∷ xs) ≡ Some q → mark_at u (record { variable = v; mark = r } ∷ xs) ≡ Some k → (b : Bool) → nat_eq v u ≡ b → Becomes (nat_eq u v) l q k
    by_same u q k h i true c =
        let p : x.mark ≡ q = same_mark (mark_at u (x ∷ xs)) x.mark q (here x xs u (subst (λ z. nat_eq z u ≡ true) (sym same) c)) h in
        let t : r ≡ k = same_mark (mark_at u (record { variable = v; mark = r } ∷ xs)) r k (here (record { variable = v; mark = r }) xs u c) i in
        becomes_by (nat_eq u v) true l q k (eq-eqb u v (sym (eqb-true v u c))) (subst (λ z. after_letter l z ≡ Some k) p (subst (λ z. after_letter l x.mark ≡ Some z) t e))
    by_same u q k h i false c =
        let p = sym (behind x xs u (subst (λ z. nat_eq z u ≡ false) (sym same) c)) ∙ h in
        let t = sym (behind (record { variable = v; mark = r }) xs u c) ∙ i in
        becomes_by (nat_eq u v) false l q k (ne_eqb u v (λ s. eqb-false v u c (sym s))) (same_mark (mark_at u xs) q k p t)

-- the letter is a later entry's
at_rest : (v : ℕ) (l : Letter) (x : MarkEntry) (xs ys : List MarkEntry) → nat_eq x.variable v ≡ false → Spelled v l xs ys → Spelled v l (x ∷ xs) (x ∷ ys)
at_rest v l x xs ys d h = (ap (λ z. x.variable ∷ z) h.0, λ u q k i j. by_same u q k i j (nat_eq x.variable u) refl)
  where
    by_same : (u : ℕ) (q k : Mark) → mark_at u (x ∷ xs) ≡ Some q → mark_at u (x ∷ ys) ≡ Some k → (b : Bool) → nat_eq x.variable u ≡ b → Becomes (nat_eq u v) l q k
    by_same u q k i j true c =
        let p = same_mark (mark_at u (x ∷ xs)) x.mark q (here x xs u c) i in
        let t = same_mark (mark_at u (x ∷ ys)) x.mark k (here x ys u c) j in
        becomes_by (nat_eq u v) false l q k (subst (λ z. nat_eq z v ≡ false) (eqb-true x.variable u c) d) (sym p ∙ t)
    by_same u q k i j false c = h.1 u q k (sym (behind x xs u c) ∙ i) (sym (behind x ys u c) ∙ j)

spelled_by : (v : ℕ) (l : Letter) (x : MarkEntry) (xs n : List MarkEntry) (b : Bool) (o : Option Mark) (rest : Option (List MarkEntry))
    → nat_eq x.variable v ≡ b → after_letter l x.mark ≡ o → put v b x o xs rest ≡ Some n → ((ys : List MarkEntry) → rest ≡ Some ys → Spelled v l xs ys) → Spelled v l (x ∷ xs) n
spelled_by v l x xs n true None rest d e h f = absurd (none_is n h)
spelled_by v l x xs n true (Some r) rest d e h f = subst (λ z. Spelled v l (x ∷ xs) z) (same_some (record { variable = v; mark = r } ∷ xs) n h) (at_entry v l x xs r d e)
spelled_by v l x xs n false o None d e h f = absurd (none_is n h)
spelled_by v l x xs n false o (Some ys) d e h f = subst (λ z. Spelled v l (x ∷ xs) z) (same_some (x ∷ ys) n h) (at_rest v l x xs ys d (f ys refl))

spelled_marks : (v : ℕ) (l : Letter) (m n : List MarkEntry) → after_spelling v l m ≡ Some n → Spelled v l m n
spelled_marks v l [] n e = subst (λ z. Spelled v l [] z) (same_some [] n e) nothing
  where
    nothing : Spelled v l [] []
    nothing = (refl, λ u q r h i. absurd (none_is q h))
spelled_marks v l (x ∷ xs) n e = spelled_by v l x xs n (nat_eq x.variable v) (after_letter l x.mark) (after_spelling v l xs) refl refl e (λ ys d. spelled_marks v l xs ys d)

pub spelling_keeps : (v : ℕ) (l : Letter) (m n : List MarkEntry) → after_spelling v l m ≡ Some n → variables n ≡ variables m
spelling_keeps v l m n e = (spelled_marks v l m n e).0

pub spelling_at : (v : ℕ) (l : Letter) (m n : List MarkEntry) (u : ℕ) (q r : Mark) → after_spelling v l m ≡ Some n → mark_at u m ≡ Some q → mark_at u n ≡ Some r → Becomes (nat_eq u v) l q r
spelling_at v l m n u q r e h i = (spelled_marks v l m n e).1 u q r h i

-- the mark for which the letter isn't allowed
abbrev pub Refused : ℕ → Letter → List MarkEntry → Type 0
Refused v l m = (q : Mark) × (mark_at v m ≡ Some q) × (after_letter l q ≡ None)

refused_by : (v : ℕ) (l : Letter) (x : MarkEntry) (xs : List MarkEntry) (b : Bool) (o : Option Mark) (rest : Option (List MarkEntry))
    → nat_eq x.variable v ≡ b → after_letter l x.mark ≡ o → put v b x o xs rest ≡ None → (rest ≡ None → Refused v l xs) → Refused v l (x ∷ xs)
refused_by v l x xs true None rest d e h f = (x.mark, here x xs v d, e)
refused_by v l x xs true (Some r) rest d e h f = absurd (some_none (record { variable = v; mark = r } ∷ xs) h)
refused_by v l x xs false o None d e h f = let p = f refl in (p.0, behind x xs v d ∙ p.1, p.2)
refused_by v l x xs false o (Some ys) d e h f = absurd (some_none (x ∷ ys) h)

pub spelling_refused : (v : ℕ) (l : Letter) (m : List MarkEntry) → after_spelling v l m ≡ None → Refused v l m
spelling_refused v l [] e = absurd (some_none {A = List MarkEntry} [] e)
spelling_refused v l (x ∷ xs) e = refused_by v l x xs (nat_eq x.variable v) (after_letter l x.mark) (after_spelling v l xs) refl refl e (λ d. spelling_refused v l xs d)

-- ---- states and the letter

letter_word : (b : Bool) (l : Letter) (p : Position) (q r : Mark) (s : State) → Becomes b l q r → is_in q s ≡ true
    → (t : State) × (run (Some s) (if b then letter_at l p ∷ [] else []) ≡ Some t) × (is_in r t ≡ true)
letter_word true l p q r s h i = letter_to l q r s h i
letter_word false l p q r s h i = (s, refl, subst (λ z. is_in z s ≡ true) h i)

letter_back : (b : Bool) (l : Letter) (p : Position) (q r : Mark) (t : State) → Becomes b l q r → Inhabited q → is_in r t ≡ true
    → (s : State) × (is_in q s ≡ true) × (run (Some s) (if b then letter_at l p ∷ [] else []) ≡ Some t)
letter_back true l p q r t h k i = letter_from l q r t h k i
letter_back false l p q r t h k i = (t, subst (λ z. is_in z t ≡ true) (sym h) i, refl)

letter_lives : (b : Bool) (l : Letter) (q r : Mark) → Becomes b l q r → Inhabited q → Inhabited r
letter_lives true l q r h k = letter_inhabited l q r h k
letter_lives false l q r h k = subst Inhabited h k

pub spelling_to : (v : ℕ) (l : Letter) (p : Position) (m n : List MarkEntry) (u : ℕ) (s : State) → after_spelling v l m ≡ Some n → HasState u s m
    → (t : State) × (run (Some s) (spelled (Some u) v l p) ≡ Some t) × HasState u t n
spelling_to v l p m n u s e (q, h, i) =
    let k = other_mark n m u q (sym (spelling_keeps v l m n e)) h in
    let g = letter_word (nat_eq u v) l p q k.0 s (spelling_at v l m n u q k.0 e h k.1) i in (g.0, g.1, (k.0, k.1, g.2))

pub spelling_from : (v : ℕ) (l : Letter) (p : Position) (m n : List MarkEntry) (u : ℕ) (t : State) → after_spelling v l m ≡ Some n → AreInhabited m → HasState u t n
    → (s : State) × HasState u s m × (run (Some s) (spelled (Some u) v l p) ≡ Some t)
spelling_from v l p m n u t e f (r, h, i) =
    let k = other_mark m n u r (spelling_keeps v l m n e) h in
    let g = letter_back (nat_eq u v) l p k.0 r t (spelling_at v l m n u k.0 r e k.1 h) (f u k.0 k.1) i in (g.0, (k.0, k.1, g.1), g.2)

pub spelling_inhabited : (v : ℕ) (l : Letter) (m n : List MarkEntry) → after_spelling v l m ≡ Some n → AreInhabited m → AreInhabited n
spelling_inhabited v l m n e f u r h =
    let k = other_mark m n u r (spelling_keeps v l m n e) h in letter_lives (nat_eq u v) l k.0 r (spelling_at v l m n u k.0 r e k.1 h) (f u k.0 k.1)

itself : (v : ℕ) → nat_eq v v ≡ true
itself v = eq-eqb v v refl

pub spelling_stuck : (v : ℕ) (l : Letter) (p : Position) (m : List MarkEntry) → after_spelling v l m ≡ None
    → (s : State) × HasState v s m × (run (Some s) (spelled (Some v) v l p) ≡ None)
spelling_stuck v l p m e =
    let k = spelling_refused v l m e in let g = letter_stuck l k.0 k.2 in
    (g.0, (k.0, k.1, g.1), ap (λ z. run (Some g.0) (if z then letter_at l p ∷ [] else [])) (itself v) ∙ g.2)

-- ---- marks that meet

pub meet_keeps : (m n : List MarkEntry) → variables n ≡ variables m → variables (meet m n) ≡ variables m
meet_keeps [] n e = refl
meet_keeps (x ∷ xs) [] e = absurd (nil_cons x.variable (variables xs) e)
meet_keeps (x ∷ xs) (y ∷ ys) e = ap (λ z. x.variable ∷ z) (meet_keeps xs ys (same_tail y.variable x.variable (variables ys) (variables xs) e))

pub meet_at : (m n : List MarkEntry) (u : ℕ) (q r : Mark) → variables n ≡ variables m → mark_at u m ≡ Some q → mark_at u n ≡ Some r → mark_at u (meet m n) ≡ Some (joined q r)
meet_at [] n u q r e h i = absurd (none_is q h)
meet_at (x ∷ xs) [] u q r e h i = absurd (nil_cons x.variable (variables xs) e)
meet_at (x ∷ xs) (y ∷ ys) u q r e h i = by_head (nat_eq x.variable u) refl (λ d j k. meet_at xs ys u q r d j k)
  where
    first : y.variable ≡ x.variable
    first = same_head y.variable x.variable (variables ys) (variables xs) e

    others : variables ys ≡ variables xs
    others = same_tail y.variable x.variable (variables ys) (variables xs) e

    by_head : (b : Bool) → nat_eq x.variable u ≡ b → (variables ys ≡ variables xs → mark_at u xs ≡ Some q → mark_at u ys ≡ Some r → mark_at u (meet xs ys) ≡ Some (joined q r))
        → mark_at u (record { variable = x.variable; mark = joined x.mark y.mark } ∷ meet xs ys) ≡ Some (joined q r)
    by_head true d f =
        let a = same_mark (mark_at u (x ∷ xs)) x.mark q (here x xs u d) h in
        let b = same_mark (mark_at u (y ∷ ys)) y.mark r (here y ys u (subst (λ z. nat_eq z u ≡ true) (sym first) d)) i in
        here (record { variable = x.variable; mark = joined x.mark y.mark }) (meet xs ys) u d ∙ ap (λ z. Some (joined z y.mark)) a ∙ ap (λ z. Some (joined q z)) b
    by_head false d f =
        behind (record { variable = x.variable; mark = joined x.mark y.mark }) (meet xs ys) u d
        ∙ f others (sym (behind x xs u d) ∙ h) (sym (behind y ys u (subst (λ z. nat_eq z u ≡ false) (sym first) d)) ∙ i)

pub meet_from : (m n : List MarkEntry) (u : ℕ) (k : Mark) → variables n ≡ variables m → mark_at u (meet m n) ≡ Some k
    → (q : Mark) × (r : Mark) × (mark_at u m ≡ Some q) × (mark_at u n ≡ Some r) × (k ≡ joined q r)
meet_from m n u k e h =
    let a = other_mark m (meet m n) u k (meet_keeps m n e) h in
    let b = other_mark n m u a.0 (sym e) a.1 in
    (a.0, b.0, a.1, b.1, same_mark (mark_at u (meet m n)) k (joined a.0 b.0) h (meet_at m n u a.0 b.0 e a.1 b.1))

pub meet_left : (m n : List MarkEntry) (u : ℕ) (s : State) → variables n ≡ variables m → HasState u s m → HasState u s (meet m n)
meet_left m n u s e (q, h, i) = let b = other_mark n m u q (sym e) h in (joined q b.0, meet_at m n u q b.0 e h b.1, joined_left q b.0 s i)

pub meet_right : (m n : List MarkEntry) (u : ℕ) (s : State) → variables n ≡ variables m → HasState u s n → HasState u s (meet m n)
meet_right m n u s e (r, h, i) = let a = other_mark m n u r e h in (joined a.0 r, meet_at m n u a.0 r e a.1 h, joined_right a.0 r s i)

pub meet_split : (m n : List MarkEntry) (u : ℕ) (s : State) → variables n ≡ variables m → HasState u s (meet m n) → HasState u s m ⊎ HasState u s n
meet_split m n u s e (k, h, i) =
    let p = meet_from m n u k e h in pick p.0 p.1 p.2 p.3 (in_joined p.0 p.1 s (subst (λ z. is_in z s ≡ true) p.4 i))
  where
    pick : (q r : Mark) → mark_at u m ≡ Some q → mark_at u n ≡ Some r → (is_in q s ≡ true) ⊎ (is_in r s ≡ true) → HasState u s m ⊎ HasState u s n
    pick q r a b (inl j) = inl (q, a, j)
    pick q r a b (inr j) = inr (r, b, j)

pub meet_inhabited : (m n : List MarkEntry) → variables n ≡ variables m → AreInhabited m → AreInhabited (meet m n)
meet_inhabited m n e f u k h =
    let p = meet_from m n u k e h in let g = f u p.0 p.2 in (g.0, subst (λ z. is_in z g.0 ≡ true) (sym p.4) (joined_left p.0 p.1 g.0 g.1))

-- ---- what says more

-- a variable whose mark in the first says more than in the second
abbrev pub Differs : List MarkEntry → List MarkEntry → Type 0
Differs n m = (u : ℕ) × (r : Mark) × (q : Mark) × (mark_at u n ≡ Some r) × (mark_at u m ≡ Some q) × (says_less r q ≡ false)

differs_later : (x y : MarkEntry) (xs ys : List MarkEntry) → y.variable ≡ x.variable → not (among (variables xs) x.variable) ≡ true → Differs ys xs → Differs (y ∷ ys) (x ∷ xs)
differs_later x y xs ys e d (u, r, q, h, i, j) =
    let p = is_other (variables xs) x.variable u d (is_among xs u q i) in
    (u, r, q, behind y ys u (subst (λ z. nat_eq z u ≡ false) (sym e) p) ∙ h, behind x xs u p ∙ i, j)

pub differs : (n m : List MarkEntry) → variables n ≡ variables m → distinct (variables m) ≡ true → all_say_less n m ≡ false → Differs n m
differs [] m e d h = absurd (true≢false h)
differs (y ∷ ys) [] e d h = absurd (nil_cons y.variable (variables ys) (sym e))
differs (y ∷ ys) (x ∷ xs) e d h = by_head (and_cases (says_less y.mark x.mark) (all_say_less ys xs) h) (λ a b c. differs ys xs a b c)
  where
    first : y.variable ≡ x.variable
    first = same_head y.variable x.variable (variables ys) (variables xs) e

    others : variables ys ≡ variables xs
    others = same_tail y.variable x.variable (variables ys) (variables xs) e

    apart : (not (among (variables xs) x.variable) ≡ true) × (distinct (variables xs) ≡ true)
    apart = and_parts (not (among (variables xs) x.variable)) (distinct (variables xs)) d

    by_head : (says_less y.mark x.mark ≡ false) ⊎ (all_say_less ys xs ≡ false) → (variables ys ≡ variables xs → distinct (variables xs) ≡ true → all_say_less ys xs ≡ false → Differs ys xs) → Differs (y ∷ ys) (x ∷ xs)
    by_head (inl a) f = (x.variable, y.mark, x.mark, here y ys x.variable (eq-eqb y.variable x.variable first), here x xs x.variable (itself x.variable), a)
    by_head (inr a) f = differs_later x y xs ys first apart.0 (f others apart.1 a)

-- a list that says less
pub says_less_at : (n m : List MarkEntry) (u : ℕ) (r q : Mark) → variables n ≡ variables m → all_say_less n m ≡ true → mark_at u n ≡ Some r → mark_at u m ≡ Some q → says_less r q ≡ true
says_less_at [] m u r q e d h i = absurd (none_is r h)
says_less_at (y ∷ ys) [] u r q e d h i = absurd (nil_cons y.variable (variables ys) (sym e))
says_less_at (y ∷ ys) (x ∷ xs) u r q e d h i = by_head (nat_eq x.variable u) refl (λ a b c j. says_less_at ys xs u r q a b c j)
  where
    first : y.variable ≡ x.variable
    first = same_head y.variable x.variable (variables ys) (variables xs) e

    others : variables ys ≡ variables xs
    others = same_tail y.variable x.variable (variables ys) (variables xs) e

    parts : (says_less y.mark x.mark ≡ true) × (all_say_less ys xs ≡ true)
    parts = and_parts (says_less y.mark x.mark) (all_say_less ys xs) d

    by_head : (b : Bool) → nat_eq x.variable u ≡ b → (variables ys ≡ variables xs → all_say_less ys xs ≡ true → mark_at u ys ≡ Some r → mark_at u xs ≡ Some q → says_less r q ≡ true) → says_less r q ≡ true
    by_head true c f =
        let a = same_mark (mark_at u (y ∷ ys)) y.mark r (here y ys u (subst (λ z. nat_eq z u ≡ true) (sym first) c)) h in
        let b = same_mark (mark_at u (x ∷ xs)) x.mark q (here x xs u c) i in
        subst (λ z. says_less r z ≡ true) b (subst (λ z. says_less z x.mark ≡ true) a parts.0)
    by_head false c f = f others parts.1 (sym (behind y ys u (subst (λ z. nat_eq z u ≡ false) (sym first) c)) ∙ h) (sym (behind x xs u c) ∙ i)
