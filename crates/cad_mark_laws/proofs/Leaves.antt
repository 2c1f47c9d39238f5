-- The marks with which paths leave, by each way.
use Rattle.std.proofs.Common.{◌≡◌, refl, sym, ◌∙◌, ap, subst, ◌⊎◌, inl, inr, ℕ, Bool, true, false, List, [], ◌∷◌, nat_eq, zero, suc}
use Rattle.std.specs.Prelude.{Option, Some, None, if◌then◌else◌}
use Rattle.cad_paths.specs.declared.letter.Way.{Way}
use Rattle.cad_paths.specs.declared.letter.Way.TheVariants.{Next, Broken, Continued, Returned, Never}
use Rattle.cad_paths.specs.Paths.{goes_on, caught}
use Rattle.cad_paths.specs.Marks.{MarkEntry, meet, join, all_say_less, Leaves, nowhere, only, together, cut_off, catching, ◌>=>◌, turned, turned_by, turns, ends_well, left_scope, scope_left}
use Rattle.cad_mark_laws.specs.Laws.{IsStable}
use Rattle.std.proofs.lemmas.Bool.{true≢false}
use Rattle.cad_mark_laws.proofs.States.{none_is, nil_cons, same_head, same_tail, State}
use Rattle.cad_mark_laws.proofs.Entries.{variables, HasState, AreInhabited, same_some, meet_keeps, meet_left, meet_right, meet_split, meet_inhabited, behind}

abbrev pub at : Leaves → Way → Option (List MarkEntry)
at a Next = a.next
at a Broken = a.broken
at a Continued = a.continued
at a Returned = a.returned
at a Never = None

-- ---- options

pub bind_some : {A B : Type 0} (o : Option A) (f : A → Option B) (y : B) → (o >=> f) ≡ Some y → (x : A) × (o ≡ Some x) × (f x ≡ Some y)
bind_some None f y e = absurd (none_is y e)
bind_some (Some x) f y e = (x, refl, e)

-- ---- what leaves

-- nothing leaves, or marks of these variables
abbrev pub Over : List ℕ → Option (List MarkEntry) → Type 0
Over us None = Unit {0}
Over us (Some n) = variables n ≡ us

-- marks of these variables leave, by a path (R), each with some state, and each state comes from somewhere (Q)
abbrev pub Good : List ℕ → Type 0 → (ℕ → State → Type 0) → Option (List MarkEntry) → Type 0
Good us R Q None = Unit {0}
Good us R Q (Some n) = (variables n ≡ us) × R × AreInhabited n × ((u : ℕ) (s : State) → HasState u s n → Q u s)

-- what leaves has this state
abbrev pub Holds : ℕ → State → Option (List MarkEntry) → Type 0
Holds u s None = ⊥
Holds u s (Some n) = HasState u s n

pub join_over : (us : List ℕ) (a b : Option (List MarkEntry)) → Over us a → Over us b → Over us (join a b)
join_over us None b d e = e
join_over us (Some m) None d e = d
join_over us (Some m) (Some n) d e = meet_keeps m n (e ∙ sym d) ∙ d

pub good_join : (us : List ℕ) (R : Type 0) (Q : ℕ → State → Type 0) (a b : Option (List MarkEntry)) → Good us R Q a → Good us R Q b → Good us R Q (join a b)
good_join us R Q None b g h = h
good_join us R Q (Some m) None g h = g
good_join us R Q (Some m) (Some n) g h =
    let e : variables n ≡ variables m = h.0 ∙ sym g.0 in
    (meet_keeps m n e ∙ g.0, g.1, meet_inhabited m n e g.2, λ u s i. pick u s (meet_split m n u s e i))
  where
    pick : (u : ℕ) (s : State) → HasState u s m ⊎ HasState u s n → Q u s
    pick u s (inl i) = g.3 u s i
    pick u s (inr i) = h.3 u s i

pub good_map : (us : List ℕ) (R S : Type 0) (Q P : ℕ → State → Type 0) (a : Option (List MarkEntry)) → (R → S) → ((u : ℕ) (s : State) → Q u s → P u s) → Good us R Q a → Good us S P a
good_map us R S Q P None f g h = tt
good_map us R S Q P (Some n) f g h = (h.0, f h.1, h.2, λ u s i. g u s (h.3 u s i))

pub good_over : (us : List ℕ) (R : Type 0) (Q : ℕ → State → Type 0) (a : Option (List MarkEntry)) → Good us R Q a → Over us a
good_over us R Q None h = tt
good_over us R Q (Some n) h = h.0

pub join_left : (us : List ℕ) (a b : Option (List MarkEntry)) (u : ℕ) (s : State) → Over us a → Over us b → Holds u s a → Holds u s (join a b)
join_left us None b u s d e h = absurd h
join_left us (Some m) None u s d e h = h
join_left us (Some m) (Some n) u s d e h = meet_left m n u s (e ∙ sym d) h

pub join_right : (us : List ℕ) (a b : Option (List MarkEntry)) (u : ℕ) (s : State) → Over us a → Over us b → Holds u s b → Holds u s (join a b)
join_right us None b u s d e h = h
join_right us (Some m) None u s d e h = absurd h
join_right us (Some m) (Some n) u s d e h = meet_right m n u s (e ∙ sym d) h

-- ---- by each way

-- each way leaves marks of these variables
abbrev pub OverAll : List ℕ → Leaves → Type 0
OverAll us a = (x : Way) → Over us (at a x)

-- what leaves by this way has the state; a call that never ends leaves nothing
abbrev pub HoldsAt : Leaves → Way → ℕ → State → Type 0
HoldsAt a Next u s = Holds u s a.next
HoldsAt a Broken u s = Holds u s a.broken
HoldsAt a Continued u s = Holds u s a.continued
HoldsAt a Returned u s = Holds u s a.returned
HoldsAt a Never u s = Unit {0}

pub nowhere_over : (us : List ℕ) → OverAll us nowhere
nowhere_over us Next = tt
nowhere_over us Broken = tt
nowhere_over us Continued = tt
nowhere_over us Returned = tt
nowhere_over us Never = tt

pub only_over : (x : Way) (m : List MarkEntry) → OverAll (variables m) (only x m)
only_over Next m Next = refl
only_over Next m Broken = tt
only_over Next m Continued = tt
only_over Next m Returned = tt
only_over Next m Never = tt
only_over Broken m Next = tt
only_over Broken m Broken = refl
only_over Broken m Continued = tt
only_over Broken m Returned = tt
only_over Broken m Never = tt
only_over Continued m Next = tt
only_over Continued m Broken = tt
only_over Continued m Continued = refl
only_over Continued m Returned = tt
only_over Continued m Never = tt
only_over Returned m Next = tt
only_over Returned m Broken = tt
only_over Returned m Continued = tt
only_over Returned m Returned = refl
only_over Returned m Never = tt
only_over Never m y = nowhere_over (variables m) y

pub together_over : (us : List ℕ) (a b : Leaves) → OverAll us a → OverAll us b → OverAll us (together a b)
together_over us a b f g Next = join_over us a.next b.next (f Next) (g Next)
together_over us a b f g Broken = join_over us a.broken b.broken (f Broken) (g Broken)
together_over us a b f g Continued = join_over us a.continued b.continued (f Continued) (g Continued)
together_over us a b f g Returned = join_over us a.returned b.returned (f Returned) (g Returned)
together_over us a b f g Never = tt

pub cut_over : (us : List ℕ) (a : Leaves) → OverAll us a → OverAll us (cut_off a)
cut_over us a f Next = tt
cut_over us a f Broken = f Broken
cut_over us a f Continued = f Continued
cut_over us a f Returned = f Returned
cut_over us a f Never = tt

pub catching_over : (us : List ℕ) (c : Way) (a : Leaves) → OverAll us a → OverAll us (catching c a)
catching_over us Broken a f Next = join_over us a.next a.broken (f Next) (f Broken)
catching_over us Broken a f Broken = tt
catching_over us Broken a f Continued = f Continued
catching_over us Broken a f Returned = f Returned
catching_over us Broken a f Never = tt
catching_over us Continued a f Next = join_over us a.next a.continued (f Next) (f Continued)
catching_over us Continued a f Broken = f Broken
catching_over us Continued a f Continued = tt
catching_over us Continued a f Returned = f Returned
catching_over us Continued a f Never = tt
catching_over us Returned a f Next = join_over us a.next a.returned (f Next) (f Returned)
catching_over us Returned a f Broken = f Broken
catching_over us Returned a f Continued = f Continued
catching_over us Returned a f Returned = tt
catching_over us Returned a f Never = tt
catching_over us Next a f y = f y
catching_over us Never a f y = f y

pub turned_over : (us : List ℕ) (m : List MarkEntry) (a : Leaves) → variables m ≡ us → OverAll us a → OverAll us (turned m a)
turned_over us m a e f Next = e
turned_over us m a e f Broken = f Broken
turned_over us m a e f Continued = f Continued
turned_over us m a e f Returned = f Returned
turned_over us m a e f Never = tt

-- ---- the same of a state that leaves

pub only_at : (x : Way) (m : List MarkEntry) (u : ℕ) (s : State) → HasState u s m → HoldsAt (only x m) x u s
only_at Next m u s h = h
only_at Broken m u s h = h
only_at Continued m u s h = h
only_at Returned m u s h = h
only_at Never m u s h = tt

pub together_left : (us : List ℕ) (a b : Leaves) (x : Way) (u : ℕ) (s : State) → OverAll us a → OverAll us b → HoldsAt a x u s → HoldsAt (together a b) x u s
together_left us a b Next u s f g h = join_left us a.next b.next u s (f Next) (g Next) h
together_left us a b Broken u s f g h = join_left us a.broken b.broken u s (f Broken) (g Broken) h
together_left us a b Continued u s f g h = join_left us a.continued b.continued u s (f Continued) (g Continued) h
together_left us a b Returned u s f g h = join_left us a.returned b.returned u s (f Returned) (g Returned) h
together_left us a b Never u s f g h = tt

pub together_right : (us : List ℕ) (a b : Leaves) (x : Way) (u : ℕ) (s : State) → OverAll us a → OverAll us b → HoldsAt b x u s → HoldsAt (together a b) x u s
together_right us a b Next u s f g h = join_right us a.next b.next u s (f Next) (g Next) h
together_right us a b Broken u s f g h = join_right us a.broken b.broken u s (f Broken) (g Broken) h
together_right us a b Continued u s f g h = join_right us a.continued b.continued u s (f Continued) (g Continued) h
together_right us a b Returned u s f g h = join_right us a.returned b.returned u s (f Returned) (g Returned) h
together_right us a b Never u s f g h = tt

pub cut_at : (a : Leaves) (x : Way) (u : ℕ) (s : State) → goes_on x ≡ false → HoldsAt a x u s → HoldsAt (cut_off a) x u s
cut_at a Next u s e h = absurd (true≢false e)
cut_at a Broken u s e h = h
cut_at a Continued u s e h = h
cut_at a Returned u s e h = h
cut_at a Never u s e h = tt

pub turned_at : (m : List MarkEntry) (a : Leaves) (x : Way) (u : ℕ) (s : State) → goes_on x ≡ false → HoldsAt a x u s → HoldsAt (turned m a) x u s
turned_at m a Next u s e h = absurd (true≢false e)
turned_at m a Broken u s e h = h
turned_at m a Continued u s e h = h
turned_at m a Returned u s e h = h
turned_at m a Never u s e h = tt

pub catching_at : (us : List ℕ) (c : Way) (a : Leaves) (x : Way) (u : ℕ) (s : State) → OverAll us a → HoldsAt a x u s → HoldsAt (catching c a) (caught c x) u s
catching_at us Broken a Next u s f h = join_left us a.next a.broken u s (f Next) (f Broken) h
catching_at us Broken a Broken u s f h = join_right us a.next a.broken u s (f Next) (f Broken) h
catching_at us Broken a Continued u s f h = h
catching_at us Broken a Returned u s f h = h
catching_at us Broken a Never u s f h = tt
catching_at us Continued a Next u s f h = join_left us a.next a.continued u s (f Next) (f Continued) h
catching_at us Continued a Broken u s f h = h
catching_at us Continued a Continued u s f h = join_right us a.next a.continued u s (f Next) (f Continued) h
catching_at us Continued a Returned u s f h = h
catching_at us Continued a Never u s f h = tt
catching_at us Returned a Next u s f h = join_left us a.next a.returned u s (f Next) (f Returned) h
catching_at us Returned a Broken u s f h = h
catching_at us Returned a Continued u s f h = h
catching_at us Returned a Returned u s f h = join_right us a.next a.returned u s (f Next) (f Returned) h
catching_at us Returned a Never u s f h = tt
catching_at us Next a x u s f h = h
catching_at us Never a x u s f h = h

-- ---- loops

-- the marks with which turns begin, from the first to the last
pub data Grows (f : List MarkEntry → Option Leaves) : List MarkEntry → List MarkEntry → Type 0 where
  last_turn : {m : List MarkEntry} → Grows f m m
  next_turn : {m k : List MarkEntry} (a : Leaves) (n : List MarkEntry) → f m ≡ Some a → a.next ≡ Some n → Grows f (meet m n) k → Grows f m k

-- what a loop comes to: the marks with which each turn may begin, and what leaves from them
abbrev pub Stands : (List MarkEntry → Option Leaves) → List MarkEntry → Leaves → Type 0
Stands f m l = (k : List MarkEntry) × (a : Leaves) × Grows f m k × (f k ≡ Some a) × IsStable a.next k × (l ≡ turned k a)

abbrev pub less_by : (List MarkEntry → Option Leaves) → List MarkEntry → Leaves → List MarkEntry → Bool → Option Leaves
less_by again m a n b = if b then Some (turned m a) else again (meet m n)

stands_on : (f : List MarkEntry → Option Leaves) (m : List MarkEntry) (l : Leaves) (a : Leaves) (n : List MarkEntry) → f m ≡ Some a → a.next ≡ Some n → Stands f (meet m n) l → Stands f m l
stands_on f m l a n d e h = (h.0, h.1, next_turn a n d e h.2, h.3, h.4, h.5)

stands_less : (f again : List MarkEntry → Option Leaves) (m : List MarkEntry) (l a : Leaves) (n : List MarkEntry) (b : Bool) → f m ≡ Some a → a.next ≡ Some n → all_say_less n m ≡ b
    → less_by again m a n b ≡ Some l → (again (meet m n) ≡ Some l → Stands f (meet m n) l) → Stands f m l
stands_less f again m l a n true d e i h g = (m, a, last_turn, d, subst (λ z. IsStable z m) (sym e) i, sym (same_some (turned m a) l h))
stands_less f again m l a n false d e i h g = stands_on f m l a n d e (g h)

stands_next : (f again : List MarkEntry → Option Leaves) (m : List MarkEntry) (l a : Leaves) (o : Option (List MarkEntry)) → f m ≡ Some a → a.next ≡ o
    → turned_by again m a o ≡ Some l → ((n : List MarkEntry) → again (meet m n) ≡ Some l → Stands f (meet m n) l) → Stands f m l
stands_next f again m l a None d e h g = (m, a, last_turn, d, subst (λ z. IsStable z m) (sym e) tt, sym (same_some (turned m a) l h))
stands_next f again m l a (Some n) d e h g = stands_less f again m l a n (all_say_less n m) d e refl h (g n)

pub turns_stand : (i : ℕ) (f : List MarkEntry → Option Leaves) (m : List MarkEntry) (l : Leaves) → turns i f m ≡ Some l → Stands f m l
turns_stand zero f m l e = absurd (none_is l e)
turns_stand (suc i) f m l e =
    let p = bind_some (f m) (λ a. turned_by (turns i f) m a a.next) l e in
    stands_next f (turns i f) m l p.0 p.0.next p.1 refl p.2 (λ n d. turns_stand i f (meet m n) l d)

-- a loop that begins with the marks of a last turn comes to the same
stable_turn : (again : List MarkEntry → Option Leaves) (m : List MarkEntry) (a : Leaves) (o : Option (List MarkEntry)) → IsStable o m → turned_by again m a o ≡ Some (turned m a)
stable_turn again m a None h = refl
stable_turn again m a (Some n) h = ap (λ z. less_by again m a n z) h

pub turns_again : (i : ℕ) (f : List MarkEntry → Option Leaves) (m : List MarkEntry) (a : Leaves) → f m ≡ Some a → IsStable a.next m → turns (suc i) f m ≡ Some (turned m a)
turns_again i f m a e h = ap (λ z. z >=> (λ b. turned_by (turns i f) m b b.next)) e ∙ stable_turn (turns i f) m a a.next h

pub grows_keep : (us : List ℕ) (f : List MarkEntry → Option Leaves) → ((m : List MarkEntry) (a : Leaves) → variables m ≡ us → f m ≡ Some a → OverAll us a)
    → {m k : List MarkEntry} → Grows f m k → variables m ≡ us → variables k ≡ us
grows_keep us f g last_turn e = e
grows_keep us f g (next_turn {m = m} a n d i h) e =
    let p : variables n ≡ us = subst (λ z. Over us z) i (g m a e d Next) in grows_keep us f g h (meet_keeps m n (p ∙ sym e) ∙ e)

pub grows_hold : (us : List ℕ) (f : List MarkEntry → Option Leaves) → ((m : List MarkEntry) (a : Leaves) → variables m ≡ us → f m ≡ Some a → OverAll us a)
    → {m k : List MarkEntry} → Grows f m k → variables m ≡ us → (u : ℕ) (s : State) → HasState u s m → HasState u s k
grows_hold us f g last_turn e u s h = h
grows_hold us f g (next_turn {m = m} a n d i j) e u s h =
    let p : variables n ≡ us = subst (λ z. Over us z) i (g m a e d Next) in
    grows_hold us f g j (meet_keeps m n (p ∙ sym e) ∙ e) u s (meet_left m n u s (p ∙ sym e) h)

-- ---- scopes

abbrev pub leaving : Option (List MarkEntry) → Option (List MarkEntry) → Option (List MarkEntry) → Option (List MarkEntry) → Leaves
leaving n b c r = record { next = n; broken = b; continued = c; returned = r }

parts_by : (fields : Bool) (a l : Leaves) (n b c r : Option (List MarkEntry)) → left_scope fields a.next ≡ Some n → left_scope fields a.broken ≡ Some b
    → left_scope fields a.continued ≡ Some c → left_scope fields a.returned ≡ Some r → leaving n b c r ≡ l
    → (x : Way) → left_scope fields (at a x) ≡ Some (at l x)
parts_by fields a l n b c r d e f g h Next = d ∙ ap (λ (z : Leaves). Some z.next) h
parts_by fields a l n b c r d e f g h Broken = e ∙ ap (λ (z : Leaves). Some z.broken) h
parts_by fields a l n b c r d e f g h Continued = f ∙ ap (λ (z : Leaves). Some z.continued) h
parts_by fields a l n b c r d e f g h Returned = g ∙ ap (λ (z : Leaves). Some z.returned) h
parts_by fields a l n b c r d e f g h Never = refl

-- what leaves a scope, by each way
pub scope_parts : (fields : Bool) (a l : Leaves) → scope_left fields a ≡ Some l → (x : Way) → left_scope fields (at a x) ≡ Some (at l x)
scope_parts fields a l e x =
    let n = bind_some (left_scope fields a.next) (λ n. left_scope fields a.broken >=> (λ b. left_scope fields a.continued >=> (λ c. left_scope fields a.returned >=> (λ r.
    Some (leaving n b c r))))) l e in
    let b = bind_some (left_scope fields a.broken) (λ b. left_scope fields a.continued >=> (λ c. left_scope fields a.returned >=> (λ r.
    Some (leaving n.0 b c r)))) l n.2 in
    let c = bind_some (left_scope fields a.continued) (λ c. left_scope fields a.returned >=> (λ r.
    Some (leaving n.0 b.0 c r))) l b.2 in
    let r = bind_some (left_scope fields a.returned) (λ r. Some (leaving n.0 b.0 c.0 r)) l c.2 in
    parts_by fields a l n.0 b.0 c.0 r.0 n.1 b.1 c.1 r.1 (same_some (leaving n.0 b.0 c.0 r.0) l r.2) x

abbrev pub tested : Bool → List MarkEntry → Option (Option (List MarkEntry))
tested b all = if b then Some (Some all) else None

tested_is : (b : Bool) (all : List MarkEntry) (p : Option (List MarkEntry)) → tested b all ≡ Some p → Some all ≡ p
tested_is true all p e = same_some (Some all) p e
tested_is false all p e = absurd (none_is p e)

pub left_over : (fields : Bool) (v : ℕ) (us : List ℕ) (o p : Option (List MarkEntry)) → Over (v ∷ us) o → left_scope fields o ≡ Some p → Over us p
left_over fields v us None p d e = subst (λ z. Over us z) (same_some None p e) tt
left_over fields v us (Some []) p d e = absurd (nil_cons v us d)
left_over fields v us (Some (y ∷ all)) p d e = let k = same_tail y.variable v (variables all) us d in subst (λ z. Over us z) (tested_is (ends_well fields y.mark) all p e) k

-- a variable that isn't the newest keeps its state
pub left_holds : (fields : Bool) (v : ℕ) (us : List ℕ) (o p : Option (List MarkEntry)) (u : ℕ) (s : State) → Over (v ∷ us) o → left_scope fields o ≡ Some p → nat_eq v u ≡ false → Holds u s o → Holds u s p
left_holds fields v us None p u s d e c h = absurd h
left_holds fields v us (Some []) p u s d e c h = absurd (nil_cons v us d)
left_holds fields v us (Some (y ∷ all)) p u s d e c h =
    let k = same_head y.variable v (variables all) us d in
    let g : HasState u s all = (h.0, sym (behind y all u (subst (λ z. nat_eq z u ≡ false) (sym k) c)) ∙ h.1, h.2) in
    subst (λ z. Holds u s z) (tested_is (ends_well fields y.mark) all p e) g

pub scope_over : (fields : Bool) (v : ℕ) (us : List ℕ) (a l : Leaves) → scope_left fields a ≡ Some l → OverAll (v ∷ us) a → OverAll us l
scope_over fields v us a l e f x = left_over fields v us (at a x) (at l x) (f x) (scope_parts fields a l e x)

pub scope_at : (fields : Bool) (v : ℕ) (us : List ℕ) (a l : Leaves) (x : Way) (u : ℕ) (s : State) → scope_left fields a ≡ Some l → OverAll (v ∷ us) a → nat_eq v u ≡ false → HoldsAt a x u s → HoldsAt l x u s
scope_at fields v us a l Next u s e f c h = left_holds fields v us a.next l.next u s (f Next) (scope_parts fields a l e Next) c h
scope_at fields v us a l Broken u s e f c h = left_holds fields v us a.broken l.broken u s (f Broken) (scope_parts fields a l e Broken) c h
scope_at fields v us a l Continued u s e f c h = left_holds fields v us a.continued l.continued u s (f Continued) (scope_parts fields a l e Continued) c h
scope_at fields v us a l Returned u s e f c h = left_holds fields v us a.returned l.returned u s (f Returned) (scope_parts fields a l e Returned) c h
scope_at fields v us a l Never u s e f c h = tt
