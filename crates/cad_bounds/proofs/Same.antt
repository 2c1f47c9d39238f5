-- Two runs that are the same while fewer units are left than are told, and leave no more than they got.
use Rattle.std.proofs.Common.{◌≡◌, ◌≢◌, ℕ, zero, suc, ◌-◌, ◌≤◌, nat_le, Bool, true, false, List, Option, Some, None, refl, ap, ◌∙◌, arith, pos, negsuc}
use Rattle.cad_syntax.specs.declared.address.Address.{Address}
use Rattle.cad_syntax.specs.declared.type_id.TypeId.{TypeId}
use Rattle.cad_world.specs.Fronts.{Front, unknown}
use Rattle.cad_world.specs.Labels.{at}
use Rattle.cad_world.specs.Locations.{Location, variable, contract, stored, receiver, part, element, entry, key_position, keys_of, in_node, in_entry, changed_at}
use Rattle.cad_world.specs.Rows.{Row, Found}
use Rattle.cad_world.specs.State.{Contract, State, Outcome, ok, failed, limit, ill, bind, Action, ◌>>=◌, give, fail, stuck, done, guard, require, choose, by_truth, with_some, or_fail, paid, spend, tick}
use Rattle.cad_evaluation.specs.Callees.{Callee, destroyed_event, Calls}

-- ---- what is compared

-- the second says what the first says; where the first is free to fail by 0, it may say nothing
abbrev pub Reaches : Type 0 → Front → Front → Type 0
Reaches Free f g = (contracts : List Contract) (address : Address) (code : List ℕ) → (Free → f contracts address code ≢ unknown)
    → f contracts address code ≡ g contracts address code

-- two runs, by two front ends
pub record Runs : Type 1 where
  -- they are compared while fewer units are left
  pub units : ℕ
  -- whether nothing is said where the first fails by 0
  pub Free : Type 0
  pub first : Front
  pub second : Front
  pub reaches : Reaches Free first second

-- once a unit was taken
abbrev pub a_unit_less : Runs → Runs
a_unit_less R = record { units = R.units - 1; Free = R.Free; first = R.first; second = R.second; reaches = R.reaches }

-- the same outcome; where the first is free to fail by 0 and does, the second may have any
abbrev pub Alike : {A : Type 0} → Type 0 → Outcome A → Outcome A → Type 0
Alike Free o o' = (Free → o ≢ failed 0) → o ≡ o'

abbrev pub Shrinks : {A : Type 0} → ℕ → Outcome A → Type 0
Shrinks n (ok a s) = s.units ≤ n
Shrinks n (failed e) = Unit {0}
Shrinks n limit = Unit {0}
Shrinks n ill = Unit {0}

abbrev pub Same : {A : Type 0} → Runs → Action A → Action A → Type 0
Same R p q = (s : State) → suc s.units ≤ R.units → Alike R.Free (p s) (q s) × Shrinks s.units (p s)

-- what is called is the same
abbrev pub Now : Runs → Calls → Calls → Type 0
Now R c d = (callee : Callee) (r : Row) → Same R (c callee r) (d callee r)

-- events that tell of an end are the same, and other calls once a unit was taken
abbrev pub Near : Runs → Calls → Calls → Type 0
Near R c d = ((id : TypeId) (l : ℕ) (r : Row) → Same R (c (destroyed_event id l) r) (d (destroyed_event id l) r)) × Now (a_unit_less R) c d

-- so many turns, or nested calls, are enough for N units on both sides, or they are as many on one as on the other
abbrev pub Enough : ℕ → ℕ → ℕ → Type 0
Enough N zero zero = Unit {0}
Enough N zero (suc n') = N ≤ 0
Enough N (suc n) zero = N ≤ 0
Enough N (suc n) (suc n') = Enough (N - 1) n n'

pub enough_fewer : (N K n n' : ℕ) → K ≤ N → Enough N n n' → Enough K n n'
enough_fewer N K zero zero k h = tt
enough_fewer N K zero (suc n') k h = omega arith
enough_fewer N K (suc n) zero k h = omega arith
enough_fewer N K (suc n) (suc n') k h = enough_fewer (N - 1) (K - 1) n n' (omega arith) h

pub enough_units : (N n n' : ℕ) → N ≤ n → N ≤ n' → Enough N n n'
enough_units N zero zero h h' = tt
enough_units N zero (suc n') h h' = h
enough_units N (suc n) zero h h' = h'
enough_units N (suc n) (suc n') h h' = enough_units (N - 1) n n' (omega arith) (omega arith)

pub as_many : (N n : ℕ) → Enough N n n
as_many N zero = tt
as_many N (suc n) = as_many (N - 1) n

pub self_units : (n : ℕ) → n ≤ n
self_units n = omega arith

pub none_low : (N u : ℕ) → N ≤ 0 → suc u ≤ N → ⊥
none_low N u h low = omega arith

-- ---- actions and what follows them

shrinks_more : {A : Type 0} (m n : ℕ) (o : Outcome A) → m ≤ n → Shrinks m o → Shrinks n o
shrinks_more m n (ok a s) h k = omega arith
shrinks_more m n (failed e) h k = tt
shrinks_more m n limit h k = tt
shrinks_more m n ill h k = tt

pub same_self : {A : Type 0} (R : Runs) (p : Action A) → ((s : State) → Shrinks s.units (p s)) → Same R p p
same_self R p h = λ s low. ((λ w. refl), h s)

pub fewer : {A : Type 0} (R : Runs) (p q : Action A) → Same R p q → Same (a_unit_less R) p q
fewer R p q h = λ s low. h s (omega arith)

bind_same : {A B : Type 0} (R : Runs) (n : ℕ) (o : Outcome A) (f g : A → Action B) → suc n ≤ R.units → Shrinks n o → ((a : A) → Same R (f a) (g a))
    → Alike R.Free (bind o f) (bind o g) × Shrinks n (bind o f)
bind_same R n (ok a s) f g h k l = let x = l a s (omega arith) in (x.0, shrinks_more s.units n (f a s) k x.1)
bind_same R n (failed e) f g h k l = ((λ w. refl), tt)
bind_same R n limit f g h k l = ((λ w. refl), tt)
bind_same R n ill f g h k l = ((λ w. refl), tt)

-- where the whole doesn't fail by 0, the first part doesn't
alike_bind : {A B : Type 0} (Free : Type 0) (o o' : Outcome A) (f g : A → Action B) → Alike Free o o' → Alike Free (bind o f) (bind o g)
    → Alike Free (bind o f) (bind o' g)
alike_bind Free o o' f g h k = λ w. k w ∙ ap (λ x. bind x g) (h (λ free e. w free (ap (λ x. bind x f) e)))

pub same_bind : {A B : Type 0} (R : Runs) (p q : Action A) (f g : A → Action B) → Same R p q → ((a : A) → Same R (f a) (g a)) → Same R (p >>= f) (q >>= g)
same_bind R p q f g h k = λ s low.
    let x = h s low in let y = bind_same R s.units (p s) f g low x.1 k in (alike_bind R.Free (p s) (q s) f g x.0 y.0, y.1)

-- ---- what takes no units

pub same_give : {A : Type 0} (R : Runs) (a : A) → Same R (give a) (give a)
same_give R a = same_self R _ (λ s. self_units s.units)

pub same_done : (R : Runs) → Same R done done
same_done R = same_self R _ (λ s. self_units s.units)

pub same_fail : {A : Type 0} (R : Runs) (e : ℕ) → Same {A = A} R (fail e) (fail e)
same_fail R e = same_self R _ (λ s. tt)

pub same_stuck : {A : Type 0} (R : Runs) → Same {A = A} R stuck stuck
same_stuck R = same_self R _ (λ s. tt)

pub same_guard : {A : Type 0} (R : Runs) (b : Bool) (p q : Action A) → Same R p q → Same R (guard b p) (guard b q)
same_guard R true p q h = h
same_guard R false p q h = same_self R _ (λ s. tt)

pub same_require : {A : Type 0} (R : Runs) (e : ℕ) (b : Bool) (p q : Action A) → Same R p q → Same R (require e b p) (require e b q)
same_require R e true p q h = h
same_require R e false p q h = same_self R _ (λ s. tt)

pub same_choose : {A : Type 0} (R : Runs) (b : Bool) (p p' q q' : Action A) → Same R p p' → Same R q q' → Same R (choose b p q) (choose b p' q')
same_choose R true p p' q q' h k = h
same_choose R false p p' q q' h k = k

pub same_by_truth : {A : Type 0} (R : Runs) (o : Option Bool) (p p' q q' : Action A) → Same R p p' → Same R q q' → Same R (by_truth o p q) (by_truth o p' q')
same_by_truth R (Some true) p p' q q' h k = h
same_by_truth R (Some false) p p' q q' h k = k
same_by_truth R None p p' q q' h k = same_self R _ (λ s. tt)

pub same_some : {A B : Type 0} (R : Runs) (o : Option A) (f g : A → Action B) → ((a : A) → Same R (f a) (g a)) → Same R (with_some o f) (with_some o g)
same_some R None f g h = same_self R _ (λ s. tt)
same_some R (Some a) f g h = h a

pub same_or_fail : {A B : Type 0} (R : Runs) (e : ℕ) (o : Option A) (f g : A → Action B) → ((a : A) → Same R (f a) (g a)) → Same R (or_fail e o f) (or_fail e o g)
same_or_fail R e None f g h = same_self R _ (λ s. tt)
same_or_fail R e (Some a) f g h = h a

-- ---- units

paid_shrinks : (n : ℕ) (b : Bool) (s : State) → Shrinks s.units (paid n b s)
paid_shrinks n true s = omega arith
paid_shrinks n false s = tt

pub same_spend : (R : Runs) (n : ℕ) → Same R (spend n) (spend n)
same_spend R n = same_self R (spend n) (λ s. paid_shrinks n (nat_le n s.units) s)

-- a unit is taken
abbrev pub Drops : {A : Type 0} → ℕ → Outcome A → Type 0
Drops n (ok a s) = suc s.units ≤ n
Drops n (failed e) = Unit {0}
Drops n limit = Unit {0}
Drops n ill = Unit {0}

abbrev pub Ticks : {A : Type 0} → Runs → Action A → Action A → Type 0
Ticks R p q = (s : State) → suc s.units ≤ R.units → Alike R.Free (p s) (q s) × Drops s.units (p s)

drops_shrinks : {A : Type 0} (n : ℕ) (o : Outcome A) → Drops n o → Shrinks n o
drops_shrinks n (ok a s) h = omega arith
drops_shrinks n (failed e) h = tt
drops_shrinks n limit h = tt
drops_shrinks n ill h = tt

drops_more : {A : Type 0} (m n : ℕ) (o : Outcome A) → suc m ≤ n → Shrinks m o → Drops n o
drops_more m n (ok a s) h k = omega arith
drops_more m n (failed e) h k = tt
drops_more m n limit h k = tt
drops_more m n ill h k = tt

pub same_ticks : {A : Type 0} (R : Runs) (p q : Action A) → Ticks R p q → Same R p q
same_ticks R p q h = λ s low. let x = h s low in (x.0, drops_shrinks s.units (p s) x.1)

paid_drops : (b : Bool) (s : State) → nat_le 1 s.units ≡ b → Drops s.units (paid 1 b s)
paid_drops true s h = grind (arith, h)
paid_drops false s h = tt

pub ticks_tick : (R : Runs) → Ticks R tick tick
ticks_tick R = λ s low. ((λ w. refl), paid_drops (nat_le 1 s.units) s refl)

bind_drops : {A B : Type 0} (R : Runs) (n : ℕ) (o : Outcome A) (f g : A → Action B) → suc n ≤ R.units → Drops n o → ((a : A) → Same (a_unit_less R) (f a) (g a))
    → Alike R.Free (bind o f) (bind o g) × Drops n (bind o f)
bind_drops R n (ok a s) f g h k l = let x = l a s (omega arith) in (x.0, drops_more s.units n (f a s) k x.1)
bind_drops R n (failed e) f g h k l = ((λ w. refl), tt)
bind_drops R n limit f g h k l = ((λ w. refl), tt)
bind_drops R n ill f g h k l = ((λ w. refl), tt)

-- then fewer units are left
pub ticks_bind : {A B : Type 0} (R : Runs) (p q : Action A) (f g : A → Action B) → Ticks R p q → ((a : A) → Same (a_unit_less R) (f a) (g a)) → Ticks R (p >>= f) (q >>= g)
ticks_bind R p q f g h k = λ s low.
    let x = h s low in let y = bind_drops R s.units (p s) f g low x.1 k in (alike_bind R.Free (p s) (q s) f g x.0 y.0, y.1)

-- ---- what is done to a place

node_units : (g : ℕ → Row → Row) (l i : ℕ) (o : Option Found) (s : State) → (in_node g l i o s).units ≤ s.units
node_units g l i None s = self_units s.units
node_units g l i (Some f) s = self_units s.units

entry_units : (g : ℕ → Row → Row) (l : ℕ) (o : Option ℕ) (s : State) → (in_entry g l o s).units ≤ s.units
entry_units g l None s = self_units s.units
entry_units g l (Some i) s = node_units g l i (at l s) s

pub units_changed : (g : ℕ → Row → Row) (x : Location) (s : State) → (changed_at g x s).units ≤ s.units
units_changed g (variable x) s = self_units s.units
units_changed g (receiver l) s = self_units s.units
units_changed g (contract id) s = self_units s.units
units_changed g (stored a n) s = self_units s.units
units_changed g (part l i) s = node_units g l i (at l s) s
units_changed g (element l (pos i)) s = node_units g l i (at l s) s
units_changed g (element l (negsuc i)) s = self_units s.units
units_changed g (entry l key) s = entry_units g l (key_position key (keys_of (at l s))) s
