-- What keeps labels apart: the monad, and the places of a state.
use Rattle.std.proofs.Common.{◌≡◌, ℕ, zero, suc, ◌+◌, ◌≤◌, ◌==◌, nat_lt, Bool, true, false, cond, if◌then◌else◌, List, [], ◌∷◌, Option, Some, None, refl, sym, ap, subst, arith, pos, negsuc}
use Rattle.cad_syntax.specs.TypeIds.{same_id}
use Rattle.cad_syntax.specs.declared.text.Name.{Name}
use Rattle.cad_syntax.specs.declared.type_id.TypeId.{TypeId}
use Rattle.cad_world.specs.Labels.{at, on_newest, change_account, at_position, on_stored, position_of, change_value}
use Rattle.cad_world.specs.Locations.{Location, variable, contract, stored, receiver, part, element, entry, key_position, keys_of, in_node, in_entry, changed_at}
use Rattle.cad_world.specs.Marks.{labels, AreGivenOnce}
use Rattle.cad_world.specs.Rows.{Row, Found}
use Rattle.cad_world.specs.State.{Account, Contract, Frame, State, Outcome, ok, failed, limit, ill, bind, Action, ◌>>=◌, guard, require, choose, with_some, or_fail}
use Rattle.cad_labels.specs.Laws.{Follows, Gives, Keeps}
use Rattle.cad_labels.proofs.Marks.{mark, found_mark, gained}
use Rattle.cad_labels.proofs.States.{frame_rows, account_rows, contract_rows, total, whole, labels_whole, node_changed}

-- ---- states that come behind another

-- the same labels
pub stays : (s : State) → AreGivenOnce s → Follows s s
stays s once = (once, omega arith, λ p l. omega arith)

pub behind : (s v w : State) → Follows s v → Follows v w → Follows s w
behind s v w h k = (k.0, omega (arith, h.1, k.1), λ p l. omega (arith, h.2 p l, k.2 p (omega (arith, l, h.1))))

-- ---- the monad

pub gives_follow : {A : Type 0} (P : A → Type 0) (s v : State) (o : Outcome A) → Follows s v → Gives P v o → Gives P s o
gives_follow P s v (ok a w) h k = (k.0, behind s v w h k.1)
gives_follow P s v (failed e) h k = tt
gives_follow P s v limit h k = tt
gives_follow P s v ill h k = tt

pub gives_bind : {A B : Type 0} (P : A → Type 0) (Q : B → Type 0) (s : State) (o : Outcome A) (f : A → Action B) → Gives P s o → ((a : A) → P a → Keeps Q (f a)) → Gives Q s (bind o f)
gives_bind P Q s (ok a v) f h k = gives_follow Q s v (f a v) h.1 (k a h.0 v h.1.0)
gives_bind P Q s (failed e) f h k = tt
gives_bind P Q s limit f h k = tt
gives_bind P Q s ill f h k = tt

pub keeps_bind : {A B : Type 0} (P : A → Type 0) (Q : B → Type 0) (p : Action A) (f : A → Action B) → Keeps P p → ((a : A) → P a → Keeps Q (f a)) → Keeps Q (p >>= f)
keeps_bind P Q p f h k = λ s once. gives_bind P Q s (p s) f (h s once) k

pub gives_guard : {A : Type 0} (P : A → Type 0) (b : Bool) (p : Action A) (s : State) → Gives P s (p s) → Gives P s (guard b p s)
gives_guard P true p s h = h
gives_guard P false p s h = tt

pub gives_require : {A : Type 0} (P : A → Type 0) (e : ℕ) (b : Bool) (p : Action A) (s : State) → Gives P s (p s) → Gives P s (require e b p s)
gives_require P e true p s h = h
gives_require P e false p s h = tt

pub gives_choose : {A : Type 0} (P : A → Type 0) (b : Bool) (p q : Action A) (s : State) → Gives P s (p s) → Gives P s (q s) → Gives P s (choose b p q s)
gives_choose P true p q s h k = h
gives_choose P false p q s h k = k

pub gives_some : {A B : Type 0} (P : B → Type 0) (o : Option A) (f : A → Action B) (s : State) → ((a : A) → o ≡ Some a → Gives P s (f a s)) → Gives P s (with_some o f s)
gives_some P None f s h = tt
gives_some P (Some a) f s h = h a refl

pub gives_or_fail : {A B : Type 0} (P : B → Type 0) (e : ℕ) (o : Option A) (f : A → Action B) (s : State) → ((a : A) → o ≡ Some a → Gives P s (f a s)) → Gives P s (or_fail e o f s)
gives_or_fail P e None f s h = tt
gives_or_fail P e (Some a) f s h = h a refl

-- ---- counts

once_if : (b : Bool) (n : ℕ) → n ≤ (if b then 1 else 0) → n ≤ 1
once_if true n h = h
once_if false n h = omega arith

-- a label stands once at most
pub stands_once : (s : State) → AreGivenOnce s → (p : ℕ) → whole p s ≤ 1
stands_once s once p = omega (arith, labels_whole p s, once_if (nat_lt p s.next_label) (labels p s) (once p))

if_more : (m n : ℕ) (b : Bool) → m ≤ n → n ≤ (if b then 1 else 0) → m ≤ (if b then 1 else 0)
if_more m n true h k = omega arith
if_more m n false h k = omega arith

-- no label more
pub fewer_stand : (s s' : State) → s'.next_label ≡ s.next_label → ((p : ℕ) → whole p s' ≤ whole p s) → AreGivenOnce s → Follows s s'
fewer_stand s s' e h once = (
  (λ p. subst (λ (n : ℕ). labels p s' ≤ (if nat_lt p n then 1 else 0)) (sym e)
      (if_more (labels p s') (labels p s) (nat_lt p s.next_label) (omega (arith, h p, labels_whole p s, labels_whole p s')) (once p))),
  omega (arith, e),
  λ p l. omega (arith, h p, labels_whole p s, labels_whole p s'),
)

next_once : (p n m : ℕ) (a b c : Bool) → (n == p) ≡ a → nat_lt p n ≡ b → nat_lt p (suc n) ≡ c → m ≤ (if b then 1 else 0) + cond a 1 0 → m ≤ (if c then 1 else 0)
next_once p n m a true true e f g h = go a e h
  where
    go : (a : Bool) → (n == p) ≡ a → m ≤ 1 + cond a 1 0 → m ≤ 1
    go false e h = omega arith
    go true e h = absurd (grind (arith, e, f))
next_once p n m true false true e f g h = omega arith
next_once p n m false false true e f g h = omega arith
next_once p n m true b false e f g h = absurd (grind (arith, e, g))
next_once p n m false true false e f g h = absurd (grind (arith, f, g))
next_once p n m false false false e f g h = omega arith

-- the next label stood nowhere
not_next : (p n m l : ℕ) → suc p ≤ n → m ≤ l + cond (n == p) 1 0 → m ≤ l
not_next p n m l low h = go (n == p) refl h
  where
    go : (b : Bool) → (n == p) ≡ b → m ≤ l + cond b 1 0 → m ≤ l
    go true e h = absurd (grind (arith, e, low))
    go false e h = omega arith

-- the next label once more
pub next_stands : (s s' : State) → s'.next_label ≡ suc s.next_label → ((p : ℕ) → whole p s' ≤ whole p s + cond (s.next_label == p) 1 0) → AreGivenOnce s → Follows s s'
next_stands s s' e h once = (
  (λ p. subst (λ (n : ℕ). labels p s' ≤ (if nat_lt p n then 1 else 0)) (sym e)
      (next_once p s.next_label (labels p s') (s.next_label == p) (nat_lt p s.next_label) (nat_lt p (suc s.next_label)) refl refl refl
      (add_more (labels p s') (labels p s) (cond (s.next_label == p) 1 0) (nat_lt p s.next_label) (more p) (once p)))),
  omega (arith, e),
  λ p l. not_next p s.next_label (labels p s') (labels p s) l (more p),
)
  where
    more : (p : ℕ) → labels p s' ≤ labels p s + cond (s.next_label == p) 1 0
    more p = omega (arith, h p, labels_whole p s, labels_whole p s')

    add_more : (m n d : ℕ) (b : Bool) → m ≤ n + d → n ≤ (if b then 1 else 0) → m ≤ (if b then 1 else 0) + d
    add_more m n d true h k = omega arith
    add_more m n d false h k = omega arith

-- ---- what is done at a place: its row has at most d more

module _ (p d : ℕ) (g : ℕ → Row → Row) (more : (i : ℕ) (r : Row) → mark p (g i r) ≤ mark p r + d) where
  frames_placed : (x : ℕ) (fs : List Frame) → total p (frame_rows (on_newest (λ f. record f { variables = g x f.variables }) fs)) ≤ total p (frame_rows fs) + d
  frames_placed x [] = omega arith
  frames_placed x (f ∷ fs) = omega (arith, more x f.variables)

  position_placed : (o : Option ℕ) (r : Row) → mark p (at_position g o r) ≤ mark p r + d
  position_placed None r = omega arith
  position_placed (Some i) r = more i r

  accounts_placed : (a : ℕ) (n : Name) (all : List Account) → total p (account_rows (change_account a (on_stored g n) all)) ≤ total p (account_rows all) + d
  accounts_placed zero n all = omega arith
  accounts_placed (suc zero) n [] = omega arith
  accounts_placed (suc (suc a)) n [] = omega arith
  accounts_placed (suc zero) n (x ∷ all) = omega (arith, position_placed (position_of n x.identifiers) x.stored)
  accounts_placed (suc (suc a)) n (x ∷ all) = omega (arith, accounts_placed (suc a) n all)

  contracts_placed : (id : TypeId) (all : List Contract) → total p (contract_rows (change_value id (g 0) all)) ≤ total p (contract_rows all) + d
  contracts_placed id [] = omega arith
  contracts_placed id (c ∷ all) = go (same_id c.id id) (contracts_placed id all)
    where
      go : (b : Bool) → total p (contract_rows (change_value id (g 0) all)) ≤ total p (contract_rows all) + d
          → total p (contract_rows (if b then record c { value = g 0 c.value } ∷ all else c ∷ change_value id (g 0) all)) ≤ (mark p c.value + total p (contract_rows all)) + d
      go true i = omega (arith, more 0 c.value)
      go false i = omega (arith, i)

  node_placed : (l i : ℕ) (s : State) (o : Option Found) → at l s ≡ o → whole l s ≤ 1 → whole p (in_node g l i o s) ≤ whole p s + d
  node_placed l i s None e h = omega arith
  node_placed l i s (Some f) e h = omega (
    arith,
    node_changed l p f.tree.shape (g i f.tree.parts) s h,
    more i f.tree.parts,
    ap (found_mark p) e,
    ap (gained p (g i f.tree.parts)) e,
  )

  entry_placed : (l : ℕ) (s : State) (o : Option ℕ) → whole l s ≤ 1 → whole p (in_entry g l o s) ≤ whole p s + d
  entry_placed l s None h = omega arith
  entry_placed l s (Some i) h = node_placed l i s (at l s) refl h

  pub place_changed : (x : Location) (s : State) → ((l : ℕ) → whole l s ≤ 1) → whole p (changed_at g x s) ≤ whole p s + d
  place_changed (variable x) s h = omega (arith, frames_placed x s.frames)
  place_changed (receiver l) s h = omega arith
  place_changed (contract id) s h = omega (arith, contracts_placed id s.contracts)
  place_changed (stored a n) s h = omega (arith, accounts_placed a n s.accounts)
  place_changed (part l i) s h = node_placed l i s (at l s) refl (h l)
  place_changed (element l (pos i)) s h = node_placed l i s (at l s) refl (h l)
  place_changed (element l (negsuc i)) s h = omega arith
  place_changed (entry l k) s h = entry_placed l s (key_position k (keys_of (at l s))) (h l)

node_next : (g : ℕ → Row → Row) (l i : ℕ) (o : Option Found) (s : State) → (in_node g l i o s).next_label ≡ s.next_label
node_next g l i None s = refl
node_next g l i (Some f) s = refl

entry_next : (g : ℕ → Row → Row) (l : ℕ) (o : Option ℕ) (s : State) → (in_entry g l o s).next_label ≡ s.next_label
entry_next g l None s = refl
entry_next g l (Some i) s = node_next g l i (at l s) s

-- no label is drawn
pub place_next : (g : ℕ → Row → Row) (x : Location) (s : State) → (changed_at g x s).next_label ≡ s.next_label
place_next g (variable x) s = refl
place_next g (receiver l) s = refl
place_next g (contract id) s = refl
place_next g (stored a n) s = refl
place_next g (part l i) s = node_next g l i (at l s) s
place_next g (element l (pos i)) s = node_next g l i (at l s) s
place_next g (element l (negsuc i)) s = refl
place_next g (entry l k) s = entry_next g l (key_position k (keys_of (at l s))) s
