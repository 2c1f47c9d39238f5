-- Forms over actions that keep labels apart, and values in hand without labels.
use Rattle.cad_labels.proofs.Keeping.{stays}
use Rattle.std.proofs.Common.{◌≡◌, ℕ, zero, nat_le, Bool, true, false, List, Option, Some, None, option_map, refl, sym, ◌∙◌, arith}
use Rattle.cad_world.specs.Rows.{NodeShape, array, Row, stop, node, Tree, Slot, out, free, full, slot, first, put, add_last, join, back, empty_places}
use Rattle.cad_world.specs.State.{Action, give, fail, stuck, done, guard, require, choose, by_truth, with_some, or_fail, spend}
use Rattle.cad_evaluation.specs.Arguments.{in_slot, argument}
use Rattle.cad_evaluation.specs.Containers.{elements_in_shape, elements_in}
use Rattle.cad_evaluation.specs.Texts.{optional_tree}
use Rattle.cad_labels.specs.Laws.{HasNone, HasNoneInRow, Keeps, AnyOne}
use Rattle.cad_labels.proofs.Marks.{mark, marks_mark, slot_mark, mark_slot, mark_put, mark_last, mark_join, mark_back, mark_empty}
use Rattle.cad_labels.proofs.Places.{paid_keeps}

-- ---- forms

pub keeps_give : {A : Type 0} (P : A → Type 0) (a : A) → P a → Keeps P (give a)
keeps_give P a h = λ s once. (h, stays s once)

pub keeps_done : Keeps AnyOne done
keeps_done = λ s once. (tt, stays s once)

pub keeps_fail : {A : Type 0} (P : A → Type 0) (e : ℕ) → Keeps P (fail e)
keeps_fail P e = λ s once. tt

pub keeps_stuck : {A : Type 0} (P : A → Type 0) → Keeps P stuck
keeps_stuck P = λ s once. tt

pub keeps_guard : {A : Type 0} (P : A → Type 0) (b : Bool) (p : Action A) → Keeps P p → Keeps P (guard b p)
keeps_guard P true p h = h
keeps_guard P false p h = λ s once. tt

pub keeps_require : {A : Type 0} (P : A → Type 0) (e : ℕ) (b : Bool) (p : Action A) → Keeps P p → Keeps P (require e b p)
keeps_require P e true p h = h
keeps_require P e false p h = λ s once. tt

pub keeps_choose : {A : Type 0} (P : A → Type 0) (b : Bool) (p q : Action A) → Keeps P p → Keeps P q → Keeps P (choose b p q)
keeps_choose P true p q h k = h
keeps_choose P false p q h k = k

pub keeps_by_truth : {A : Type 0} (P : A → Type 0) (o : Option Bool) (p q : Action A) → Keeps P p → Keeps P q → Keeps P (by_truth o p q)
keeps_by_truth P (Some true) p q h k = h
keeps_by_truth P (Some false) p q h k = k
keeps_by_truth P None p q h k = λ s once. tt

pub keeps_some : {A B : Type 0} (P : B → Type 0) (o : Option A) (f : A → Action B) → ((a : A) → Keeps P (f a)) → Keeps P (with_some o f)
keeps_some P None f h = λ s once. tt
keeps_some P (Some a) f h = h a

pub keeps_or_fail : {A B : Type 0} (P : B → Type 0) (e : ℕ) (o : Option A) (f : A → Action B) → ((a : A) → Keeps P (f a)) → Keeps P (or_fail e o f)
keeps_or_fail P e None f h = λ s once. tt
keeps_or_fail P e (Some a) f h = h a

pub keeps_spend : (n : ℕ) → Keeps AnyOne (spend n)
keeps_spend n = λ s once. paid_keeps n (nat_le n s.units) s once

-- ---- what may be there

-- what is there has the property
abbrev pub Within : {A : Type 0} → (A → Type 0) → Option A → Type 0
Within P None = Unit {0}
Within P (Some a) = P a

pub keeps_within : {A B : Type 0} (P : A → Type 0) (Q : B → Type 0) (o : Option A) (f : A → Action B) → Within P o → ((a : A) → P a → Keeps Q (f a)) → Keeps Q (with_some o f)
keeps_within P Q None f h k = λ s once. tt
keeps_within P Q (Some a) f h k = k a h

pub mapped_within : {A B : Type 0} (P : B → Type 0) (f : A → B) (o : Option A) → ((a : A) → P (f a)) → Within P (option_map f o)
mapped_within P f None h = tt
mapped_within P f (Some a) h = h a

pub within_less : {A : Type 0} (P Q : A → Type 0) (o : Option A) → ((a : A) → P a → Q a) → Within P o → Within Q o
within_less P Q None h k = tt
within_less P Q (Some a) h k = h a k

-- ---- rows without labels

pub no_mark_in : (r : Row) → HasNoneInRow r → (p : ℕ) → mark p r ≡ 0
no_mark_in r none p = sym (marks_mark p r) ∙ none p

pub row_none : (r : Row) → ((p : ℕ) → mark p r ≡ 0) → HasNoneInRow r
row_none r h p = marks_mark p r ∙ h p

pub stop_none : HasNoneInRow stop
stop_none p = refl

pub first_none : (t : Tree) (r : Row) → HasNone t → HasNoneInRow r → HasNoneInRow (first t r)
first_none t r h k = row_none (first t r) (λ p. omega (arith, no_mark_in t.parts h p, no_mark_in r k p))

pub put_none : (i : ℕ) (t : Tree) (r : Row) → HasNone t → HasNoneInRow r → HasNoneInRow (put i t r)
put_none i t r h k = row_none (put i t r) (λ p. omega (arith, mark_put p i t r, no_mark_in t.parts h p, no_mark_in r k p))

pub last_none : (t : Tree) (r : Row) → HasNone t → HasNoneInRow r → HasNoneInRow (add_last t r)
last_none t r h k = row_none (add_last t r) (λ p. omega (arith, mark_last p t r, no_mark_in t.parts h p, no_mark_in r k p))

pub join_none : (r q : Row) → HasNoneInRow r → HasNoneInRow q → HasNoneInRow (join r q)
join_none r q h k = row_none (join r q) (λ p. omega (arith, mark_join p r q, no_mark_in r h p, no_mark_in q k p))

pub back_none : (i : ℕ) (r : Row) → HasNoneInRow r → HasNoneInRow (back i r)
back_none i r h = row_none (back i r) (λ p. omega (arith, mark_back p i r, no_mark_in r h p))

pub empty_none : (n : ℕ) → HasNoneInRow (empty_places n)
empty_none n = row_none (empty_places n) (λ p. mark_empty p n)

-- a node of a row, and the row behind it
pub node_none : (l : List ℕ) (n : ℕ) (s : NodeShape) (k r : Row) → HasNoneInRow (node l n s k r) → HasNoneInRow k
node_none l n s k r h = row_none k (λ p. omega (arith, no_mark_in (node l n s k r) h p))

pub rest_none : (l : List ℕ) (n : ℕ) (s : NodeShape) (k r : Row) → HasNoneInRow (node l n s k r) → HasNoneInRow r
rest_none l n s k r h = row_none r (λ p. omega (arith, no_mark_in (node l n s k r) h p))

-- ---- values without labels

in_slot_none : (o : Slot) → ((p : ℕ) → slot_mark p o ≡ 0) → Within HasNone (in_slot o)
in_slot_none out h = tt
in_slot_none free h = tt
in_slot_none (full t) h = row_none t.parts h

-- an argument
pub argument_none : (i : ℕ) (r : Row) → HasNoneInRow r → Within HasNone (argument i r)
argument_none i r none = in_slot_none (slot i r) (λ p. omega (arith, mark_slot p i r, no_mark_in r none p))

elements_none_in : (n : ℕ) (shape : NodeShape) (r : Row) → HasNoneInRow r → Within HasNoneInRow (elements_in_shape n shape r)
elements_none_in zero (array t) r h = h
elements_none_in n shape r h = tt

-- the elements of an array
pub elements_none : (t : Tree) → HasNone t → Within HasNoneInRow (elements_in t)
elements_none t h = elements_none_in t.optionals t.shape t.parts h

pub optional_none : (o : Option Tree) → Within HasNone o → HasNone (optional_tree o)
optional_none None h = λ p. refl
optional_none (Some t) h = h
