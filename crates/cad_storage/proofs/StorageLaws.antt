-- What is done with what an account stores, in steps.
use Rattle.std.proofs.Common.{◌≡◌, ℕ, ◌-◌, Bool, true, false, not, Option, Some, None, refl, sym, ap, ◌∙◌, arith}
use Rattle.std.proofs.lemmas.Bool.{false≢true}
use Rattle.std.specs.Option.{is_some}
use Rattle.std.specs.Prelude.{Result, nat_le}
use Rattle.cad_evaluation.specs.Arguments.{with_argument, with_identifier}
use Rattle.cad_evaluation.specs.Reading.{copied}
use Rattle.cad_evaluation.specs.Storage.{borrowed_as, copy_of, loaded, saved}
use Rattle.cad_outcomes.specs.Outcomes.{Does, Stops}
use Rattle.cad_outcomes.specs.declared.stop.Stop.{Stop}
use Rattle.cad_rows.specs.Places.{bare_in}
use Rattle.cad_state.proofs.Spending.{spends}
use Rattle.cad_storage.proofs.Steps.{goes_on, ends}
use Rattle.cad_storage.proofs.TypeLaws.{of_type_same, typed_by_test}
use Rattle.cad_storage.specs.Code.{at_stored, copied_if, copyable, of_full, paid_and_copied, paid_and_stored, paid_and_taken, paid_of, referred, slot_parts, taken, there_as, typed, vacant}
use Rattle.cad_syntax.specs.Types.{PureType, reference}
use Rattle.cad_syntax.specs.declared.address.Address.{Address}
use Rattle.cad_syntax.specs.declared.text.Name.{Name}
use Rattle.cad_syntax.specs.declared.types.Authorization.{Authorization}
use Rattle.cad_evaluation.specs.Storage.{without}
use Rattle.cad_world.specs.Labels.{stored_slot, with_account}
use Rattle.cad_world.specs.Rows.{Tree, Slot, out, free, full, bare_tree, tree_owns}
use Rattle.cad_world.specs.State.{State, Outcome, ok, failed, limit, ill, bind, paid, Action, ◌>>=◌, done, give, guard, choose, spend, with_some}
use Rattle.cad_world.specs.Trees.{nil_tree, tree_weight, wrapped}

-- ---- of a type

-- what is done with the value that stands there
typed_so : (type : PureType) (q : Tree → Action Tree) (a : Address) (n : Name) (slot : Slot) (s : State) → slot ≡ stored_slot s a.0 n
    → typed type q slot s ≡ typed type (λ t. at_stored (of_full q) a n) slot s
typed_so type q a n (full t) s e = of_type_same type t (q t) (at_stored (of_full q) a n) s (ap (λ (x : Slot). of_full q x s) e)
typed_so type q a n out s e = refl
typed_so type q a n free s e = refl

pub typed_by_steps : (type : PureType) (q : Tree → Action Tree) (a : Address) (n : Name) (s : State)
    → at_stored (typed type q) a n s ≡ (at_stored (there_as type) a n >>= (λ x. choose x (at_stored (of_full q) a n) (give nil_tree))) s
typed_by_steps type q a n s =
    typed_so type q a n (stored_slot s a.0 n) s refl ∙ typed_by_test type (at_stored (of_full q) a n) (stored_slot s a.0 n) s

pub loaded_so : (type : PureType) (a : Address) (n : Name) (slot : Slot) (s : State) → loaded a n type slot s ≡ typed type (paid_and_taken a n) slot s
loaded_so type a n (full t) s = refl
loaded_so type a n out s = refl
loaded_so type a n free s = refl

pub copy_so : (type : PureType) (slot : Slot) (s : State) → copy_of type slot s ≡ typed type copied_if slot s
copy_so type (full t) s = refl
copy_so type out s = refl
copy_so type free s = refl

pub borrowed_so : (a : Address) (n : Name) (own : Authorization) (type : PureType) (slot : Slot) (s : State) → borrowed_as a n (reference own type) slot s ≡ typed type (referred a n own type) slot s
borrowed_so a n own type (full t) s = refl
borrowed_so a n own type out s = refl
borrowed_so a n own type free s = refl

-- something stands there, which is of the type
pub is_there_so : {D : Type 0} (view : D → Tree) (m p : Action Tree) (type : PureType) (a : Address) (n : Name) (x : Bool) (s t u : State) (r : Result D Stop) → x ≡ true
    → m s ≡ (at_stored (there_as type) a n >>= (λ x. choose x p (give nil_tree))) s
    → at_stored (there_as type) a n s ≡ ok x t → Does view p t u r → Does view m s u r
is_there_so view m p type a n true s t u r is law first second = goes_on (λ x. x) view m (at_stored (there_as type) a n) (λ x. choose x p (give nil_tree)) true s t u r law first second
is_there_so view m p type a n false s t u r is law first second = absurd (false≢true is)

pub there_stops : (m p : Action Tree) (type : PureType) (a : Address) (n : Name) (s : State) (stop : Stop)
    → m s ≡ (at_stored (there_as type) a n >>= (λ x. choose x p (give nil_tree))) s → Stops (at_stored (there_as type) a n s) stop → Stops (m s) stop
there_stops m p type a n s stop law h = ends m (at_stored (there_as type) a n) (λ x. choose x p (give nil_tree)) s stop law h

-- ---- units

-- what is paid leaves the accounts as they are
paid_full : (q : Tree → Action Tree) (a : Address) (n : Name) (t : Tree) (k : ℕ) (b : Bool) (s : State) → full t ≡ stored_slot s a.0 n
    → bind (paid k b s) (λ _. q t) ≡ bind (paid k b s) (λ _. at_stored (of_full q) a n)
paid_full q a n t k true s e = ap (λ (x : Slot). of_full q x (record s { units = s.units - k })) e
paid_full q a n t k false s e = refl

-- what isn't there isn't paid
unpaid : (q : Tree → Action Tree) (a : Address) (n : Name) (slot : Slot) (s : State) → slot ≡ stored_slot s a.0 n → of_full q slot (record s { units = s.units - 0 }) ≡ ill
    → ill ≡ bind (spend 0 s) (λ _. at_stored (of_full q) a n)
unpaid q a n slot s e h =
    sym h ∙ ap (λ (x : Slot). of_full q x (record s { units = s.units - 0 })) e ∙ sym (ap (λ (o : Outcome (Unit {0})). bind o (λ _. at_stored (of_full q) a n)) (spends 0 s (omega arith)))

paid_so : (q : Tree → Action Tree) (a : Address) (n : Name) (slot : Slot) (s : State) → slot ≡ stored_slot s a.0 n
    → of_full (paid_of q) slot s ≡ bind (spend (slot_parts slot) s) (λ _. at_stored (of_full q) a n)
paid_so q a n (full t) s e = paid_full q a n t (tree_weight t - 1) (nat_le (tree_weight t - 1) s.units) s e
paid_so q a n out s e = unpaid q a n out s e refl
paid_so q a n free s e = unpaid q a n free s e refl

pub paid_by_steps : (q : Tree → Action Tree) (a : Address) (n : Name) (s : State)
    → at_stored (of_full (paid_of q)) a n s ≡ (at_stored (λ slot. spend (slot_parts slot)) a n >>= (λ _. at_stored (of_full q) a n)) s
paid_by_steps q a n s = paid_so q a n (stored_slot s a.0 n) s refl

-- ---- copies

copied_full : (a : Address) (n : Name) (t : Tree) (b : Bool) (s : State) → full t ≡ stored_slot s a.0 n
    → bind (guard (not b) (give (bare_tree t)) s) (λ c. paid_of (λ _. give (wrapped c)) t) ≡ bind (guard (not b) done s) (λ _. at_stored (of_full paid_and_copied) a n)
copied_full a n t true s e = refl
copied_full a n t false s e = ap (λ (x : Slot). of_full paid_and_copied x s) e

copied_so : (a : Address) (n : Name) (slot : Slot) (s : State) → slot ≡ stored_slot s a.0 n
    → of_full copied_if slot s ≡ bind (copyable slot s) (λ _. at_stored (of_full paid_and_copied) a n)
copied_so a n (full t) s e = copied_full a n t (tree_owns t) s e
copied_so a n out s e = ap (λ (x : Slot). of_full paid_and_copied x s) e
copied_so a n free s e = ap (λ (x : Slot). of_full paid_and_copied x s) e

pub copied_by_steps : (a : Address) (n : Name) (s : State) → at_stored (of_full copied_if) a n s ≡ (at_stored copyable a n >>= (λ _. at_stored (of_full paid_and_copied) a n)) s
copied_by_steps a n s = copied_so a n (stored_slot s a.0 n) s refl

-- ---- what comes to storage

pub saved_by_steps : (a : Address) (n : Name) (t : Tree) (slot : Slot) (s : State) → saved a n t slot s ≡ (vacant slot >>= (λ _. paid_and_stored a n t)) s
saved_by_steps a n t (full old) s = refl
saved_by_steps a n t out s = refl
saved_by_steps a n t free s = refl

-- ---- arguments

-- the identifier is told before the value
pub named_first : (o : Option Tree) (i : Option Name) (n : Name) (f : Name → Tree → Action Tree) (s : State) → Some n ≡ i
    → with_some o (λ t. with_some i (λ n. f n t)) s ≡ with_some o (f n) s
named_first None i n f s e = refl
named_first (Some t) i n f s e = ap (λ (x : Option Name). with_some x (λ n. f n t) s) (sym e)
