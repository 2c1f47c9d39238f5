-- A number is the one of its kind with its sign and magnitude, and with its integer.
use Rattle.std.proofs.Common.{◌≡◌, ℕ, zero, suc, Bool, true, false, ℤ, pos, Option, Some, None, Result, Ok, Err, IfOk, refl, ap, sym, subst, ◌∙◌, arith}
use Rattle.std.proofs.lemmas.Int.{ints}
use Rattle.std.proofs.lemmas.Bool.Decides.{nat_tests}
use Rattle.std.specs.Prelude.{IfSome, int_lt}
use Rattle.std.proofs.Math.Bool.{Bool-set}
use Rattle.cad_syntax.specs.declared.kind.Kind.{Kind}
use Rattle.cad_syntax.specs.declared.kind.Kind.TheVariants as k
use Rattle.cad_syntax.specs.declared.num.Num.{Num}
use Rattle.cad_syntax.specs.Kinds.{is_kept, signed}
use Rattle.cad_num.specs.Numbers.{value_of, valued}
use Rattle.cad_num.specs.declared.error.NumError.{NumError}
use Rattle.cad_world.specs.State.{State, Action, ok, give, guard, with_some}
use Rattle.cad_world.specs.Rows.{Tree}
use Rattle.cad_outcomes.specs.declared.stop.Stop.{Stop}
use Rattle.cad_outcomes.specs.Outcomes.{Gives}
use Rattle.cad_evaluation.specs.Numbers.{number_tree, kept_number, number_of, number_from, numbered}
use Rattle.cad_evaluation.specs.Texts.{given_int}

kept_by : (k : Kind) (s : Bool) (m : ℕ) (b : Bool) (p : is_kept k s m ≡ b) (e : b ≡ true) (kept : is_kept k s m ≡ true) → kept_number k s m b p ≡ Some (record { kind = k; negative = s; magnitude = m; kept = kept })
kept_by k s m true p e kept = ap (λ (q : is_kept k s m ≡ true). Some (record { kind = k; negative = s; magnitude = m; kept = q })) (Bool-set (is_kept k s m) true p kept)
kept_by k s m false p e kept = cc

kept_here : (k : Kind) (s : Bool) (m : ℕ) (kept : is_kept k s m ≡ true) → number_of k s m ≡ Some (record { kind = k; negative = s; magnitude = m; kept = kept })
kept_here k s m kept = kept_by k s m (is_kept k s m) (λ i. is_kept k s m) kept kept

pub number_is : (n : Num) → number_of n.kind n.negative n.magnitude ≡ Some n
number_is n = kept_here n.kind n.negative n.magnitude n.kept

pub number_as : (k : Kind) (s : Bool) (m : ℕ) (n : Num) → n.kind ≡ k → n.negative ≡ s → n.magnitude ≡ m → number_of k s m ≡ Some n
number_as k s m n e f g =
    ap (λ (j : Kind). number_of j s m) (sym e) ∙ ap (λ (t : Bool). number_of n.kind t m) (sym f) ∙ ap (λ (o : ℕ). number_of n.kind n.negative o) (sym g) ∙ number_is n

not_below : (m : ℕ) → int_lt (pos m) (pos 0) ≡ false
not_below m = first_of (grind (arith, ints), grind (arith, nat_tests))

from_kept : (k : Kind) (s : Bool) (m : ℕ) (kept : is_kept k s m ≡ true) → number_from k (signed s m) ≡ Some (record { kind = k; negative = s; magnitude = m; kept = kept })
from_kept k true zero kept = cc
from_kept k true (suc m) kept = kept_here k true (suc m) kept
from_kept k false m kept = ap (λ (s : Bool). number_of k s m) (not_below m) ∙ kept_here k false m kept

-- the integer of a number gives the number
pub from_value : (n : Num) → number_from n.kind (value_of n) ≡ Some n
from_value n = from_kept n.kind n.negative n.magnitude n.kept

pub from_value_as : (k : Kind) (n : Num) → n.kind ≡ k → number_from k (value_of n) ≡ Some n
from_value_as k n e = ap (λ (j : Kind). number_from j (value_of n)) (sym e) ∙ from_value n

pub numbered_is : (k : Kind) (n : Num) (t : Tree) (s : State) → n.kind ≡ k → t ≡ number_tree n → numbered k (Ok (value_of n)) s ≡ ok t s
numbered_is k n t s e f = rw (from_value_as k n e, f) refl

pub numbered_ok : (r : Result Num NumError) (x : Num) (t : Tree) → r ≡ Ok x → t ≡ number_tree x → (k : Kind) → IfOk r (λ n. n.kind ≡ k) → (s : State) → numbered k (valued r) s ≡ ok t s
numbered_ok (Ok y) x t e f k h s = let same : y ≡ x = cc in numbered_is k y t s h (f ∙ ap number_tree (sym same))
numbered_ok (Err y) x t e f k h s = cc

pub from_magnitude : (k : Kind) (m : ℕ) (n : Num) → value_of n ≡ pos m → n.kind ≡ k → number_of k false m ≡ Some n
from_magnitude k m n e f = sym (ap (λ (s : Bool). number_of k s m) (not_below m)) ∙ ap (number_from k) (sym e) ∙ from_value_as k n f

-- a number that has a known integer
pub from_integer : (k : Kind) (z : ℤ) (n : Num) → value_of n ≡ z → n.kind ≡ k → number_from k z ≡ Some n
from_integer k z n e f = ap (number_from k) (sym e) ∙ from_value_as k n f

pub given : (o : Option Num) (n : Num) (t : Tree) (s : State) → o ≡ Some n → t ≡ number_tree n → with_some o (λ x. give (number_tree x)) s ≡ ok t s
given o n t s e f = rw (e, f) refl

-- ---- actions that give what another gives

pub with_this : {A B C : Type 0} (view : C → B) (f : A → Action B) (o : Option A) (x : A) (p : Action B) (r : Result C Stop)
    → Some x ≡ o → p ≡ f x → Gives view p r → Gives view (with_some o f) r
with_this {A} {B} view f o x p r e q h =
    subst (λ (y : Option A). Gives view (with_some y f) r) e (subst (λ (g : Action B). Gives view g r) q h)

pub guarded : {B C : Type 0} (view : C → B) (b : Bool) (p q : Action B) (r : Result C Stop) → b ≡ true → q ≡ p → Gives view q r → Gives view (guard b p) r
guarded {B} view true p q r e f h = subst (λ (g : Action B). Gives view g r) f h
guarded {B} view false p q r e f h = cc

-- the Int of a count
pub counted : (n : ℕ) (x : Num) (t : Tree) → number_of k.Int false n ≡ Some x → t ≡ number_tree x → (s : State) → given_int n s ≡ ok t s
counted n x t e f s = rw (e, f) refl

-- ---- numbers that stand in no tree

pub number_alone : (r : Result Num NumError) (x : Num) → r ≡ Ok x → (k : Kind) → IfOk r (λ n. n.kind ≡ k) → (s : State) → numbered k (valued r) s ≡ ok (number_tree x) s
number_alone r x e = numbered_ok r x (number_tree x) e refl

pub guarded_number : (b : Bool) (p q : Action Tree) (o : Option Num) → b ≡ true → q ≡ p → IfSome o (λ n. Gives number_tree q (Ok n)) → IfSome o (λ n. Gives number_tree (guard b p) (Ok n))
guarded_number b p q None e f h = tt
guarded_number b p q (Some n) e f h = guarded number_tree b p q (Ok n) e f h
