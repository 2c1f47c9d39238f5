-- Numbers with the same kind, sign and magnitude are one.
use Rattle.std.proofs.Common.{◌≡◌, ℕ, Bool, true, ap, subst}
use Rattle.std.proofs.Math.Bool.{Bool-set}
use Rattle.cad_syntax.specs.declared.kind.Kind.{Kind}
use Rattle.cad_syntax.specs.declared.num.Num.{Num}
use Rattle.cad_syntax.specs.Kinds.{is_kept}

abbrev pub num_of : (k : Kind) (s : Bool) (m : ℕ) → is_kept k s m ≡ true → Num
num_of k s m kept = record { kind = k; negative = s; magnitude = m; kept = kept }

pub same_fields : (k j : Kind) (s t : Bool) (m o : ℕ) → k ≡ j → s ≡ t → m ≡ o → (p : is_kept k s m ≡ true) (q : is_kept j t o ≡ true) → num_of k s m p ≡ num_of j t o q
same_fields k j s t m o kk ss mm =
    subst (λ x. (p : is_kept k s m ≡ true) (q : is_kept x t o ≡ true) → num_of k s m p ≡ num_of x t o q) kk
    (subst (λ x. (p : is_kept k s m ≡ true) (q : is_kept k x o ≡ true) → num_of k s m p ≡ num_of k x o q) ss
    (subst (λ (x : ℕ). (p : is_kept k s m ≡ true) (q : is_kept k s x ≡ true) → num_of k s m p ≡ num_of k s x q) mm
    (λ p q. ap (λ r. num_of k s m r) (Bool-set (is_kept k s m) true p q))))

pub same_num : (a b : Num) → a.kind ≡ b.kind → a.negative ≡ b.negative → a.magnitude ≡ b.magnitude → a ≡ b
same_num a b kind sign magnitude = same_fields a.kind b.kind a.negative b.negative a.magnitude b.magnitude kind sign magnitude a.kept b.kept
