-- Cases of enums by their numbers.
use Rattle.std.proofs.Common.{◌≡◌, ◌<◌, ◌≤◌, ◌↔◌, ℕ, zero, suc, Bool, true, false, cond, ◌&&◌, not, ◌==◌, nat_lt, ℤ, pos, negsuc, Option, Some, None, IsSome, IfSome, option_map, length, refl, sym, ap, ◌∙◌, true≢false}
use Rattle.std.proofs.lemmas.Bool.{lt-ltb, le-ltb}
use Rattle.cad_syntax.specs.Kinds.{in_range, is_kept, signed}
use Rattle.cad_syntax.specs.declared.kind.Kind.{Kind}
use Rattle.cad_syntax.specs.declared.num.Num.{Num}
use Rattle.cad_num.specs.Numbers.{value_of}
use Rattle.cad_declarations.specs.Tables.{TypeEntry}
use Rattle.cad_world.specs.Trees.{wrapped, nil_tree}
use Rattle.cad_evaluation.specs.Making.{case_of, case_at}
use Rattle.cad_evaluation.specs.Numbers.{number_of, kept_number}
use Rattle.cad_operators.proofs.Kept.{number_as}
use Rattle.cad_making.specs.Code.Cases.{case_by, number_below}

not_kept : (k : Kind) (m : ℕ) (b : Bool) (p : is_kept k false m ≡ b) → b ≡ false → kept_number k false m b p ≡ None
not_kept k m true p e = absurd (true≢false e)
not_kept k m false p e = refl

pub made : (k : Kind) (m : ℕ) (r : Option Num) → (IsSome r ↔ (in_range k false m ≡ true)) → IfSome r (λ n. n.kind ≡ k) → IfSome r (λ n. n.negative ≡ (false && not (m == 0))) → IfSome r (λ n. n.magnitude ≡ m) → r ≡ number_of k false m
made k m (Some n) is kind negative magnitude = sym (number_as k false m n kind negative magnitude)
made k m None is kind negative magnitude = sym (not_kept k m (is_kept k false m) (λ i. is_kept k false m) (go (in_range k false m) refl))
  where
    go : (b : Bool) → in_range k false m ≡ b → in_range k false m ≡ false
    go true e = absurd (true≢false (sym (is.1 e)))
    go false e = e

pub case_there : (entry : TypeEntry) (z : ℤ) → case_by entry (number_below (length entry.cases) z) ≡ case_at entry z
case_there entry (pos n) = go (nat_lt n (length entry.cases))
  where
    go : (b : Bool) → case_by entry (cond b (Some n) None) ≡ cond b (option_map wrapped (case_of entry n)) (Some nil_tree)
    go true = refl
    go false = refl
case_there entry (negsuc n) = refl

pub number_there : (count : ℕ) (x : Num) → x.negative ≡ false → x.magnitude < count → Some x.magnitude ≡ number_below count (value_of x)
number_there count x plus less = sym (ap (λ b. number_below count (signed b x.magnitude)) plus ∙ ap (λ b. cond b (Some x.magnitude) None) (lt-ltb x.magnitude count less))

pub too_great : (count : ℕ) (x : Num) → x.negative ≡ false → count ≤ x.magnitude → None ≡ number_below count (value_of x)
too_great count x plus more = sym (ap (λ b. number_below count (signed b x.magnitude)) plus ∙ ap (λ b. cond b (Some x.magnitude) None) (le-ltb x.magnitude count more))

pub below_none : (count : ℕ) (x : Num) → x.negative ≡ true → None ≡ number_below count (value_of x)
below_none count x minus = go x.magnitude (ap (λ b. is_kept x.kind b x.magnitude) (sym minus) ∙ x.kept) ∙ sym (ap (λ b. number_below count (signed b x.magnitude)) minus)
  where
    go : (m : ℕ) → is_kept x.kind true m ≡ true → None ≡ number_below count (signed true m)
    go zero e = absurd (true≢false (sym e))
    go (suc m) e = refl
