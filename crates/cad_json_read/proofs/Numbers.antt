-- The number of a kind that means an integer.
use Rattle.std.proofs.Common.{◌≡◌, ◌≢◌, ℕ, zero, suc, List, Bool, true, false, Option, Some, None, option_map, ℤ, refl, sym, ap, ◌∙◌}
use Rattle.std.specs.Prelude.{IfSome}
use Rattle.std.proofs.Math.Bool.{Bool-set}
use Rattle.cad_syntax.specs.Kinds.{is_kept, signed}
use Rattle.cad_syntax.specs.declared.kind.Kind.{Kind}
use Rattle.cad_syntax.specs.declared.kind.Kind.TheVariants as k
use Rattle.cad_syntax.specs.declared.num.Num.{Num}
use Rattle.cad_num.specs.Decimal.{read_of}
use Rattle.cad_num.specs.Numbers.{value_of}
use Rattle.cad_json.specs.Words.{is_address}
use Rattle.cad_json_read.specs.Reading.{kept_num, num_at, number_of, ◌>>=◌}

abbrev the_num : (kind : Kind) (s : Bool) (m : ℕ) → is_kept kind s m ≡ true → Num
the_num kind s m kept = record { kind = kind; negative = s; magnitude = m; kept = kept }

kept_again : (kind : Kind) (s : Bool) (m : ℕ) (kept : is_kept kind s m ≡ true) (b : Bool) (e : is_kept kind s m ≡ b) → kept_num kind s m b e ≡ Some (the_num kind s m kept)
kept_again kind s m kept true e = ap (λ r. Some (the_num kind s m r)) (Bool-set (is_kept kind s m) true e kept)
kept_again kind s m kept false e = let wrong : true ≡ false = sym kept ∙ e in absurd cc

again_at : (kind : Kind) (s : Bool) (m : ℕ) (kept : is_kept kind s m ≡ true) → num_at kind (signed s m) ≡ Some (the_num kind s m kept)
again_at kind false m kept = kept_again kind false m kept (is_kept kind false m) refl
again_at kind true zero kept = let wrong : false ≡ true = kept in absurd cc
again_at kind true (suc m) kept = kept_again kind true (suc m) kept (is_kept kind true (suc m)) refl

pub num_again : (n : Num) → num_at n.kind (value_of n) ≡ Some n
num_again n = again_at n.kind n.negative n.magnitude n.kept

pub not_address : (kind : Kind) → kind ≢ k.Address → is_address kind ≡ false
not_address k.Address h = absurd (h refl)
not_address _ h = refl

decimal_at : (kind : Kind) (o : Option Num) → IfSome o (λ n. n.kind ≡ kind) → o ≡ (option_map value_of o >>= num_at kind)
decimal_at kind None same = refl
decimal_at kind (Some n) same = sym (num_again n) ∙ ap (λ (x : Kind). num_at x (value_of n)) same

pub decimal_is : (kind : Kind) (text : List ℕ) (o : Option Num) → kind ≢ k.Address → option_map value_of o ≡ read_of kind text → IfSome o (λ n. n.kind ≡ kind) → o ≡ number_of kind text
unfolding number_of
decimal_is kind text o other e same = rw (not_address kind other) (decimal_at kind o same ∙ ap (λ (z : Option ℤ). z >>= num_at kind) e)

pub no_decimal : (text : List ℕ) → None ≡ number_of k.Address text
unfolding number_of
no_decimal text = refl
