-- Numbers that are kept, and addresses.
use Rattle.std.proofs.Common.{◌≡◌, ◌∙◌, ℕ, ◌-◌, ◌<◌, ◌≤◌, ◌^◌, Bool, true, false, Some, None, refl, sym, ap, arith}
use Rattle.std.proofs.Math.Bool.{Bool-set}
use Rattle.std.proofs.lemmas.Bool.{and_parts, leb-true}
use Rattle.cad_syntax.specs.Kinds.{is_kept}
use Rattle.cad_syntax.specs.declared.kind.Kind.{Kind}
use Rattle.cad_syntax.specs.declared.kind.Kind.TheVariants.{Address}
use Rattle.cad_syntax.specs.declared.num.Num.{Num}
use Rattle.cad_typing.specs.Literals.{number_if}
use Rattle.cad_typing.specs.Types.{is_address}

abbrev num_with : (k : Kind) (s : Bool) (m : ℕ) → is_kept k s m ≡ true → Num
num_with k s m kept = record { kind = k; negative = s; magnitude = m; kept = kept }

pub kept_some : (k : Kind) (s : Bool) (m : ℕ) (b : Bool) (e : is_kept k s m ≡ b) (kept : is_kept k s m ≡ true) → Some (num_with k s m kept) ≡ number_if k s m b e
kept_some k s m true e kept = ap (λ r. Some (num_with k s m r)) (Bool-set (is_kept k s m) true kept e)
kept_some k s m false e kept = let wrong : true ≡ false = sym kept ∙ e in absurd cc

pub kept_none : (k : Kind) (s : Bool) (m : ℕ) (b : Bool) (e : is_kept k s m ≡ b) → is_kept k s m ≡ false → None ≡ number_if k s m b e
kept_none k s m true e none = let wrong : true ≡ false = sym e ∙ none in absurd cc
kept_none k s m false e none = refl

-- an address has 64 bits
pub address_fits : (k : Kind) (s : Bool) (m : ℕ) → is_address k ≡ true → is_kept k s m ≡ true → m < 2 ^ 64
address_fits Address true m address kept = let within : m ≤ 0 = leb-true m 0 ((and_parts _ _ kept).1) in omega arith
address_fits Address false m address kept = let within : m ≤ 2 ^ 64 - 1 = leb-true m (2 ^ 64 - 1) kept in omega arith
address_fits _ s m address kept = absurd cc
