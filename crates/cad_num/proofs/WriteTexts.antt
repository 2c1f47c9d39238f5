-- The texts of numbers.
use Rattle.std.proofs.Common.{◌≡◌, ℕ, ◌-◌, ◌^◌, false, [], decimal}
use Rattle.std.proofs.Math.Nat.{sub-zero}
use Rattle.std.proofs.lemmas.List.{append-nil}
use Rattle.std.specs.Fmt.{padded_integral, format_spec, char_count}
use Rattle.cad_num.specs.Decimal.{eight_digits}

pub padded_eight : (n : ℕ) → padded_integral (format_spec 32 0 4 8 (2 ^ 64 - 1)) false [] (decimal n) ≡ eight_digits n
unfolding padded_integral char_count
padded_eight n = simp (append-nil, sub-zero)
