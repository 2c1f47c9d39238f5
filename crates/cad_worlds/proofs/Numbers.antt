-- Numbers by their bytes, the highest first, stand in the order of the numbers.
use Rattle.std.proofs.Common.{◌≡◌, ℕ, ◌^◌, ◌/◌, ◌%◌, ◌<◌, List, [], ◌∷◌, refl, sym, ap, ◌∙◌, arith, inl, inr, ◌⊎◌}
use Rattle.std.specs.Ordering.{nat_cmp, ordering_then}
use Rattle.std.specs.declared.cmp.Ordering.TheVariants.{Less, Equal}
use Rattle.std.specs.Cmp.Lexicographic.{slice_cmp}
use Rattle.std.specs.Int.{bytes_high_first}
use Rattle.std.proofs.lemmas.Bool.{cases_lt, lt-ltb, le-ltb, eq-eqb}
use Rattle.cad_wire.specs.Fields.{number_field}

pub tied : (x : ℕ) → nat_cmp x x ≡ Equal
tied x = rw (le-ltb x x (omega arith), eq-eqb x x refl) refl

pub less_step : (x y : ℕ) (xs ys : List ℕ) → (x < y) ⊎ ((x ≡ y) × (slice_cmp nat_cmp xs ys ≡ Less)) → slice_cmp nat_cmp (x ∷ xs) (y ∷ ys) ≡ Less
less_step x y xs ys (inl lt) = rw (lt-ltb x y lt) refl
less_step x y xs ys (inr e) = ap (λ (z : ℕ). ordering_then (nat_cmp x z) (slice_cmp nat_cmp xs ys)) (sym e.0) ∙ ap (λ o. ordering_then o (slice_cmp nat_cmp xs ys)) (tied x) ∙ e.1

less1 : (a b : ℕ) → a % 256 < b % 256 → slice_cmp nat_cmp (bytes_high_first 1 a) (bytes_high_first 1 b) ≡ Less
less1 a b h = less_step (a % 256) (b % 256) [] [] (inl h)

less2 : (a b : ℕ) → a % 65536 < b % 65536 → slice_cmp nat_cmp (bytes_high_first 2 a) (bytes_high_first 2 b) ≡ Less
less2 a b h =
    elim (cases_lt (a / 256 % 256) (b / 256 % 256)) [
      | inl lt ↦ less_step (a / 256 % 256) (b / 256 % 256) (bytes_high_first 1 a) (bytes_high_first 1 b) (inl lt)
      | inr le ↦ less_step (a / 256 % 256) (b / 256 % 256) (bytes_high_first 1 a) (bytes_high_first 1 b) (inr (omega arith, less1 a b (omega arith)))
    ]

less3 : (a b : ℕ) → a % 16777216 < b % 16777216 → slice_cmp nat_cmp (bytes_high_first 3 a) (bytes_high_first 3 b) ≡ Less
less3 a b h =
    elim (cases_lt (a / 65536 % 256) (b / 65536 % 256)) [
      | inl lt ↦ less_step (a / 65536 % 256) (b / 65536 % 256) (bytes_high_first 2 a) (bytes_high_first 2 b) (inl lt)
      | inr le ↦ less_step (a / 65536 % 256) (b / 65536 % 256) (bytes_high_first 2 a) (bytes_high_first 2 b) (inr (omega arith, less2 a b (omega arith)))
    ]

less4 : (a b : ℕ) → a % 4294967296 < b % 4294967296 → slice_cmp nat_cmp (bytes_high_first 4 a) (bytes_high_first 4 b) ≡ Less
less4 a b h =
    elim (cases_lt (a / 16777216 % 256) (b / 16777216 % 256)) [
      | inl lt ↦ less_step (a / 16777216 % 256) (b / 16777216 % 256) (bytes_high_first 3 a) (bytes_high_first 3 b) (inl lt)
      | inr le ↦ less_step (a / 16777216 % 256) (b / 16777216 % 256) (bytes_high_first 3 a) (bytes_high_first 3 b) (inr (omega arith, less3 a b (omega arith)))
    ]

less5 : (a b : ℕ) → a % 1099511627776 < b % 1099511627776 → slice_cmp nat_cmp (bytes_high_first 5 a) (bytes_high_first 5 b) ≡ Less
less5 a b h =
    elim (cases_lt (a / 4294967296 % 256) (b / 4294967296 % 256)) [
      | inl lt ↦ less_step (a / 4294967296 % 256) (b / 4294967296 % 256) (bytes_high_first 4 a) (bytes_high_first 4 b) (inl lt)
      | inr le ↦ less_step (a / 4294967296 % 256) (b / 4294967296 % 256) (bytes_high_first 4 a) (bytes_high_first 4 b) (inr (omega arith, less4 a b (omega arith)))
    ]

less6 : (a b : ℕ) → a % 281474976710656 < b % 281474976710656 → slice_cmp nat_cmp (bytes_high_first 6 a) (bytes_high_first 6 b) ≡ Less
less6 a b h =
    elim (cases_lt (a / 1099511627776 % 256) (b / 1099511627776 % 256)) [
      | inl lt ↦ less_step (a / 1099511627776 % 256) (b / 1099511627776 % 256) (bytes_high_first 5 a) (bytes_high_first 5 b) (inl lt)
      | inr le ↦ less_step (a / 1099511627776 % 256) (b / 1099511627776 % 256) (bytes_high_first 5 a) (bytes_high_first 5 b) (inr (omega arith, less5 a b (omega arith)))
    ]

less7 : (a b : ℕ) → a % 72057594037927936 < b % 72057594037927936 → slice_cmp nat_cmp (bytes_high_first 7 a) (bytes_high_first 7 b) ≡ Less
less7 a b h =
    elim (cases_lt (a / 281474976710656 % 256) (b / 281474976710656 % 256)) [
      | inl lt ↦ less_step (a / 281474976710656 % 256) (b / 281474976710656 % 256) (bytes_high_first 6 a) (bytes_high_first 6 b) (inl lt)
      | inr le ↦ less_step (a / 281474976710656 % 256) (b / 281474976710656 % 256) (bytes_high_first 6 a) (bytes_high_first 6 b) (inr (omega arith, less6 a b (omega arith)))
    ]

less8 : (a b : ℕ) → a % 18446744073709551616 < b % 18446744073709551616 → slice_cmp nat_cmp (bytes_high_first 8 a) (bytes_high_first 8 b) ≡ Less
less8 a b h =
    elim (cases_lt (a / 72057594037927936 % 256) (b / 72057594037927936 % 256)) [
      | inl lt ↦ less_step (a / 72057594037927936 % 256) (b / 72057594037927936 % 256) (bytes_high_first 7 a) (bytes_high_first 7 b) (inl lt)
      | inr le ↦ less_step (a / 72057594037927936 % 256) (b / 72057594037927936 % 256) (bytes_high_first 7 a) (bytes_high_first 7 b) (inr (omega arith, less7 a b (omega arith)))
    ]

pub number_before : (a b : ℕ) → a < b → b < 2 ^ 64 → slice_cmp nat_cmp (number_field a) (number_field b) ≡ Less
number_before a b lt fits = less8 a b (omega arith)
