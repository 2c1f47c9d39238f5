-- What a kind makes of an integer.
use Rattle.std.proofs.Common.{◌≡◌, ℕ, ◌+◌, ◌%◌, ◌<◌, ◌^◌, ◌≤◌, Bool, true, false, cond, ℤ, pos, neg_ℤ, Ok, Err, bit_and, sym, ap, subst, ◌∙◌, arith}
use Rattle.std.proofs.lemmas.Int.{ints, clamps}
use Rattle.std.proofs.lemmas.Bool.{leb-false, leb-true, lt-leb, ltb-true}
use Rattle.std.proofs.lemmas.Bool.Decides.{nat_tests}
use Rattle.std.specs.Bool.{FalseIff}
use Rattle.std.specs.Int.{int_rem_euclid, int_min, int_max}
use Rattle.cad_syntax.specs.Kinds.{greatest, depth, signed, in_range}
use Rattle.cad_syntax.specs.declared.kind.Kind.{Kind}
use Rattle.std.proofs.lemmas.Nat.{and_le_l, or_lt, xor_lt}
use Rattle.cad_num.specs.declared.bitwise.BitOp.{BitOp}
use Rattle.cad_num.specs.declared.bitwise.BitOp.TheVariants.{And, Or, Xor}
use Rattle.cad_num.proofs.KindRanges.{greatest_small, depth_small, word_range, bit_range}
use Rattle.cad_num.proofs.Wrapping.{wrapped_positive, wrapped_negative}
use Rattle.cad_num.specs.Numbers.{is_word, bit_by_bit, count_of, outcome, nearest, least_of, greatest_of}
use Rattle.cad_num.specs.declared.error.NumError.TheVariants.{Overflow, Underflow}

pub outcome-word : (kind : Kind) (z : ℤ) → is_word kind ≡ true → outcome kind z ≡ Ok (int_rem_euclid z (pos (greatest kind + 1)))
unfolding outcome
outcome-word kind z h = grind arith

pub outcome-in : (kind : Kind) (s : Bool) (m : ℕ) → is_word kind ≡ false → in_range kind s m ≡ true → outcome kind (signed s m) ≡ Ok (signed s m)
unfolding outcome
outcome-in kind true m h r = grind (arith, ints, nat_tests)
outcome-in kind false m h r = grind (arith, ints, nat_tests)

pub outcome-above : (kind : Kind) (m : ℕ) → is_word kind ≡ false → greatest kind < m → outcome kind (pos m) ≡ Err Overflow
unfolding outcome
outcome-above kind m h r = grind (arith, nat_tests)

pub outcome-below : (kind : Kind) (m : ℕ) → is_word kind ≡ false → depth kind < m → outcome kind (neg_ℤ (pos m)) ≡ Err Underflow
unfolding outcome
outcome-below kind m h r = grind (arith, ints, nat_tests)

-- an error of a magnitude that the kind hasn't
pub outcome-out : (kind : Kind) (s : Bool) (m : ℕ) → is_word kind ≡ false → in_range kind s m ≡ false → outcome kind (signed s m) ≡ Err (cond s Underflow Overflow)
outcome-out kind true m h r = outcome-below kind m h (leb-false m (depth kind) r)
outcome-out kind false m h r = outcome-above kind m h (leb-false m (greatest kind) r)

-- no kind has a magnitude of 2 ^ 128 or more
pub large_out : (kind : Kind) (s : Bool) (m : ℕ) → 2 ^ 128 ≤ m → in_range kind s m ≡ false
large_out kind true m h = let k = ltb-true (depth kind) (2 ^ 128) (depth_small kind) in lt-leb m (depth kind) (omega arith)
large_out kind false m h = let k = ltb-true (greatest kind) (2 ^ 128) (greatest_small kind) in lt-leb m (greatest kind) (omega arith)

pub FalseIff-large : (b : Bool) (n : ℕ) → FalseIff b (n < 2 ^ 128) → b ≡ true → 2 ^ 128 ≤ n
FalseIff-large true n h e = omega (arith, h)
FalseIff-large false n h e = cc

pub FalseIff-small : (b : Bool) (n : ℕ) → FalseIff b (n < 2 ^ 128) → b ≡ false → n < 2 ^ 128
FalseIff-small true n h e = cc
FalseIff-small false n h e = h

-- the words of the integers that have these low bits
pub wrap_positive : (kind : Kind) (low exact : ℕ) → is_word kind ≡ true → low ≡ exact % 2 ^ 128 → outcome kind (signed false exact) ≡ Ok (pos (bit_and low (greatest kind)))
wrap_positive kind low exact w h =
    outcome-word kind (signed false exact) w ∙ ap Ok (sym (wrapped_positive (word_range kind w) low exact h))

pub wrap_negative : (kind : Kind) (low bits exact : ℕ) → is_word kind ≡ true → low ≡ exact % 2 ^ 128 → (bits + low) % 2 ^ 128 ≡ 0 → outcome kind (signed true exact) ≡ Ok (pos (bit_and bits (greatest kind)))
wrap_negative kind low bits exact w h z =
    outcome-word kind (signed true exact) w ∙ ap Ok (sym (wrapped_negative (word_range kind w) low bits exact h z))

-- the nearest integer of a range
near_below : (d g m : ℕ) → d ≤ m → int_max (neg_ℤ (pos d)) (int_min (neg_ℤ (pos m)) (pos g)) ≡ neg_ℤ (pos d)
near_below d g m h = omega (arith, ints, clamps)

near_above : (d g m : ℕ) → g ≤ m → int_max (neg_ℤ (pos d)) (int_min (pos m) (pos g)) ≡ pos g
near_above d g m h = omega (arith, ints, clamps)

near_in_below : (d g m : ℕ) → m ≤ d → int_max (neg_ℤ (pos d)) (int_min (neg_ℤ (pos m)) (pos g)) ≡ neg_ℤ (pos m)
near_in_below d g m h = omega (arith, ints, clamps)

near_in_above : (d g m : ℕ) → m ≤ g → int_max (neg_ℤ (pos d)) (int_min (pos m) (pos g)) ≡ pos m
near_in_above d g m h = omega (arith, ints, clamps)

pub nearest-in : (kind : Kind) (s : Bool) (m : ℕ) → in_range kind s m ≡ true → nearest kind (signed s m) ≡ signed s m
unfolding nearest
nearest-in kind true m h = near_in_below (depth kind) (greatest kind) m (leb-true m (depth kind) h)
nearest-in kind false m h = near_in_above (depth kind) (greatest kind) m (leb-true m (greatest kind) h)

pub nearest-below : (kind : Kind) (m : ℕ) → in_range kind true m ≡ false → nearest kind (signed true m) ≡ least_of kind
unfolding nearest
nearest-below kind m h = let out = leb-false m (depth kind) h in near_below (depth kind) (greatest kind) m (omega arith)

pub nearest-above : (kind : Kind) (m : ℕ) → in_range kind false m ≡ false → nearest kind (signed false m) ≡ greatest_of kind
unfolding nearest
nearest-above kind m h = let out = leb-false m (greatest kind) h in near_above (depth kind) (greatest kind) m (omega arith)

pub nearest-out : (kind : Kind) (s : Bool) (m : ℕ) → in_range kind s m ≡ false → nearest kind (signed s m) ≡ cond s (least_of kind) (greatest_of kind)
nearest-out kind true m h = nearest-below kind m h
nearest-out kind false m h = nearest-above kind m h

-- an operation on the bits of two integers of a kind
bits_lt : (op : BitOp) (k x y : ℕ) → x < 2 ^ k → y < 2 ^ k → bit_by_bit op x y < 2 ^ k
bits_lt And k x y p q = let le = and_le_l x y in omega arith
bits_lt Or k x y p q = or_lt k x y p q
bits_lt Xor k x y p q = xor_lt k x y p q

pub bitwise_small : (kind : Kind) (op : BitOp) (x y : ℕ) → x < count_of kind → y < count_of kind → bit_by_bit op x y < count_of kind
bitwise_small kind op x y p q =
    let r = bit_range kind in
    let At : ℕ → Type 0 = λ n. x < n → y < n → bit_by_bit op x y < n in
    subst At (sym r.count_is) (bits_lt op r.bits x y) p q
