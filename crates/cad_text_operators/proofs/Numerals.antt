-- Numbers of 64 bits and addresses are written and read alike; bytes of a number.
use Rattle.std.proofs.Common.{◌≡◌, ◌<◌, ◌-◌, ◌/◌, ◌%◌, ℕ, zero, suc, Bool, true, false, ℤ, List, [], ◌∷◌, ◌++◌, Option, Some, None, option_map, IfSome, refl, ap, sym, ◌∙◌, arith, sub-one}
use Rattle.std.specs.Prelude.{option_and_then}
use Rattle.cad_syntax.specs.declared.kind.Kind.{Kind}
use Rattle.cad_syntax.specs.declared.kind.Kind.TheVariants as k
use Rattle.cad_syntax.specs.declared.num.Num.{Num}
use Rattle.cad_syntax.specs.Kinds.{is_kept}
use Rattle.cad_num.specs.Decimal.{read_of, written}
use Rattle.cad_num.specs.Numbers.{value_of}
use Rattle.cad_evaluation.specs.Numbers.{number_from}
use Rattle.cad_evaluation.specs.Texts.{big_endian}
use Rattle.cad_operators.proofs.Kept.{from_value_as}

kept_same : (s : Bool) (m : ℕ) → is_kept k.UInt64 s m ≡ is_kept k.Address s m
kept_same true m = refl
kept_same false m = refl

pub kept_alike : (j : Kind) (s : Bool) (m : ℕ) → j ≡ k.Address → is_kept j s m ≡ true → is_kept k.UInt64 s m ≡ true
kept_alike j s m e h = kept_same s m ∙ ap (λ (i : Kind). is_kept i s m) (sym e) ∙ h

pub kept_back : (j : Kind) (s : Bool) (m : ℕ) → j ≡ k.UInt64 → is_kept j s m ≡ true → is_kept k.Address s m ≡ true
kept_back j s m e h = sym (kept_same s m) ∙ ap (λ (i : Kind). is_kept i s m) (sym e) ∙ h

written_same : (j : Kind) (s : Bool) (m : ℕ) (p : is_kept k.UInt64 s m ≡ true) (q : is_kept j s m ≡ true) → j ≡ k.Address
    → written (record { kind = k.UInt64; negative = s; magnitude = m; kept = p }) ≡ written (record { kind = j; negative = s; magnitude = m; kept = q })
unfolding written
written_same k.Address s m p q e = refl
written_same _ s m p q e = cc

pub written_of_64_bits : (x : Num) (p : is_kept k.UInt64 x.negative x.magnitude ≡ true) → x.kind ≡ k.Address → written (record { kind = k.UInt64; negative = x.negative; magnitude = x.magnitude; kept = p }) ≡ written x
written_of_64_bits x p e = written_same x.kind x.negative x.magnitude p x.kept e

read_same : (text : List ℕ) → read_of k.UInt64 text ≡ read_of k.Address text
unfolding read_of
read_same text = refl

-- what is read of a kind is the number of its integer
pub read_back : (j : Kind) (o : Option Num) (z : Option ℤ) → option_map value_of o ≡ z → IfSome o (λ n. n.kind ≡ j) → o ≡ option_and_then (number_from j) z
read_back j None z e h = rw (sym e) refl
read_back j (Some n) z e h = sym (ap (option_and_then (number_from j)) (sym e) ∙ from_value_as j n h)

pub read_none : (text : List ℕ) (o : Option Num) → o ≡ None → option_map value_of o ≡ read_of k.UInt64 text → None ≡ option_and_then (number_from k.Address) (read_of k.Address text)
read_none text o none e = rw (sym (read_same text), sym e, none) refl

pub read_some : (text : List ℕ) (o : Option Num) (x y : Num) → o ≡ Some x → option_map value_of o ≡ read_of k.UInt64 text → y.kind ≡ k.Address → value_of y ≡ value_of x
    → Some y ≡ option_and_then (number_from k.Address) (read_of k.Address text)
read_some text o x y some e f g = rw (sym (read_same text), sym e, some, sym g, from_value_as k.Address y f) refl

pub big_endian_none : (x : ℕ) → big_endian zero x ≡ []
big_endian_none x = refl

pub big_endian_more : (n x : ℕ) → 0 < n → big_endian n x ≡ big_endian (n - 1) (x / 256) ++ (x % 256) ∷ []
big_endian_more zero x h = absurd (omega arith)
big_endian_more (suc n) x h = rw sub-one refl
