-- Hashes of keys: keys that are the same have one hash.
use Rattle.std.specs.Prelude.{ℕ, ◌+◌, ◌*◌, ◌/◌, ◌%◌, ◌^◌, Bool, true, false, List, [], ◌∷◌, Option, Some, None}
use Rattle.cad_syntax.specs.declared.num.Num.{Num}
use Rattle.cad_text.specs.Texts.{normal_form}
use Rattle.cad_values.specs.Values.{PureValue, bool, number, string, character, address, path, composite}
use Rattle.cad_keys.specs.Sameness.{case_number}

-- a hash with one number more
unfoldable pub with_number : ℕ → ℕ → ℕ
with_number hash x = ((hash * 11400714819323198485) % 2 ^ 64 + x) % 2 ^ 64

-- the upper half of a product
unfoldable pub spread : ℕ → ℕ
spread hash = ((hash * 11400714819323198485) % 2 ^ 64) / 2 ^ 32

abbrev pub with_bytes : ℕ → List ℕ → ℕ
with_bytes hash [] = hash
with_bytes hash (b ∷ bs) = with_bytes (with_number hash b) bs

unfoldable pub magnitude_hash : ℕ → ℕ
magnitude_hash x = with_number (x / 2 ^ 64) (x % 2 ^ 64)

abbrev pub truth_hash : Bool → ℕ
truth_hash true = 1
truth_hash false = 0

abbrev pub case_hash : Option Num → ℕ
case_hash (Some x) = magnitude_hash x.magnitude
case_hash None = 0

abbrev pub raw_hash : PureValue → ℕ
raw_hash (bool x) = truth_hash x
raw_hash (number x) = magnitude_hash x.magnitude
raw_hash (string x) = with_bytes 0 (normal_form x)
raw_hash (character x) = with_bytes 0 (normal_form x)
raw_hash (address x) = x.0
raw_hash (path x) = with_bytes 0 x.identifier.0
raw_hash (composite id n fs) = case_hash (case_number fs)
raw_hash _ = 0

abbrev pub key_hash : PureValue → ℕ
key_hash v = spread (raw_hash v)
