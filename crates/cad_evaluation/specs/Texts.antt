-- The built-in members of texts, characters, numbers and addresses.
use Rattle.std.specs.Prelude.{ℕ, zero, suc, ◌+◌, ◌*◌, ◌/◌, ◌%◌, false, nat_le, List, [], ◌∷◌, ◌++◌, length, Option, Some, None, option_map, option_and_then, Result, Ok, Err, if◌then◌else◌}
use Rattle.std.specs.Prelude.{unsigned_abs}
use Rattle.std.specs.Str.{is_utf8}
use Rattle.hex.specs.Hex.{decode_of, encode_lower}
use Rattle.cad_syntax.specs.Addresses.{address_text}
use Rattle.cad_syntax.specs.Types.{PureType, basic}
use Rattle.cad_syntax.specs.declared.address.Address.{Address}
use Rattle.cad_syntax.specs.declared.kind.Kind.{Kind}
use Rattle.cad_syntax.specs.declared.kind.Kind.TheVariants as k
use Rattle.cad_syntax.specs.declared.types.Basic.TheVariants as b
use Rattle.cad_text.specs.Texts.{most_bytes, characters, part, are_places, is_hex}
use Rattle.cad_num.specs.Numbers.{value_of, twos_complement}
use Rattle.cad_num.specs.Decimal.{read_of, written}
use Rattle.cad_values.specs.Fits.{most_elements}
use Rattle.cad_values.specs.Values.{PureValue, string, character, address}
use Rattle.cad_world.specs.Rows.{NodeShape, plain, Row, stop, gap, node, Tree, first}
use Rattle.cad_world.specs.Rows as rows
use Rattle.cad_world.specs.State.{Action, give, require, with_some, failed}
use Rattle.cad_world.specs.Trees.{of_plain, whole, wrapped, nil_tree}
use Rattle.cad_evaluation.specs.Numbers.{number_of, number_from, number_tree, number_in, integer_in}

-- ---- texts as values

abbrev pub text_in_value : PureValue → Option (List ℕ)
text_in_value (string text) = Some text
text_in_value _ = None

abbrev pub character_in_value : PureValue → Option (List ℕ)
character_in_value (character text) = Some text
character_in_value _ = None

abbrev pub address_in_value : PureValue → Option Address
address_in_value (address a) = Some a
address_in_value _ = None

-- what a value without optionals and parts is
abbrev pub in_shape : {A : Type 0} → (PureValue → Option A) → ℕ → NodeShape → Option A
in_shape f zero (plain v) = f v
in_shape f n shape = None

abbrev pub in_tree : {A : Type 0} → (PureValue → Option A) → Tree → Option A
in_tree f t = in_shape f t.optionals t.shape

abbrev pub text_in : Tree → Option (List ℕ)
text_in t = in_tree text_in_value t

abbrev pub text_tree : List ℕ → Tree
text_tree text = of_plain (string text)

-- the Int of a count
abbrev pub int_tree : ℕ → Option Tree
int_tree n = option_map number_tree (number_of k.Int false n)

abbrev pub given_int : ℕ → Action Tree
given_int n = with_some (int_tree n) give

-- the optional of what is there, or nil
abbrev pub optional_tree : Option Tree → Tree
optional_tree None = nil_tree
optional_tree (Some t) = wrapped t

-- ---- bytes

abbrev pub byte_type : PureType
byte_type = basic (b.Number k.UInt8)

-- a row of bytes; none where one is over 255
abbrev pub bytes_row : List ℕ → Option Row
bytes_row [] = Some stop
bytes_row (x ∷ xs) = option_and_then (λ n. option_map (first (number_tree n)) (bytes_row xs)) (number_of k.UInt8 false x)

-- an array of bytes, 123 where they are too many
abbrev pub bytes_tree : List ℕ → Action Tree
bytes_tree bytes = require 123 (nat_le (length bytes) most_elements) (with_some (bytes_row bytes) (λ r. give (whole (rows.array byte_type) r)))

abbrev pub byte_of : ℕ → NodeShape → Option ℕ
byte_of n shape = option_map (λ x. x.magnitude) (number_in (record { optionals = n; shape = shape; parts = stop }))

-- the bytes that stand in a row
abbrev pub bytes_in_row : Row → Option (List ℕ)
bytes_in_row stop = Some []
bytes_in_row (gap r) = None
bytes_in_row (node l n s k r) = option_and_then (λ x. option_map (λ xs. x ∷ xs) (bytes_in_row r)) (byte_of n s)

abbrev pub bytes_in_shape : ℕ → NodeShape → Row → Option (List ℕ)
bytes_in_shape zero (rows.array t) r = bytes_in_row r
bytes_in_shape n shape r = None

abbrev pub bytes_in : Tree → Option (List ℕ)
bytes_in t = bytes_in_shape t.optionals t.shape t.parts

-- ---- members of texts

abbrev pub text_length : List ℕ → Action Tree
text_length text = given_int (length (characters text))

abbrev pub text_joined : List ℕ → Tree → Action Tree
text_joined text other = with_some (text_in other) (λ o. require 123 (nat_le (length text + length o) most_bytes) (give (text_tree (text ++ o))))

abbrev pub text_slice : List ℕ → Tree → Tree → Action Tree
text_slice text from up_to =
    with_some (integer_in from) (λ i. with_some (integer_in up_to) (λ j.
    require 105 (are_places text i j) (give (text_tree (part text (unsigned_abs i) (unsigned_abs j))))))

abbrev pub decoded : {E : Type 0} → Result (List ℕ) E → Action Tree
decoded (Ok bytes) = bytes_tree bytes
decoded (Err e) = λ s. failed 122

abbrev pub text_decoded : List ℕ → Action Tree
text_decoded text = require 122 (is_hex text) (decoded (decode_of text))

-- `String.encodeHex(bytes)`
abbrev pub text_encoded : Tree → Action Tree
text_encoded bytes = with_some (bytes_in bytes) (λ xs. require 123 (nat_le (2 * length xs) most_bytes) (give (text_tree (encode_lower xs))))

abbrev pub text_of_bytes : List ℕ → Tree
text_of_bytes xs = if is_utf8 xs then wrapped (text_tree xs) else nil_tree

-- `String.fromUTF8(bytes)`
abbrev pub text_from_bytes : Tree → Action Tree
text_from_bytes bytes = with_some (bytes_in bytes) (λ xs. give (text_of_bytes xs))

-- ---- members of numbers and addresses

abbrev pub number_text : Tree → Action Tree
number_text t = with_some (number_in t) (λ x. give (text_tree (written x)))

-- `K.fromString(text)`
abbrev pub number_read : Kind → Tree → Action Tree
number_read kind t = with_some (text_in t) (λ text. give (optional_tree (option_map number_tree (option_and_then (number_from kind) (read_of kind text)))))

-- how many bytes a kind with a fixed size has
abbrev pub width : Kind → Option ℕ
width k.Int8 = Some 1
width k.UInt8 = Some 1
width k.Word8 = Some 1
width k.Int16 = Some 2
width k.UInt16 = Some 2
width k.Word16 = Some 2
width k.Int32 = Some 4
width k.UInt32 = Some 4
width k.Word32 = Some 4
width k.Int64 = Some 8
width k.UInt64 = Some 8
width k.Word64 = Some 8
width k.Int128 = Some 16
width k.UInt128 = Some 16
width k.Word128 = Some 16
width _ = None

-- the n lowest bytes of a number, the highest of them first
abbrev pub big_endian : ℕ → ℕ → List ℕ
big_endian zero x = []
big_endian (suc n) x = big_endian n (x / 256) ++ (x % 256) ∷ []

abbrev pub number_bytes : Tree → Action Tree
number_bytes t = with_some (number_in t) (λ x. with_some (width x.kind) (λ n. bytes_tree (big_endian n (twos_complement x.kind (value_of x)))))

abbrev pub address_bytes : Address → Action Tree
address_bytes a = bytes_tree (big_endian 8 a.0)

abbrev pub address_told : Address → Action Tree
address_told a = give (text_tree (address_text a.0))
