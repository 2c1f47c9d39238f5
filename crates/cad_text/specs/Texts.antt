-- Texts by their characters, which are extended grapheme clusters, and by their NFC forms.
use Rattle.std.specs.Prelude.{ℕ, ◌%◌, Bool, true, ◌&&◌, ◌==◌, List, length, pos, ℤ, int_le, chars, encode_utf8_all}
use Rattle.std.specs.List.{list_all, concat, slice_range}
use Rattle.hex.specs.Hex.{is_hex_digit}
use Rattle.unicode_normalization.specs.Forms.{nfc}
use Rattle.unicode_segmentation.specs.Grapheme.{graphemes}

-- the most bytes that a text has
abbrev pub most_bytes : ℕ
most_bytes = 1048576

-- the characters of a text, each by its bytes
abbrev pub characters : List ℕ → List (List ℕ)
characters text = graphemes true text

-- the bytes of the NFC form
abbrev pub normal_form : List ℕ → List ℕ
normal_form text = encode_utf8_all (nfc (chars text))

-- the characters of a text from one place to before another
abbrev pub part : List ℕ → ℕ → ℕ → List ℕ
part text from up_to = concat (slice_range (characters text) from up_to)

-- the two places are in order, and in the text
abbrev pub are_places : List ℕ → ℤ → ℤ → Bool
are_places text from up_to =
    int_le (pos 0) from && int_le from up_to && int_le up_to (pos (length (characters text)))

-- an even number of hexadecimal digits, in either case
abbrev pub is_hex : List ℕ → Bool
is_hex text = (length text % 2 == 0) && list_all is_hex_digit text
