-- Keys that are told apart by their bytes.
use Rattle.std.specs.Prelude.{◌≡◌, ℕ, Bool, true, false, ◌&&◌, List, [], ◌∷◌, map, if◌then◌else◌}
use Rattle.cad_codec.specs.Code.Values.{all_new}
use Rattle.cad_codec.specs.Forms.{HasBytes}
use Rattle.cad_codec.specs.ValueBytes.{value_bytes}
use Rattle.cad_syntax.specs.declared.address.Path.{Path}
use Rattle.cad_text.specs.Texts.{normal_form}
use Rattle.cad_values.specs.Values as v
use Rattle.cad_values.specs.Forms.{has_no_reference}
use Rattle.cad_values.specs.Values.{PureValue, PureEntry, pure_entry}
use Rattle.cad_values.specs.declared.value.DictionaryEntry.{DictionaryEntry}
use Rattle.cad_fits.specs.Tests.{is_text, is_number, is_one_character}

abbrev pub is_short_character : List ℕ → Bool
is_short_character text = is_text text && is_one_character text

abbrev pub is_short_path : Path → Bool
is_short_path p = is_text p.identifier.0

-- keys of these forms, in range, are told by their bytes
abbrev pub is_simple : PureValue → Bool
is_simple (v.string text) = is_text text
is_simple (v.character text) = is_short_character text
is_simple (v.number n) = is_number n.kind
is_simple (v.bool b) = true
is_simple (v.path p) = is_short_path p
is_simple _ = false

-- a key with bytes, and with no reference in it
abbrev pub IsTold : PureValue → Type 0
IsTold x = HasBytes x × (has_no_reference x ≡ true)

abbrev pub HasToldKey : DictionaryEntry → Type 0
HasToldKey e = IsTold (pure_entry e).key

unfoldable pub plain_bytes : PureValue → List ℕ
plain_bytes x = if has_no_reference x then value_bytes x else []

-- the bytes by which a key is told from others
abbrev pub key_bytes : PureValue → List ℕ
key_bytes (v.string text) = 5 ∷ normal_form text
key_bytes (v.character text) = 6 ∷ normal_form text
key_bytes x = plain_bytes x

abbrev pub bytes_differ : List PureEntry → Bool
bytes_differ es = all_new [] (map (λ e. key_bytes e.key) es)
