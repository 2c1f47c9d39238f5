-- Reading a text: a byte string that is UTF-8.
use Rattle.std.proofs.Common.{◌≡◌, ℕ, Bool, true, false, List, Option, Some, None, refl, sym, ap, ◌∙◌, if◌then◌else◌}
use Rattle.std.proofs.lemmas.Str.{IsUtf8-from_is_utf8, is_utf8-from_IsUtf8}
use Rattle.std.specs.Str.{IsUtf8, is_utf8}
use Rattle.cad_wire.specs.Fields.{bytes_at}
use Rattle.cad_codec.specs.Code.Fields.{text_at}

pub text_found : (old bytes text rest : List ℕ) → bytes_at old ≡ Some (bytes, rest) → IsUtf8 bytes → text ≡ bytes → text_at old ≡ Some (text, rest)
text_found old bytes text rest e utf8 same = rw (e, is_utf8-from_IsUtf8 bytes utf8, same) refl

no_text : (bytes : List ℕ) (b : Bool) → is_utf8 bytes ≡ b → (IsUtf8 bytes → ⊥) → is_utf8 bytes ≡ false
no_text bytes true e none = absurd (none (IsUtf8-from_is_utf8 bytes e))
no_text bytes false e none = e

pub text_none : (old bytes rest : List ℕ) → bytes_at old ≡ Some (bytes, rest) → (IsUtf8 bytes → ⊥) → text_at old ≡ None
text_none old bytes rest e none = rw (e, no_text bytes (is_utf8 bytes) refl none) refl
