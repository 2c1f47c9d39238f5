-- Bytes that are UTF-8 are a text, in an optional; other bytes are none.
use Rattle.std.proofs.Common.{◌≡◌, ℕ, Bool, true, false, List, refl, sym}
use Rattle.std.specs.Str.{IsUtf8, is_utf8}
use Rattle.std.proofs.lemmas.Str.{IsUtf8-from_is_utf8, is_utf8-from_IsUtf8}
use Rattle.cad_world.specs.Rows.{Tree}
use Rattle.cad_world.specs.Trees.{nil_tree, wrapped}
use Rattle.cad_evaluation.specs.Texts.{text_of_bytes, text_tree}

pub text_there : (bytes copy : List ℕ) (t u : Tree) → IsUtf8 bytes → copy ≡ bytes → t ≡ text_tree copy → u ≡ wrapped t → u ≡ text_of_bytes bytes
text_there bytes copy t u valid e f g = rw (g, f, e, is_utf8-from_IsUtf8 bytes valid) refl

pub text_missing : (bytes : List ℕ) (t : Tree) → (IsUtf8 bytes → ⊥) → t ≡ nil_tree → t ≡ text_of_bytes bytes
text_missing bytes t other e = by (is_utf8 bytes) refl
  where
    by : (b : Bool) → b ≡ is_utf8 bytes → t ≡ text_of_bytes bytes
    by true h = absurd (other (IsUtf8-from_is_utf8 bytes (sym h)))
    by false h = rw (sym h) e
