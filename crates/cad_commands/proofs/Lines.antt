-- The JSON of a line, and a field of it.
use Rattle.std.proofs.Common.{◌≡◌, ◌∙◌, ℕ, List, Bool, true, false, Option, Some, None, option_map, refl, sym, ap, BTreeMap, Global, String, string_bytes, nat_cmp}
use Rattle.std.proofs.lemmas.Str.{IsUtf8-from_is_utf8, is_utf8-from_IsUtf8}
use Rattle.std.specs.BTreeMap.{is_at}
use Rattle.std.specs.Cmp.Lexicographic.{slice_cmp}
use Rattle.std.specs.Map.{lookup}
use Rattle.std.specs.Str.{IsUtf8, is_utf8}
use Rattle.serde_json.specs.Data.{Data}
use Rattle.serde_json.specs.Find.{get}
use Rattle.serde_json.specs.Read.{read}
use Rattle.serde_json.specs.View.{view}
use Rattle.serde_json.specs.declared.value.Value.{Value, Object}
use Rattle.serde_json.proofs.Views.{view-Object, view-lookup}
use Rattle.cad_commands.specs.Commands.{json_of}

pub is_json : (line : List ℕ) (d : Data) → IsUtf8 line → read line ≡ Some d → Some d ≡ json_of line
unfolding json_of
is_json line d utf8 json = rw (is_utf8-from_IsUtf8 line utf8) (sym json)

read_if : (line : List ℕ) (b : Bool) → is_utf8 line ≡ b → (b ≡ true → read line ≡ None) → None ≡ json_of line
unfolding json_of
read_if line true is none = rw is (sym (none refl))
read_if line false is none = rw is

pub no_json : (line : List ℕ) → (IsUtf8 line → read line ≡ None) → None ≡ json_of line
no_json line none = read_if line _ refl (λ h. none (IsUtf8-from_is_utf8 line h))

-- what stands at a name in an object
pub found : (request : Value) (m : BTreeMap (String Global) Value) (name : List ℕ) (value : Option Value) → request ≡ Object m
    → value ≡ lookup (is_at (λ k. slice_cmp nat_cmp name (string_bytes k))) m.entries → option_map view value ≡ get name (view request)
found request m name value object is =
    ap (option_map view) is ∙ (view-lookup name m.entries ∙ sym (ap (get name) (ap view object ∙ view-Object m)))
