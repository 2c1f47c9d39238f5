-- The forms of values that are read, each with a word.
use Rattle.std.specs.Prelude.{ℕ, Bool, ◌==◌, List, [], ◌∷◌, Option, Some, None, find, codes}
use Rattle.std.specs.Cmp.Lexicographic.{pointwise}
use Rattle.cad_syntax.specs.declared.kind.Kind.TheVariants as k
use Rattle.cad_json.specs.Words.{kind_word}
use Rattle.cad_json_read.specs.declared.form.Form.{Form}
use Rattle.cad_json_read.specs.declared.form.Form.TheVariants as f

abbrev pub same_text : List ℕ → List ℕ → Bool
same_text = pointwise ◌==◌

abbrev pub form_word : Form → List ℕ
form_word f.String = codes "String"
form_word f.Optional = codes "Optional"
form_word f.Array = codes "Array"
form_word f.Struct = codes "Struct"
form_word f.Bool = codes "Bool"
form_word f.Address = codes "Address"
form_word f.Character = codes "Character"
form_word f.Dictionary = codes "Dictionary"
form_word f.Path = codes "Path"
form_word f.Enum = codes "Enum"
form_word (f.Number kind) = kind_word kind

abbrev pub part_forms : List Form
part_forms = f.String ∷ f.Optional ∷ f.Array ∷ f.Struct ∷ f.Bool ∷ f.Address ∷ f.Character ∷ f.Dictionary ∷ f.Path ∷ f.Enum ∷ []

abbrev pub signed_forms : List Form
signed_forms = f.Number k.Int ∷ f.Number k.Int8 ∷ f.Number k.Int16 ∷ f.Number k.Int32 ∷ f.Number k.Int64 ∷ f.Number k.Int128 ∷ f.Number k.Fix64 ∷ []

abbrev pub unsigned_forms : List Form
unsigned_forms = f.Number k.UInt ∷ f.Number k.UInt8 ∷ f.Number k.UInt16 ∷ f.Number k.UInt32 ∷ f.Number k.UInt64 ∷ f.Number k.UInt128 ∷ f.Number k.UFix64 ∷ f.Number k.Word8 ∷ f.Number k.Word16 ∷ f.Number k.Word32 ∷ f.Number k.Word64 ∷ f.Number k.Word128 ∷ []

abbrev pub found_in : List Form → List ℕ → Option Form
found_in forms text = find (λ form. same_text text (form_word form)) forms

abbrev pub first_of : {A : Type 0} → Option A → Option A → Option A
first_of None later = later
first_of (Some x) later = Some x

-- the form with a word
unfoldable pub form_of : List ℕ → Option Form
form_of text = first_of (found_in part_forms text) (first_of (found_in signed_forms text) (found_in unsigned_forms text))
