-- Reading values.
use Rattle.std.specs.Prelude.{◌≡◌, refl, ℕ, zero, suc, ◌+◌, ◌*◌, ◌^◌, Bool, true, false, not, ◌&&◌, ◌==◌, List, [], ◌∷◌, ◌++◌, length, map, Option, Some, None, slice_get}
use Rattle.cad_syntax.specs.Types.{PureType}
use Rattle.cad_syntax.specs.Kinds.{is_kept}
use Rattle.cad_syntax.specs.declared.address.Domain.{Domain}
use Rattle.cad_syntax.specs.declared.address.Domain.TheVariants as d
use Rattle.cad_syntax.specs.declared.address.Path.{Path}
use Rattle.cad_syntax.specs.declared.kind.Kind.{Kind}
use Rattle.cad_syntax.specs.declared.kind.Kind.TheVariants as k
use Rattle.cad_syntax.specs.declared.num.Num.{Num}
use Rattle.cad_syntax.specs.declared.text.Name.{Name}
use Rattle.cad_number_codec.specs.Parts.{parts_at}
use Rattle.cad_text.specs.Texts.{characters, normal_form}
use Rattle.cad_values.specs.Values as v
use Rattle.cad_values.specs.Values.{PureValue, PureEntry, PureField, values_of, entries_of, fields_of}
use Rattle.cad_wire.specs.Fields.{◌>>=◌, byte_at, number_at, number_field}
use Rattle.cad_codec.specs.ValueBytes.{value_bytes}
use Rattle.cad_codec.specs.Forms.{most_nesting}
use Rattle.cad_codec.specs.declared.form.ValueForm.{ValueForm}
use Rattle.cad_codec.specs.declared.form.ValueForm.TheVariants as f
use Rattle.cad_codec.specs.Code.Fields.{At, then_at, made_at, found_at, tested_at, list_at, text_at, name_at, id_at}
use Rattle.cad_codec.specs.Code.Seen.{has_bytes}
use Rattle.cad_codec.specs.Code.Types.{type_at}

abbrev pub value_forms : List ValueForm
value_forms = f.Void ∷ f.Nil ∷ f.Some ∷ f.Bool ∷ f.Number ∷ f.String ∷ f.Character ∷ f.Address ∷ f.Path ∷ f.Meta ∷ f.Capability ∷ f.Array ∷ f.Dictionary ∷ f.Composite ∷ []

abbrev pub bool_of : ℕ → Option Bool
bool_of zero = Some false
bool_of (suc zero) = Some true
bool_of (suc (suc n)) = None

abbrev pub domain_of : ℕ → Option Domain
domain_of zero = Some d.Storage
domain_of (suc zero) = Some d.Public
domain_of (suc (suc n)) = None

-- the kinds of numbers that values have
abbrev pub kinds : List Kind
kinds = k.Int ∷ k.Int8 ∷ k.Int16 ∷ k.Int32 ∷ k.Int64 ∷ k.Int128 ∷ k.UInt ∷ k.UInt8 ∷ k.UInt16 ∷ k.UInt32 ∷ k.UInt64 ∷ k.UInt128
    ∷ k.Word8 ∷ k.Word16 ∷ k.Word32 ∷ k.Word64 ∷ k.Word128 ∷ k.Fix64 ∷ k.UFix64 ∷ []

abbrev pub kept_num : (kind : Kind) (negative : Bool) (magnitude : ℕ) (kept : Bool) → is_kept kind negative magnitude ≡ kept → Option Num
kept_num kind negative magnitude true e = Some (record { kind = kind; negative = negative; magnitude = magnitude; kept = e })
kept_num kind negative magnitude false e = None

-- the number with these parts of its bytes
abbrev pub number_of : ℕ × ℕ × ℕ × ℕ → Option Num
number_of p = slice_get kinds p.0 >>= λ kind. bool_of p.1 >>= λ negative. kept_num kind negative (p.2 * 2 ^ 64 + p.3) (is_kept kind negative (p.2 * 2 ^ 64 + p.3)) refl

abbrev pub as_path : Domain × Name → Path
as_path x = record { domain = x.0; identifier = x.1 }

-- bytes that tell which keys are the same
abbrev pub key_bytes : PureValue → List ℕ
key_bytes (v.string text) = 5 ∷ normal_form text
key_bytes (v.character text) = 6 ∷ normal_form text
key_bytes x = value_bytes x

-- none of these is one of those seen before, or stands twice
abbrev pub all_new : List (List ℕ) → List (List ℕ) → Bool
all_new seen [] = true
all_new seen (x ∷ xs) = not (has_bytes seen x) && all_new (seen ++ x ∷ []) xs

abbrev pub keys_differ : List PureEntry → Bool
keys_differ es = all_new [] (map (λ e. key_bytes e.key) es)

abbrev pub names_differ : List PureField → Bool
names_differ fs = all_new [] (map (λ x. x.name.0) fs)

abbrev pub is_cluster : List ℕ → Bool
is_cluster text = length (characters text) == 1

abbrev pub entry_of : PureValue × PureValue → PureEntry
entry_of x = record { key = x.0; value = x.1 }

abbrev pub field_of : Name × PureValue → PureField
field_of x = record { name = x.0; value = x.1 }

abbrev pub entry_at : At PureValue → At PureEntry
entry_at inner = made_at (then_at inner inner) entry_of

abbrev pub field_at : At PureValue → At PureField
field_at inner = made_at (then_at name_at inner) field_of

abbrev pub whole_type_at : At PureType
whole_type_at = type_at (suc most_nesting)

-- the value of a form, whose parts are read so
abbrev pub value_after : At PureValue → ValueForm → At PureValue
value_after inner f.Void = λ bytes. Some (v.void, bytes)
value_after inner f.Nil = λ bytes. Some (v.nil, bytes)
value_after inner f.Some = made_at inner v.some
value_after inner f.Bool = made_at (found_at byte_at bool_of) v.bool
value_after inner f.Number = made_at (found_at parts_at number_of) v.number
value_after inner f.String = made_at text_at v.string
value_after inner f.Character = made_at (tested_at text_at is_cluster) v.character
value_after inner f.Address = made_at number_at (λ n. v.address (record { 0 = n }))
value_after inner f.Path = made_at (made_at (then_at (found_at byte_at domain_of) name_at) as_path) v.path
value_after inner f.Meta = made_at whole_type_at v.meta
value_after inner f.Capability = made_at (then_at number_at (then_at number_at whole_type_at)) (λ x. v.capability (record { 0 = x.0 }) x.1.0 x.1.1)
value_after inner f.Array = made_at (then_at whole_type_at (list_at inner)) (λ x. v.array x.0 (values_of x.1))
value_after inner f.Dictionary = made_at (then_at whole_type_at (then_at whole_type_at (tested_at (list_at (entry_at inner)) keys_differ))) (λ x. v.dictionary x.0 x.1.0 (entries_of x.1.1))
value_after inner f.Composite = made_at (then_at id_at (then_at number_at (tested_at (list_at (field_at inner)) names_differ))) (λ x. v.composite x.0 x.1.0 (fields_of x.1.1))

-- a value that is at most so high
unfoldable pub value_at : ℕ → At PureValue
value_at zero bytes = None
value_at (suc left) bytes = found_at byte_at (slice_get value_forms) bytes >>= λ form. value_after (value_at left) form.0 form.1

-- the value, or the type, that all of the bytes spell
abbrev pub whole : {A : Type 0} → Option (A × List ℕ) → Option A
whole None = None
whole (Some (x, [])) = Some x
whole (Some (x, (b ∷ bytes))) = None
