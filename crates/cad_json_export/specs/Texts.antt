-- The texts of values, part by part.
use Rattle.std.specs.Prelude.{ℕ, Bool, true, false, ◌&&◌, not, List, [], ◌∷◌, ◌++◌, codes, nat_le, ◌==◌, decimal}
use Rattle.std.specs.List.{list_all}
use Rattle.json.specs.Print.{quoted}
use Rattle.serde_json.specs.Written.{compact_text, items_text}
use Rattle.cad_syntax.specs.TypeIds.{type_text}
use Rattle.cad_syntax.specs.declared.text.Name.{Name}
use Rattle.cad_syntax.specs.declared.type_id.TypeId.{TypeId}
use Rattle.cad_types.specs.Declarations.{Declaration}
use Rattle.cad_types.specs.declared.declared.Sort.{Sort}
use Rattle.cad_types.specs.declared.declared.Sort.TheVariants as s
use Rattle.cad_values.specs.Values.{PureValue, Values, Entries, Fields}
use Rattle.cad_json.specs.Told as t
use Rattle.cad_json.specs.Words.{sort_word, entry_json, field_json}

-- a byte that stands for itself between quotes
abbrev pub is_plain_byte : ℕ → Bool
is_plain_byte x = nat_le 32 x && (not (x == 34) && not (x == 92))

abbrev pub is_plain : List ℕ → Bool
is_plain = list_all is_plain_byte

-- a text between quotes
unfoldable pub quotation : List ℕ → List ℕ
quotation = quoted

-- what stands before the content of a value, and behind it
unfoldable pub head : List ℕ → List ℕ
head word = codes "{\"type\":\"" ++ (word ++ codes "\",\"value\":")

abbrev pub close : List ℕ
close = 125 ∷ []

-- a value whose content is a text
abbrev pub text_value : List ℕ → List ℕ → List ℕ
text_value word content = head word ++ (quotation content ++ close)

unfoldable pub value_text : List Declaration → PureValue → List ℕ
value_text declared v = compact_text (t.told declared v)

-- the members of a list from some place on, with a comma before them where something stands there, and the closing bracket
unfoldable pub values_text : List Declaration → Bool → Values → List ℕ
values_text declared later vs = items_text later (t.told_values declared vs)

unfoldable pub entries_text : List Declaration → Bool → Entries → List ℕ
entries_text declared later es = items_text later (t.told_entries declared es)

unfoldable pub fields_text : List Declaration → Bool → Fields → List ℕ
fields_text declared later fs = items_text later (t.told_fields declared fs)

unfoldable pub entry_text : List Declaration → PureValue → PureValue → List ℕ
entry_text declared key x = compact_text (entry_json (t.told declared key) (t.told declared x))

unfoldable pub field_text : List Declaration → Name → PureValue → List ℕ
field_text declared n x = compact_text (field_json n.0 (t.told declared x))

abbrev pub is_resource : Sort → Bool
is_resource s.Resource = true
is_resource _ = false

-- the identity of a resource
abbrev pub uuid_text : ℕ → List ℕ
uuid_text identity = codes "{\"name\":\"uuid\",\"value\":{\"type\":\"UInt64\",\"value\":" ++ (quotation (decimal identity) ++ codes "}}")

abbrev pub identity_text : Sort → ℕ → List ℕ
identity_text s.Resource identity = uuid_text identity
identity_text _ identity = []

-- what stands before and behind the fields of a composite
unfoldable pub before_fields : Sort → ℕ → List ℕ
before_fields sort identity = head (sort_word sort) ++ (codes "{\"fields\":[" ++ identity_text sort identity)

unfoldable pub behind_fields : TypeId → List ℕ
behind_fields id = codes ",\"id\":" ++ (quotation (type_text id) ++ codes "}}")
