-- The words and objects of JSON-Cadence.
use Rattle.std.specs.Prelude.{ℕ, Bool, true, false, List, [], ◌∷◌, codes, if◌then◌else◌}
use Rattle.serde_json.specs.Data.{Data, null, string, object, Members, no_members, member}
use Rattle.cad_syntax.specs.declared.address.Domain.{Domain}
use Rattle.cad_syntax.specs.declared.address.Domain.TheVariants as d
use Rattle.cad_syntax.specs.declared.kind.Kind.{Kind}
use Rattle.cad_syntax.specs.declared.kind.Kind.TheVariants as k
use Rattle.cad_types.specs.declared.declared.Sort.{Sort}
use Rattle.cad_types.specs.declared.declared.Sort.TheVariants as s

abbrev pub kind_word : Kind → List ℕ
kind_word k.Int = codes "Int"
kind_word k.Int8 = codes "Int8"
kind_word k.Int16 = codes "Int16"
kind_word k.Int32 = codes "Int32"
kind_word k.Int64 = codes "Int64"
kind_word k.Int128 = codes "Int128"
kind_word k.UInt = codes "UInt"
kind_word k.UInt8 = codes "UInt8"
kind_word k.UInt16 = codes "UInt16"
kind_word k.UInt32 = codes "UInt32"
kind_word k.UInt64 = codes "UInt64"
kind_word k.UInt128 = codes "UInt128"
kind_word k.Word8 = codes "Word8"
kind_word k.Word16 = codes "Word16"
kind_word k.Word32 = codes "Word32"
kind_word k.Word64 = codes "Word64"
kind_word k.Word128 = codes "Word128"
kind_word k.Fix64 = codes "Fix64"
kind_word k.UFix64 = codes "UFix64"
kind_word k.Address = codes "Address"

abbrev pub domain_word : Domain → List ℕ
domain_word d.Storage = codes "storage"
domain_word d.Public = codes "public"

-- the word of a composite's sort; contracts and interfaces have no values in JSON, and no word
abbrev pub sort_word : Sort → List ℕ
sort_word s.Struct = codes "Struct"
sort_word s.Resource = codes "Resource"
sort_word s.Event = codes "Event"
sort_word s.Enum = codes "Enum"
sort_word _ = []

abbrev pub two : List ℕ → Data → List ℕ → Data → Data
two key value other second = object (member key value (member other second no_members))

-- a value: its word and what is told of it
abbrev pub typed : List ℕ → Data → Data
typed word value = two (codes "type") (string word) (codes "value") value

abbrev pub is_address : Kind → Bool
is_address k.Address = true
is_address _ = false

-- a number by its text; no number is of the kind of addresses
abbrev pub number_json : Kind → List ℕ → Data
number_json kind text = if is_address kind then null else typed (kind_word kind) (string text)

-- a value of which nothing is told
abbrev pub bare : List ℕ → Data
bare word = object (member (codes "type") (string word) no_members)

abbrev pub path_json : List ℕ → List ℕ → Data
path_json domain identifier = two (codes "domain") (string domain) (codes "identifier") (string identifier)

abbrev pub entry_json : Data → Data → Data
entry_json key value = two (codes "key") key (codes "value") value

abbrev pub field_json : List ℕ → Data → Data
field_json name value = two (codes "name") (string name) (codes "value") value

abbrev pub composite_json : Data → List ℕ → Data
composite_json fields id = two (codes "fields") fields (codes "id") (string id)
