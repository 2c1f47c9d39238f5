-- Values as bytes.
use Rattle.std.specs.Prelude.{ℕ, List, [], ◌∷◌, ◌++◌, length}
use Rattle.cad_number_codec.specs.Spelling.{sign_byte, number_bytes}
use Rattle.cad_syntax.specs.declared.address.Domain.{Domain}
use Rattle.cad_syntax.specs.declared.address.Domain.TheVariants as d
use Rattle.cad_values.specs.Values.{PureValue, void, nil, some, bool, number, string, character, address, path, meta, capability, array, dictionary, composite, reference, Values, no_values, values, elements, Entries, no_entries, entries, keys, Fields, no_fields, fields, names}
use Rattle.cad_wire.specs.Fields.{bytes_field}
use Rattle.cad_codec.specs.TypeBytes.{word, counted, id_bytes, type_bytes}

abbrev pub domain_byte : Domain → ℕ
domain_byte d.Storage = 0
domain_byte d.Public = 1

-- A list is its length and its members. A reference has no bytes.
abbrev mutual
  pub value_bytes : PureValue → List ℕ
  value_bytes void = 0 ∷ []
  value_bytes nil = 1 ∷ []
  value_bytes (some v) = 2 ∷ value_bytes v
  value_bytes (bool b) = 3 ∷ sign_byte b ∷ []
  value_bytes (number n) = number_bytes n
  value_bytes (string text) = 5 ∷ bytes_field text
  value_bytes (character text) = 6 ∷ bytes_field text
  value_bytes (address a) = 7 ∷ word a.0
  value_bytes (path p) = 8 ∷ domain_byte p.domain ∷ bytes_field p.identifier.0
  value_bytes (meta t) = 9 ∷ type_bytes t
  value_bytes (capability a n t) = 10 ∷ (word a.0 ++ (word n ++ type_bytes t))
  value_bytes (array t vs) = 11 ∷ (type_bytes t ++ counted (length (elements vs)) (values_bytes vs))
  value_bytes (dictionary k t es) = 12 ∷ (type_bytes k ++ (type_bytes t ++ counted (length (keys es)) (entries_bytes es)))
  value_bytes (composite id n fs) = 13 ∷ (id_bytes id ++ (word n ++ counted (length (names fs)) (fields_bytes fs)))
  value_bytes (reference a t to) = []

  pub values_bytes : Values → List ℕ
  values_bytes no_values = []
  values_bytes (values v vs) = value_bytes v ++ values_bytes vs

  pub entries_bytes : Entries → List ℕ
  entries_bytes no_entries = []
  entries_bytes (entries k v es) = (value_bytes k ++ value_bytes v) ++ entries_bytes es

  pub fields_bytes : Fields → List ℕ
  fields_bytes no_fields = []
  fields_bytes (fields n v fs) = (bytes_field n.0 ++ value_bytes v) ++ fields_bytes fs

-- a list: its length, and its members
abbrev pub values_field : Values → List ℕ
values_field vs = counted (length (elements vs)) (values_bytes vs)

abbrev pub entries_field : Entries → List ℕ
entries_field es = counted (length (keys es)) (entries_bytes es)

abbrev pub fields_field : Fields → List ℕ
fields_field fs = counted (length (names fs)) (fields_bytes fs)
