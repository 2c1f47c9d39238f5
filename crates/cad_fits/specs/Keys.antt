-- That the keys of the dictionaries in a value differ.
use Rattle.std.specs.Prelude.{◌≢◌, List, map}
use Rattle.std.specs.List.{AllByRecursion}
use Rattle.cad_values.specs.Keys.{key_form, KeysDiffer}
use Rattle.cad_values.specs.Values.{PureValue, PureEntry, some, array, dictionary, composite, Values, no_values, values, Entries, no_entries, entries, keys, Fields, no_fields, fields}

-- at any depth
abbrev mutual
  pub Apart : PureValue → Type 0
  Apart (some v) = Apart v
  Apart (array t vs) = ValuesApart vs
  Apart (dictionary key t es) = KeysDiffer (keys es) × EntriesApart es
  Apart (composite id n fs) = FieldsApart fs
  Apart _ = Unit {0}

  pub ValuesApart : Values → Type 0
  ValuesApart no_values = Unit {0}
  ValuesApart (values v vs) = Apart v × ValuesApart vs

  pub EntriesApart : Entries → Type 0
  EntriesApart no_entries = Unit {0}
  EntriesApart (entries key v es) = (Apart key × Apart v) × EntriesApart es

  pub FieldsApart : Fields → Type 0
  FieldsApart no_fields = Unit {0}
  FieldsApart (fields n v fs) = Apart v × FieldsApart fs

-- no key of these has a form
abbrev pub Lacks : PureValue → List PureValue → Type 0
Lacks form ks = AllByRecursion (λ y. y ≢ form) (map key_form ks)

abbrev pub EntryApart : PureEntry → Type 0
EntryApart e = Apart e.key × Apart e.value
