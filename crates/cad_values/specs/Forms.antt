-- Which values can be stored, and which a reply can tell.
use Rattle.std.specs.Prelude.{Bool, true, false, ◌&&◌}
use Rattle.cad_values.specs.Values.{PureValue, void, some, meta, capability, array, dictionary, composite, reference, Values, no_values, values, Entries, no_entries, entries, Fields, no_fields, fields}

-- what has no parts and can be stored: all but Void and references
abbrev pub is_plain_storable : PureValue → Bool
is_plain_storable void = false
is_plain_storable (reference a t to) = false
is_plain_storable _ = true

-- what has no parts and a form in JSON-Cadence: all but types, capabilities and references
abbrev pub is_plain_told : PureValue → Bool
is_plain_told (meta t) = false
is_plain_told (capability a n t) = false
is_plain_told (reference a t to) = false
is_plain_told _ = true

abbrev pub is_plain_lasting : PureValue → Bool
is_plain_lasting (reference a t to) = false
is_plain_lasting _ = true

-- a value without parts passes the test, or all parts of another do, at any depth
abbrev mutual
  pub all_parts : (PureValue → Bool) → PureValue → Bool
  all_parts test (some v) = all_parts test v
  all_parts test (array t vs) = all_values test vs
  all_parts test (dictionary k t es) = all_entries test es
  all_parts test (composite id n fs) = all_fields test fs
  all_parts test v = test v

  pub all_values : (PureValue → Bool) → Values → Bool
  all_values test no_values = true
  all_values test (values v vs) = all_parts test v && all_values test vs

  pub all_entries : (PureValue → Bool) → Entries → Bool
  all_entries test no_entries = true
  all_entries test (entries k v es) = all_parts test k && all_parts test v && all_entries test es

  pub all_fields : (PureValue → Bool) → Fields → Bool
  all_fields test no_fields = true
  all_fields test (fields n v fs) = all_parts test v && all_fields test fs

-- nothing in it, at any depth, is Void or a reference
abbrev pub is_storable_value : PureValue → Bool
is_storable_value = all_parts is_plain_storable

-- each part has a form in JSON-Cadence
abbrev pub is_told : PureValue → Bool
is_told = all_parts is_plain_told

-- nothing in it, at any depth, is a reference
abbrev pub has_no_reference : PureValue → Bool
has_no_reference = all_parts is_plain_lasting
