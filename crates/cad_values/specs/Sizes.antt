-- How much a value weighs, how high it is, and the identities in it.
use Rattle.std.specs.Prelude.{ℕ, zero, suc, ◌+◌, ◌/◌, max, List, [], ◌∷◌, ◌++◌, length}
use Rattle.cad_values.specs.Values.{PureValue, some, string, array, dictionary, composite, Values, no_values, values, Entries, no_entries, entries, Fields, no_fields, fields}

-- 1 and one for each started 256 bytes
abbrev pub text_weight : List ℕ → ℕ
text_weight text = 1 + (length text + 255) / 256

-- 1 of a plain value and of nil; an optional weighs what its content does, and what has parts weighs 1 more than they
abbrev mutual
  pub weight : PureValue → ℕ
  weight (some v) = weight v
  weight (string text) = text_weight text
  weight (array t vs) = 1 + values_weight vs
  weight (dictionary k t es) = 1 + entries_weight es
  weight (composite id n fs) = 1 + fields_weight fs
  weight _ = 1

  pub values_weight : Values → ℕ
  values_weight no_values = 0
  values_weight (values v vs) = weight v + values_weight vs

  pub entries_weight : Entries → ℕ
  entries_weight no_entries = 0
  entries_weight (entries k v es) = weight k + weight v + entries_weight es

  pub fields_weight : Fields → ℕ
  fields_weight no_fields = 0
  fields_weight (fields n v fs) = weight v + fields_weight fs

-- 1 of what has nothing inside, and one more than the highest part of all else
abbrev mutual
  pub height : PureValue → ℕ
  height (some v) = 1 + height v
  height (array t vs) = 1 + values_height vs
  height (dictionary k t es) = 1 + entries_height es
  height (composite id n fs) = 1 + fields_height fs
  height _ = 1

  pub values_height : Values → ℕ
  values_height no_values = 0
  values_height (values v vs) = max (height v) (values_height vs)

  pub entries_height : Entries → ℕ
  entries_height no_entries = 0
  entries_height (entries k v es) = max (max (height k) (height v)) (entries_height es)

  pub fields_height : Fields → ℕ
  fields_height no_fields = 0
  fields_height (fields n v fs) = max (height v) (fields_height fs)

-- the greatest height of what is stored and handed over
abbrev pub most_high : ℕ
most_high = 256

-- a composite's own identity, if it has one
abbrev pub own_identity : ℕ → List ℕ
own_identity zero = []
own_identity (suc n) = suc n ∷ []

-- the identities in a value, that of the outer resource before those inside
abbrev mutual
  pub identities : PureValue → List ℕ
  identities (some v) = identities v
  identities (array t vs) = values_identities vs
  identities (dictionary k t es) = entries_identities es
  identities (composite id n fs) = own_identity n ++ fields_identities fs
  identities _ = []

  pub values_identities : Values → List ℕ
  values_identities no_values = []
  values_identities (values v vs) = identities v ++ values_identities vs

  pub entries_identities : Entries → List ℕ
  entries_identities no_entries = []
  entries_identities (entries k v es) = identities k ++ identities v ++ entries_identities es

  pub fields_identities : Fields → List ℕ
  fields_identities no_fields = []
  fields_identities (fields n v fs) = identities v ++ fields_identities fs
