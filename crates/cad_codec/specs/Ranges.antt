-- What each value that was written meets: its numbers have 64 bits, its texts are UTF-8, and its lists and texts are shorter
-- than 2^32.
use Rattle.std.specs.Prelude.{ℕ, ◌^◌, ◌<◌, List, length}
use Rattle.std.specs.List.{AllByRecursion}
use Rattle.std.specs.Str.{IsUtf8}
use Rattle.cad_syntax.specs.Types.{PureType, basic, optional, array, dictionary, intersection, declared, reference, capability, capability_of}
use Rattle.cad_syntax.specs.declared.text.Name.{Name}
use Rattle.cad_syntax.specs.declared.type_id.TypeId.{TypeId}
use Rattle.cad_syntax.specs.declared.types.Authorization.{Authorization}
use Rattle.cad_syntax.specs.declared.types.Authorization.TheVariants as a
use Rattle.cad_values.specs.Values as v
use Rattle.cad_values.specs.Values.{PureValue, Values, no_values, values, elements, Entries, no_entries, entries, keys, Fields, no_fields, fields, names}

abbrev pub TextInRange : List ℕ → Type 0
TextInRange text = IsUtf8 text × (length text < 2 ^ 32)

abbrev pub NameInRange : Name → Type 0
NameInRange name = TextInRange name.0

abbrev pub IdInRange : TypeId → Type 0
IdInRange id = (id.address.0 < 2 ^ 64) × (length id.names < 2 ^ 32) × AllByRecursion NameInRange id.names

abbrev pub IdsInRange : List TypeId → Type 0
IdsInRange ids = (length ids < 2 ^ 32) × AllByRecursion IdInRange ids

abbrev pub AuthorizationInRange : Authorization → Type 0
AuthorizationInRange a.Unauthorized = Unit {0}
AuthorizationInRange (a.All ids) = IdsInRange ids
AuthorizationInRange (a.Any ids) = IdsInRange ids

abbrev pub TypeInRange : PureType → Type 0
TypeInRange (basic t) = Unit {0}
TypeInRange (optional t) = TypeInRange t
TypeInRange (array t) = TypeInRange t
TypeInRange (dictionary k t) = TypeInRange k × TypeInRange t
TypeInRange (declared id) = IdInRange id
TypeInRange (intersection ids) = IdsInRange ids
TypeInRange (reference authorization t) = AuthorizationInRange authorization × TypeInRange t
TypeInRange (capability_of t) = TypeInRange t
TypeInRange capability = Unit {0}

abbrev mutual
  pub InRange : PureValue → Type 0
  InRange (v.some x) = InRange x
  InRange (v.string text) = TextInRange text
  InRange (v.character text) = TextInRange text
  InRange (v.address a) = a.0 < 2 ^ 64
  InRange (v.path p) = NameInRange p.identifier
  InRange (v.meta t) = TypeInRange t
  InRange (v.capability a n t) = (a.0 < 2 ^ 64) × (n < 2 ^ 64) × TypeInRange t
  InRange (v.array t vs) = TypeInRange t × (length (elements vs) < 2 ^ 32) × ValuesInRange vs
  InRange (v.dictionary k t es) = TypeInRange k × TypeInRange t × (length (keys es) < 2 ^ 32) × EntriesInRange es
  InRange (v.composite id n fs) = IdInRange id × (n < 2 ^ 64) × (length (names fs) < 2 ^ 32) × FieldsInRange fs
  InRange _ = Unit {0}

  pub ValuesInRange : Values → Type 0
  ValuesInRange no_values = Unit {0}
  ValuesInRange (values x vs) = InRange x × ValuesInRange vs

  pub EntriesInRange : Entries → Type 0
  EntriesInRange no_entries = Unit {0}
  EntriesInRange (entries k x es) = (InRange k × InRange x) × EntriesInRange es

  pub FieldsInRange : Fields → Type 0
  FieldsInRange no_fields = Unit {0}
  FieldsInRange (fields n x fs) = (NameInRange n × InRange x) × FieldsInRange fs
