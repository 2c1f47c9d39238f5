-- Which values and types have bytes.
use Rattle.std.specs.Prelude.{◌≢◌, ◌≤◌, ℕ, List, []}
use Rattle.cad_syntax.specs.Types.{PureType, basic, optional, array, dictionary, intersection, declared, reference, capability, capability_of, nesting}
use Rattle.cad_syntax.specs.declared.kind.Kind.TheVariants.{Address}
use Rattle.cad_values.specs.Fits.{IsCharacter}
use Rattle.cad_values.specs.Keys.{Distinct, KeysDiffer}
use Rattle.cad_values.specs.Sizes.{height, most_high}
use Rattle.cad_values.specs.Values as v
use Rattle.cad_values.specs.Values.{PureValue, Values, no_values, values, Entries, no_entries, entries, keys, Fields, no_fields, fields, names}
use Rattle.cad_codec.specs.Ranges.{TypeInRange, InRange}

-- no intersection in it is of no interfaces
abbrev pub NoneIsEmpty : PureType → Type 0
NoneIsEmpty (optional t) = NoneIsEmpty t
NoneIsEmpty (array t) = NoneIsEmpty t
NoneIsEmpty (dictionary k t) = NoneIsEmpty k × NoneIsEmpty t
NoneIsEmpty (intersection ids) = ids ≢ []
NoneIsEmpty (reference authorization t) = NoneIsEmpty t
NoneIsEmpty (capability_of t) = NoneIsEmpty t
NoneIsEmpty _ = Unit {0}

-- how deep a type nests at most
abbrev pub most_nesting : ℕ
most_nesting = 1024

abbrev pub IsTypeForm : PureType → Type 0
IsTypeForm t = NoneIsEmpty t × (nesting t ≤ most_nesting)

-- At any depth: numbers are of no kind of addresses, characters are one cluster, keys and names of fields differ, types are of
-- their form, and nothing is a reference.
abbrev mutual
  pub IsForm : PureValue → Type 0
  IsForm (v.some x) = IsForm x
  IsForm (v.number n) = n.kind ≢ Address
  IsForm (v.character text) = IsCharacter text
  IsForm (v.meta t) = IsTypeForm t
  IsForm (v.capability a n t) = IsTypeForm t
  IsForm (v.array t vs) = IsTypeForm t × AreForms vs
  IsForm (v.dictionary k t es) = IsTypeForm k × IsTypeForm t × EntriesAreForms es × KeysDiffer (keys es)
  IsForm (v.composite id n fs) = FieldsAreForms fs × Distinct (names fs)
  IsForm (v.reference a t to) = ⊥
  IsForm _ = Unit {0}

  pub AreForms : Values → Type 0
  AreForms no_values = Unit {0}
  AreForms (values x vs) = IsForm x × AreForms vs

  pub EntriesAreForms : Entries → Type 0
  EntriesAreForms no_entries = Unit {0}
  EntriesAreForms (entries k x es) = (IsForm k × IsForm x) × EntriesAreForms es

  pub FieldsAreForms : Fields → Type 0
  FieldsAreForms no_fields = Unit {0}
  FieldsAreForms (fields n x fs) = IsForm x × FieldsAreForms fs

-- a value of this form, of height 256 at most
abbrev pub IsValueForm : PureValue → Type 0
IsValueForm x = IsForm x × (height x ≤ most_high)

-- the types and values that have bytes
abbrev pub TypeHasBytes : PureType → Type 0
TypeHasBytes t = TypeInRange t × IsTypeForm t

abbrev pub HasBytes : PureValue → Type 0
HasBytes x = InRange x × IsValueForm x
