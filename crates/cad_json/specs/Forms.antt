-- Which values have a form in JSON.
use Rattle.std.specs.Prelude.{Bool, true, false, not, ◌&&◌, List}
use Rattle.cad_json.specs.Words.{is_address}
use Rattle.cad_types.specs.Classes.{has_sort}
use Rattle.cad_types.specs.Declarations.{Declaration, found}
use Rattle.cad_types.specs.declared.declared.Sort.{Sort}
use Rattle.cad_types.specs.declared.declared.Sort.TheVariants as s
use Rattle.cad_values.specs.Values as v
use Rattle.cad_values.specs.Values.{PureValue, Values, no_values, values, Entries, no_entries, entries, Fields, no_fields, fields}

-- the sorts of composites that have a form: all but contracts and interfaces
abbrev pub is_told_sort : Sort → Bool
is_told_sort s.Struct = true
is_told_sort s.Resource = true
is_told_sort s.Event = true
is_told_sort s.Enum = true
is_told_sort _ = false

-- Each part of a value has a form: it is no type, capability or reference, no number of the kind of addresses, and a composite
-- is declared, of such a sort.
abbrev mutual
  pub has_form : List Declaration → PureValue → Bool
  has_form declared (v.some x) = has_form declared x
  has_form declared (v.number n) = not (is_address n.kind)
  has_form declared (v.array t vs) = values_have_form declared vs
  has_form declared (v.dictionary key value es) = entries_have_form declared es
  has_form declared (v.composite id identity fs) = has_sort is_told_sort (found declared id) && fields_have_form declared fs
  has_form declared (v.meta t) = false
  has_form declared (v.capability a n t) = false
  has_form declared (v.reference a t to) = false
  has_form declared _ = true

  pub values_have_form : List Declaration → Values → Bool
  values_have_form declared no_values = true
  values_have_form declared (values x vs) = has_form declared x && values_have_form declared vs

  pub entries_have_form : List Declaration → Entries → Bool
  entries_have_form declared no_entries = true
  entries_have_form declared (entries key x es) = (has_form declared key && has_form declared x) && entries_have_form declared es

  pub fields_have_form : List Declaration → Fields → Bool
  fields_have_form declared no_fields = true
  fields_have_form declared (fields n x fs) = has_form declared x && fields_have_form declared fs
