-- What a value is told as: the object of its word and content.
use Rattle.std.specs.Prelude.{ℕ, List, [], ◌∷◌, Option, Some, None, codes, decimal}
use Rattle.serde_json.specs.Data.{Data, null, boolean, string, array, Items, no_items, item}
use Rattle.cad_num.specs.Decimal.{written}
use Rattle.cad_syntax.specs.Addresses.{address_text}
use Rattle.cad_syntax.specs.TypeIds.{type_text}
use Rattle.cad_syntax.specs.declared.kind.Kind.TheVariants as k
use Rattle.cad_types.specs.Declarations.{Declaration, found}
use Rattle.cad_types.specs.declared.declared.Sort.{Sort}
use Rattle.cad_types.specs.declared.declared.Sort.TheVariants as s
use Rattle.cad_values.specs.Values as v
use Rattle.cad_values.specs.Values.{PureValue, Values, no_values, values, Entries, no_entries, entries, Fields, no_fields, fields}
use Rattle.cad_json.specs.Words.{kind_word, domain_word, sort_word, typed, number_json, bare, path_json, entry_json, field_json, composite_json}

-- a resource's identity stands before its fields
abbrev pub with_uuid : Sort → ℕ → Items → Items
with_uuid s.Resource identity told = item (field_json (codes "uuid") (typed (kind_word k.UInt64) (string (decimal identity)))) told
with_uuid _ identity told = told

-- a composite that is so declared, with its fields in order
abbrev pub composite_of : Option Declaration → List ℕ → ℕ → Items → Data
composite_of None id identity told = null
composite_of (Some d) id identity told = typed (sort_word d.sort) (composite_json (array (with_uuid d.sort identity told)) id)

-- types, capabilities and references have no form
abbrev mutual
  pub told : List Declaration → PureValue → Data
  told declared v.void = bare (codes "Void")
  told declared v.nil = typed (codes "Optional") null
  told declared (v.some x) = typed (codes "Optional") (told declared x)
  told declared (v.bool x) = typed (codes "Bool") (boolean x)
  told declared (v.number n) = number_json n.kind (written n)
  told declared (v.string text) = typed (codes "String") (string text)
  told declared (v.character text) = typed (codes "Character") (string text)
  told declared (v.address a) = typed (codes "Address") (string (address_text a.0))
  told declared (v.path p) = typed (codes "Path") (path_json (domain_word p.domain) p.identifier.0)
  told declared (v.array t vs) = typed (codes "Array") (array (told_values declared vs))
  told declared (v.dictionary key value es) = typed (codes "Dictionary") (array (told_entries declared es))
  told declared (v.composite id identity fs) = composite_of (found declared id) (type_text id) identity (told_fields declared fs)
  told declared _ = null

  pub told_values : List Declaration → Values → Items
  told_values declared no_values = no_items
  told_values declared (values x vs) = item (told declared x) (told_values declared vs)

  pub told_entries : List Declaration → Entries → Items
  told_entries declared no_entries = no_items
  told_entries declared (entries key x es) = item (entry_json (told declared key) (told declared x)) (told_entries declared es)

  pub told_fields : List Declaration → Fields → Items
  told_fields declared no_fields = no_items
  told_fields declared (fields n x fs) = item (field_json n.0 (told declared x)) (told_fields declared fs)
