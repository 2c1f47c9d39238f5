-- When two types, two keys of a dictionary and two values are the same, as tests.
use Rattle.std.specs.Prelude.{ℕ, Bool, true, false, not, ◌&&◌, ◌==◌, List, length, Option, Some, None, if◌then◌else◌}
use Rattle.std.specs.Cmp.Lexicographic.{pointwise}
use Rattle.cad_syntax.specs.TypeIds.{same_id}
use Rattle.cad_syntax.specs.Types.{PureType}
use Rattle.cad_syntax.specs.Types as t
use Rattle.cad_syntax.specs.declared.address.Domain.{Domain}
use Rattle.cad_syntax.specs.declared.address.Domain.TheVariants as d
use Rattle.cad_syntax.specs.declared.address.Path.{Path}
use Rattle.cad_syntax.specs.declared.num.Num.{Num}
use Rattle.cad_syntax.specs.declared.type_id.TypeId.{TypeId}
use Rattle.cad_syntax.specs.declared.types.Authorization.{Authorization}
use Rattle.cad_syntax.specs.declared.types.Authorization.TheVariants as a
use Rattle.cad_text.specs.Texts.{normal_form}
use Rattle.cad_types.specs.Basics.{kind_number, same_basic}
use Rattle.cad_declarations.specs.Names.{same_name}
use Rattle.cad_values.specs.Values.{PureValue, nil, some, bool, number, string, character, address, path, meta, array, dictionary, composite, Values, no_values, values, Entries, no_entries, entries, keys, no_fields, fields}

abbrev pub same_truth : Bool → Bool → Bool
same_truth true x = x
same_truth false x = not x

abbrev pub same_text : List ℕ → List ℕ → Bool
same_text x y = pointwise ◌==◌ x y

abbrev pub same_ids : List TypeId → List TypeId → Bool
same_ids x y = pointwise same_id x y

-- equal as they are listed
abbrev pub same_authorization : Authorization → Authorization → Bool
same_authorization a.Unauthorized a.Unauthorized = true
same_authorization (a.All x) (a.All y) = same_ids x y
same_authorization (a.Any x) (a.Any y) = same_ids x y
same_authorization _ _ = false

abbrev pub same_type : PureType → PureType → Bool
same_type (t.basic x) (t.basic y) = same_basic x y
same_type (t.optional x) (t.optional y) = same_type x y
same_type (t.array x) (t.array y) = same_type x y
same_type (t.dictionary x v) (t.dictionary y w) = same_type x y && same_type v w
same_type (t.intersection x) (t.intersection y) = same_ids x y
same_type (t.declared x) (t.declared y) = same_id x y
same_type (t.reference a x) (t.reference b y) = same_authorization a b && same_type x y
same_type t.capability t.capability = true
same_type (t.capability_of x) (t.capability_of y) = same_type x y
same_type _ _ = false

abbrev pub same_number : Num → Num → Bool
same_number x y = (kind_number x.kind == kind_number y.kind) && same_truth x.negative y.negative && (x.magnitude == y.magnitude)

abbrev pub same_domain : Domain → Domain → Bool
same_domain d.Storage d.Storage = true
same_domain d.Public d.Public = true
same_domain _ _ = false

abbrev pub same_path : Path → Path → Bool
same_path x y = same_domain x.domain y.domain && same_name x.identifier y.identifier

-- Two keys: texts and characters by their NFC forms, cases of an enum by their numbers.
abbrev pub same_key : PureValue → PureValue → Bool
same_key (bool x) (bool y) = same_truth x y
same_key (number x) (number y) = same_number x y
same_key (string x) (string y) = same_text (normal_form x) (normal_form y)
same_key (character x) (character y) = same_text (normal_form x) (normal_form y)
same_key (address x) (address y) = x.0 == y.0
same_key (path x) (path y) = same_path x y
same_key (meta x) (meta y) = same_type x y
same_key (composite x i (fields n (number v) no_fields)) (composite y j (fields m (number w) no_fields)) = same_id x y && same_number v w
same_key _ _ = false

-- what stands under the key
abbrev pub under : PureValue → Entries → Option PureValue
under key no_entries = None
under key (entries k v es) = if same_key key k then Some v else under key es

abbrev pub is_so : {A : Type 0} → (A → Bool) → Option A → Bool
is_so test None = false
is_so test (Some x) = test x

-- Two values: containers by what they hold whatever their own types are, dictionaries whatever the order of their keys is.
abbrev mutual
  pub equal : PureValue → PureValue → Bool
  equal nil nil = true
  equal (some v) (some w) = equal v w
  equal (array x vs) (array y ws) = equal_elements vs ws
  equal (dictionary k x es) (dictionary l y fs) = (length (keys es) == length (keys fs)) && all_under es fs
  equal v w = same_key v w

  pub equal_elements : Values → Values → Bool
  equal_elements no_values no_values = true
  equal_elements (values v vs) (values w ws) = equal v w && equal_elements vs ws
  equal_elements _ _ = false

  -- under each of these keys an equal value stands there
  pub all_under : Entries → Entries → Bool
  all_under no_entries fs = true
  all_under (entries k v es) fs = is_so (equal v) (under k fs) && all_under es fs
