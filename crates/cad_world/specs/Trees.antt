-- Values as trees: made of a value and made a value again, their weights and heights.
use Rattle.std.specs.Prelude.{ℕ, zero, suc, ◌+◌, max, List, [], ◌∷◌}
use Rattle.cad_syntax.specs.Types.{basic}
use Rattle.cad_syntax.specs.declared.text.Name.{Name}
use Rattle.cad_syntax.specs.declared.types.Basic.TheVariants as b
use Rattle.cad_values.specs.Sizes.{weight, height}
use Rattle.cad_values.specs.Values.{PureValue, nil, some, Values, no_values, values, Entries, no_entries, entries, keys, Fields, no_fields, fields, names}
use Rattle.cad_values.specs.Values as v
use Rattle.cad_values.specs.declared.value.Target.TheVariants.{Node}
use Rattle.cad_world.specs.Rows.{NodeShape, plain, link, array, dictionary, composite, Row, stop, gap, node, Tree, first}

-- a node without optionals and parts
abbrev pub leaf : NodeShape → Tree
leaf shape = record { optionals = 0; shape = shape; parts = stop }

abbrev pub of_plain : PureValue → Tree
of_plain v = leaf (plain v)

abbrev pub whole : NodeShape → Row → Tree
whole shape parts = record { optionals = 0; shape = shape; parts = parts }

-- in one optional more
abbrev pub wrapped : Tree → Tree
wrapped t = record t { optionals = suc t.optionals }

abbrev pub nil_tree : Tree
nil_tree = of_plain nil

abbrev mutual
  pub tree_of : PureValue → Tree
  tree_of (some v) = wrapped (tree_of v)
  tree_of (v.array t vs) = whole (array t) (row_of vs)
  tree_of (v.dictionary k t es) = whole (dictionary k t (keys es)) (entries_row es)
  tree_of (v.composite id n fs) = whole (composite id n (names fs)) (fields_row fs)
  tree_of v = of_plain v

  pub row_of : Values → Row
  row_of no_values = stop
  row_of (values v vs) = first (tree_of v) (row_of vs)

  pub entries_row : Entries → Row
  entries_row no_entries = stop
  entries_row (entries k v es) = first (tree_of v) (entries_row es)

  pub fields_row : Fields → Row
  fields_row no_fields = stop
  fields_row (fields n v fs) = first (tree_of v) (fields_row fs)

-- ---- and back

abbrev pub in_optionals : ℕ → PureValue → PureValue
in_optionals zero v = v
in_optionals (suc n) v = some (in_optionals n v)

abbrev pub keyed : List PureValue → Values → Entries
keyed (k ∷ ks) (values v vs) = entries k v (keyed ks vs)
keyed _ _ = no_entries

abbrev pub named_values : List Name → Values → Fields
named_values (n ∷ ns) (values v vs) = fields n v (named_values ns vs)
named_values _ _ = no_fields

-- the value of a shape over these parts; a reference to a node tells no type
abbrev pub shaped : NodeShape → Values → PureValue
shaped (plain v) vs = v
shaped (link a l n) vs = v.reference a (basic b.Never) (Node l)
shaped (array t) vs = v.array t vs
shaped (dictionary k t ks) vs = v.dictionary k t (keyed ks vs)
shaped (composite id i ns) vs = v.composite id i (named_values ns vs)

-- an empty place has no value
abbrev pub values_in : Row → Values
values_in stop = no_values
values_in (gap r) = values_in r
values_in (node l n s k r) = values (in_optionals n (shaped s (values_in k))) (values_in r)

abbrev pub value_of : Tree → PureValue
value_of t = in_optionals t.optionals (shaped t.shape (values_in t.parts))

-- ---- weights and heights

abbrev pub keys_weight : List PureValue → ℕ
keys_weight [] = 0
keys_weight (k ∷ ks) = weight k + keys_weight ks

abbrev pub keys_height : List PureValue → ℕ
keys_height [] = 0
keys_height (k ∷ ks) = max (height k) (keys_height ks)

-- without the parts
abbrev pub shape_weight : NodeShape → ℕ
shape_weight (plain v) = weight v
shape_weight (link a l n) = 1
shape_weight (array t) = 1
shape_weight (dictionary k t ks) = 1 + keys_weight ks
shape_weight (composite id i ns) = 1

-- 1 where nothing is inside
abbrev pub shape_height : NodeShape → ℕ → ℕ
shape_height (plain v) parts = height v
shape_height (link a l n) parts = 1
shape_height (array t) parts = 1 + parts
shape_height (dictionary k t ks) parts = 1 + max (keys_height ks) parts
shape_height (composite id i ns) parts = 1 + parts

abbrev pub row_weight : Row → ℕ
row_weight stop = 0
row_weight (gap r) = row_weight r
row_weight (node l n s k r) = shape_weight s + row_weight k + row_weight r

abbrev pub tree_weight : Tree → ℕ
tree_weight t = shape_weight t.shape + row_weight t.parts

-- each optional counts as a level
abbrev pub row_height : Row → ℕ
row_height stop = 0
row_height (gap r) = row_height r
row_height (node l n s k r) = max (n + shape_height s (row_height k)) (row_height r)

abbrev pub tree_height : Tree → ℕ
tree_height t = t.optionals + shape_height t.shape (row_height t.parts)
