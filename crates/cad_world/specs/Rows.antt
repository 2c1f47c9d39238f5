-- Values as nodes in rows of places. A node has a label for each time that something named it, and loses them all when it
-- leaves its place; so a value in hand has none, and how values are loaded, copied, moved and built takes no number.
use Rattle.std.specs.Prelude.{ℕ, zero, suc, Bool, true, false, ◌||◌, ◌==◌, List, [], ◌∷◌, ◌++◌, Option, Some, None, if◌then◌else◌}
use Rattle.cad_syntax.specs.Types.{PureType}
use Rattle.cad_syntax.specs.declared.text.Name.{Name}
use Rattle.cad_syntax.specs.declared.type_id.TypeId.{TypeId}
use Rattle.cad_syntax.specs.declared.types.Authorization.{Authorization}
use Rattle.cad_values.specs.Values.{PureValue}

-- what a node is, without its optionals and its parts
pub data NodeShape : Type 0 where
  -- a value without parts; a reference among them doesn't name a node
  plain : PureValue → NodeShape
  -- a reference to a node: its own authorization, the label, and how many of the node's optionals it sees
  link : Authorization → ℕ → ℕ → NodeShape
  -- the type of the elements
  array : PureType → NodeShape
  -- the types of the keys and of the values, and the keys in order
  dictionary : PureType → PureType → List PureValue → NodeShape
  -- the type, the identity (0 of what is no resource), and the names of the fields in order
  composite : TypeId → ℕ → List Name → NodeShape

-- places, each empty or with a node: its labels, its optionals, its shape, the row of its own places, and the places after it
pub data Row : Type 0 where
  stop : Row
  gap : Row → Row
  node : List ℕ → ℕ → NodeShape → Row → Row → Row

-- a node without its labels and without the places around it; of a value in hand no part has a label
pub record Tree : Type 0 where
  pub optionals : ℕ
  pub shape : NodeShape
  pub parts : Row

-- ---- the places of a row

-- there is no such place; it is empty; a node stands in it
pub data Slot : Type 0 where
  out : Slot
  free : Slot
  full : Tree → Slot

abbrev pub slot : ℕ → Row → Slot
slot i stop = out
slot zero (gap r) = free
slot zero (node l n s k r) = full (record { optionals = n; shape = s; parts = k })
slot (suc i) (gap r) = slot i r
slot (suc i) (node l n s k r) = slot i r

abbrev pub first : Tree → Row → Row
first t r = node [] t.optionals t.shape t.parts r

-- a row of one place
abbrev pub alone : Tree → Row
alone t = first t stop

-- a node comes to a place; places before it that aren't there are empty
abbrev pub put : ℕ → Tree → Row → Row
put zero t stop = first t stop
put zero t (gap r) = first t r
put zero t (node l n s k r) = first t r
put (suc i) t stop = gap (put i t stop)
put (suc i) t (gap r) = gap (put i t r)
put (suc i) t (node l n s k r) = node l n s k (put i t r)

-- the place becomes empty
abbrev pub clear : ℕ → Row → Row
clear i stop = stop
clear zero (gap r) = gap r
clear zero (node l n s k r) = gap r
clear (suc i) (gap r) = gap (clear i r)
clear (suc i) (node l n s k r) = node l n s k (clear i r)

-- the place goes, and later places move down
abbrev pub cut : ℕ → Row → Row
cut i stop = stop
cut zero (gap r) = r
cut zero (node l n s k r) = r
cut (suc i) (gap r) = gap (cut i r)
cut (suc i) (node l n s k r) = node l n s k (cut i r)

-- a new place at i, or at the end where that comes before; later places move up
abbrev pub wedge : ℕ → Tree → Row → Row
wedge i t stop = first t stop
wedge zero t (gap r) = first t (gap r)
wedge zero t (node l n s k r) = first t (node l n s k r)
wedge (suc i) t (gap r) = gap (wedge i t r)
wedge (suc i) t (node l n s k r) = node l n s k (wedge i t r)

-- a new place at the end
abbrev pub add_last : Tree → Row → Row
add_last t stop = first t stop
add_last t (gap r) = gap (add_last t r)
add_last t (node l n s k r) = node l n s k (add_last t r)

-- one row behind the other
abbrev pub join : Row → Row → Row
join stop q = q
join (gap r) q = gap (join r q)
join (node l n s k r) q = node l n s k (join r q)

-- the first i places, and the places behind them
abbrev pub front : ℕ → Row → Row
front zero r = stop
front (suc i) stop = stop
front (suc i) (gap r) = gap (front i r)
front (suc i) (node l n s k r) = node l n s k (front i r)

abbrev pub back : ℕ → Row → Row
back zero r = r
back (suc i) stop = stop
back (suc i) (gap r) = back i r
back (suc i) (node l n s k r) = back i r

abbrev pub empty_places : ℕ → Row
empty_places zero = stop
empty_places (suc n) = gap (empty_places n)

abbrev pub count_places : Row → ℕ
count_places stop = 0
count_places (gap r) = suc (count_places r)
count_places (node l n s k r) = suc (count_places r)

-- no place is empty
abbrev pub is_full : Row → Bool
is_full stop = true
is_full (gap r) = false
is_full (node l n s k r) = is_full r

-- ---- labels

abbrev pub is_one_of : ℕ → List ℕ → Bool
is_one_of p [] = false
is_one_of p (l ∷ ls) = (p == l) || is_one_of p ls

-- the labels are taken away, at any depth
abbrev pub bare : Row → Row
bare stop = stop
bare (gap r) = gap (bare r)
bare (node l n s k r) = node [] n s (bare k) (bare r)

-- a value that leaves its place
abbrev pub bare_tree : Tree → Tree
bare_tree t = record { optionals = t.optionals; shape = t.shape; parts = bare t.parts }

-- the node in a place has one label more
abbrev pub named : ℕ → ℕ → Row → Row
named i p stop = stop
named zero p (gap r) = gap r
named zero p (node l n s k r) = node (l ++ p ∷ []) n s k r
named (suc i) p (gap r) = gap (named i p r)
named (suc i) p (node l n s k r) = node l n s k (named i p r)

-- a node as it is found by a label
pub record Found : Type 0 where
  pub labels : List ℕ
  pub tree : Tree

abbrev pub either : {A : Type 0} → Option A → Option A → Option A
either (Some a) other = Some a
either None other = other

-- the node with the label
abbrev pub found : ℕ → Row → Option Found
found p stop = None
found p (gap r) = found p r
found p (node l n s k r) = if is_one_of p l then Some (record { labels = l; tree = record { optionals = n; shape = s; parts = k } }) else either (found p k) (found p r)

-- the node with the label gets another shape and another row
abbrev pub changed : ℕ → NodeShape → Row → Row → Row
changed p s' k' stop = stop
changed p s' k' (gap r) = gap (changed p s' k' r)
changed p s' k' (node l n s k r) = if is_one_of p l then node l n s' k' r else node l n s (changed p s' k' k) (changed p s' k' r)

-- ---- identities

abbrev pub own_identity : NodeShape → List ℕ
own_identity (composite id zero names) = []
own_identity (composite id (suc i) names) = suc i ∷ []
own_identity _ = []

-- the identities in a row, that of a resource before those inside
abbrev pub identities : Row → List ℕ
identities stop = []
identities (gap r) = identities r
identities (node l n s k r) = own_identity s ++ identities k ++ identities r

abbrev pub tree_identities : Tree → List ℕ
tree_identities t = own_identity t.shape ++ identities t.parts

abbrev pub is_none_left : List ℕ → Bool
is_none_left [] = true
is_none_left (i ∷ all) = false

-- whether there is a resource in it
abbrev pub owns : Row → Bool
owns r = if is_none_left (identities r) then false else true

abbrev pub tree_owns : Tree → Bool
tree_owns t = if is_none_left (tree_identities t) then false else true
