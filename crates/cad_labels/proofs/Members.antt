-- Labels as members of arrays and dictionaries change a node.
use Rattle.cad_labels.proofs.Keeping.{stays}
use Rattle.std.proofs.Common.{◌≡◌, ℕ, suc, ◌+◌, ◌-◌, ◌≤◌, nat_le, not, List, [], ◌∷◌, ◌++◌, Option, Some, None, refl, arith, ℤ, pos, negsuc}
use Rattle.std.specs.Prelude.{unsigned_abs}
use Rattle.cad_syntax.specs.Types.{PureType}
use Rattle.cad_values.specs.Fits.{most_elements}
use Rattle.cad_values.specs.Values.{PureValue, nil, some, no_values, values, no_entries, entries, no_fields, fields}
use Rattle.cad_values.specs.Values as v
use Rattle.cad_world.specs.Labels.{at}
use Rattle.cad_world.specs.Locations.{key_position}
use Rattle.cad_world.specs.Marks.{AreGivenOnce}
use Rattle.cad_world.specs.Rows.{NodeShape, array, dictionary, Row, stop, gap, node, Tree, Slot, out, free, full, slot, put, cut, wedge, add_last, join, front, back, count_places, bare_tree, tree_owns, Found}
use Rattle.cad_world.specs.State.{State, Action, ◌>>◌, give, with_some}
use Rattle.cad_world.specs.Trees.{tree_of, row_of, entries_row, fields_row, value_of, nil_tree, wrapped, whole}
use Rattle.cad_evaluation.specs.Containers.{becomes, all_of_type, room, elements_in, array_copy, array_concat, are_places, array_slice, turned, array_reverse, array_append, array_append_all, is_index, array_insert, array_cut, array_remove_at, array_remove, array_remove_first, last_index, array_remove_last, keys_row, without_key, taken_value, key_put, dictionary_insert, key_cut, dictionary_remove}
use Rattle.cad_evaluation.specs.Numbers.{integer_in}
use Rattle.cad_evaluation.specs.Reading.{copied}
use Rattle.cad_labels.specs.Laws.{HasNone, HasNoneInRow, Gives, Keeps, ArraysGiveCopies, ArraysKeep, KeysHaveNone, DictionariesKeep}
use Rattle.cad_labels.proofs.Marks.{mark, mark_cut, mark_put, mark_wedge, mark_last, mark_join}
use Rattle.cad_labels.proofs.Keeping.{gives_bind, gives_require, gives_some}
use Rattle.cad_labels.proofs.Places.{bare_has_none, no_mark, node_stands, type_gives}
use Rattle.cad_labels.proofs.Forms.{keeps_give, keeps_fail, keeps_guard, keeps_require, keeps_some, no_mark_in, stop_none, first_none, elements_none, Within}

-- ---- copies

pub copied_keeps : (t : Tree) → Keeps HasNone (copied t)
copied_keeps t = keeps_guard HasNone (not (tree_owns t)) _ (keeps_give HasNone (bare_tree t) (bare_has_none t))

pub array_copy_keeps : (type : PureType) (r : Row) → Keeps HasNone (array_copy type r)
array_copy_keeps type r = copied_keeps (whole (array type) r)

-- ---- tests

pub all_type_gives : {A : Type 0} (P : A → Type 0) (type : PureType) (r : Row) (p : Action A) (s : State) → Gives P s (p s) → Gives P s (all_of_type type r p s)
all_type_gives P type stop p s h = h
all_type_gives P type (gap r) p s h = all_type_gives P type r p s h
all_type_gives P type (node l n sh k r) p s h = type_gives P type (record { optionals = n; shape = sh; parts = k }) _ s (all_type_gives P type r p s h)

room_gives : {A : Type 0} (P : A → Type 0) (n : ℕ) (p : Action A) (s : State) → Gives P s (p s) → Gives P s (room n p s)
room_gives P n p s h = gives_require P 123 (nat_le n most_elements) p s h

within_gives : {A B : Type 0} (P : A → Type 0) (Q : B → Type 0) (o : Option A) (f : A → Action B) (s : State) → Within P o → ((a : A) → P a → Gives Q s (f a s)) → Gives Q s (with_some o f s)
within_gives P Q None f s h k = tt
within_gives P Q (Some a) f s h k = k a h

-- ---- what gives copies

pub concat_keeps : (type : PureType) (r : Row) (t : Tree) → Keeps HasNone (array_concat type r t)
concat_keeps type r t = keeps_some HasNone (elements_in t) _ (λ q s once. all_type_gives HasNone type q _ s (room_gives HasNone (count_places r + count_places q) _ s (array_copy_keeps type (join r q) s once)))

pub slice_keeps : (type : PureType) (r : Row) (from up_to : Tree) → Keeps HasNone (array_slice type r from up_to)
slice_keeps type r from up_to = keeps_some HasNone (integer_in from) _ (λ i. keeps_some HasNone (integer_in up_to) _ (λ j.
    keeps_require HasNone 105 (are_places i j (count_places r)) _ (array_copy_keeps type (front (unsigned_abs j - unsigned_abs i) (back (unsigned_abs i) r)))))

pub reverse_keeps : (type : PureType) (r : Row) → Keeps HasNone (array_reverse type r)
reverse_keeps type r = array_copy_keeps type (turned r stop)

pub arrays_give_copies : ArraysGiveCopies
arrays_give_copies type r = (concat_keeps type r, slice_keeps type r, reverse_keeps type r)

-- ---- what changes the node

module _ (l : ℕ) (f : Found) (s : State) (e : at l s ≡ Some f) (once : AreGivenOnce s) where
  becomes_gives : (shape : NodeShape) (k : Row) → ((p : ℕ) → mark p k ≤ mark p f.tree.parts) → Gives HasNone s (becomes l shape k s)
  becomes_gives shape k h = ((λ p. refl), node_stands l shape k s f e h once)

  -- and something is given
  becomes_then : (shape : NodeShape) (k : Row) (q : Action Tree) → ((p : ℕ) → mark p k ≤ mark p f.tree.parts) → Keeps HasNone q → Gives HasNone s ((becomes l shape k >> q) s)
  becomes_then shape k q h g = gives_bind HasNone HasNone s (becomes l shape k s) (λ t. q) (becomes_gives shape k h) (λ t none. g)

  append_gives : (type : PureType) (t : Tree) → HasNone t → Gives HasNone s (array_append l type f.tree.parts t s)
  append_gives type t none = type_gives HasNone type t _ s (room_gives HasNone (suc (count_places f.tree.parts)) _ s
      (becomes_gives (array type) (add_last t f.tree.parts) (λ p. omega (arith, mark_last p t f.tree.parts, no_mark t none p))))

  append_all_gives : (type : PureType) (t : Tree) → HasNone t → Gives HasNone s (array_append_all l type f.tree.parts t s)
  append_all_gives type t none = within_gives HasNoneInRow HasNone (elements_in t) _ s (elements_none t none) (λ q h. all_type_gives HasNone type q _ s
      (room_gives HasNone (count_places f.tree.parts + count_places q) _ s
      (becomes_gives (array type) (join f.tree.parts q) (λ p. omega (arith, mark_join p f.tree.parts q, no_mark_in q h p)))))

  insert_gives : (type : PureType) (i t : Tree) → HasNone t → Gives HasNone s (array_insert l type f.tree.parts i t s)
  insert_gives type i t none = gives_some HasNone (integer_in i) _ s (λ z u. gives_require HasNone 104 (is_index z (suc (count_places f.tree.parts))) _ s
      (type_gives HasNone type t _ s (room_gives HasNone (suc (count_places f.tree.parts)) _ s
      (becomes_gives (array type) (wedge (unsigned_abs z) t f.tree.parts) (λ p. omega (arith, mark_wedge p (unsigned_abs z) t f.tree.parts, no_mark t none p))))))

  cut_gives : (type : PureType) (i : ℕ) (o : Slot) → Gives HasNone s (array_cut l type f.tree.parts i o s)
  cut_gives type i (full t) = becomes_then (array type) (cut i f.tree.parts) (give (bare_tree t)) (λ p. mark_cut p i f.tree.parts) (keeps_give HasNone (bare_tree t) (bare_has_none t))
  cut_gives type i free = tt
  cut_gives type i out = tt

  remove_at_gives : (type : PureType) (z : ℤ) → Gives HasNone s (array_remove_at l type f.tree.parts z s)
  remove_at_gives type (pos i) = cut_gives type i (slot i f.tree.parts)
  remove_at_gives type (negsuc i) = tt

  remove_gives : (type : PureType) (i : Tree) → Gives HasNone s (array_remove l type f.tree.parts i s)
  remove_gives type i = gives_some HasNone (integer_in i) _ s (λ z u. remove_at_gives type z)

  remove_first_gives : (type : PureType) → Gives HasNone s (array_remove_first l type f.tree.parts s)
  remove_first_gives type = cut_gives type 0 (slot 0 f.tree.parts)

  remove_last_gives : (type : PureType) → Gives HasNone s (array_remove_last l type f.tree.parts s)
  remove_last_gives type = remove_at_gives type (last_index (count_places f.tree.parts))

  taken_gives : (o : Slot) → Keeps HasNone (taken_value o)
  taken_gives (full t) = keeps_give HasNone (wrapped (bare_tree t)) (bare_has_none t)
  taken_gives free = keeps_fail HasNone 113
  taken_gives out = keeps_fail HasNone 113

  put_gives : (key value : PureType) (ks : List PureValue) (k t : Tree) (o : Option ℕ) → HasNone t → Gives HasNone s (key_put l key value ks f.tree.parts k t o s)
  put_gives key value ks k t (Some i) none = becomes_then (dictionary key value ks) (put i t f.tree.parts) (taken_value (slot i f.tree.parts))
      (λ p. omega (arith, mark_put p i t f.tree.parts, no_mark t none p)) (taken_gives (slot i f.tree.parts))
  put_gives key value ks k t None none = room_gives HasNone (suc (count_places f.tree.parts)) _ s
      (becomes_then (dictionary key value (ks ++ value_of k ∷ [])) (add_last t f.tree.parts) (give nil_tree)
      (λ p. omega (arith, mark_last p t f.tree.parts, no_mark t none p)) (keeps_give HasNone nil_tree (λ p. refl)))

  dictionary_insert_gives : (key value : PureType) (ks : List PureValue) (k t : Tree) → HasNone t → Gives HasNone s (dictionary_insert l key value ks f.tree.parts k t s)
  dictionary_insert_gives key value ks k t none = type_gives HasNone key k _ s (type_gives HasNone value t _ s (put_gives key value ks k t (key_position (value_of k) ks) none))

  key_cut_gives : (key value : PureType) (ks : List PureValue) (o : Option ℕ) → Gives HasNone s (key_cut l key value ks f.tree.parts o s)
  key_cut_gives key value ks None = ((λ p. refl), stays s once)
  key_cut_gives key value ks (Some i) = becomes_then (dictionary key value (without_key i ks)) (cut i f.tree.parts) (taken_value (slot i f.tree.parts)) (λ p. mark_cut p i f.tree.parts) (taken_gives (slot i f.tree.parts))

  dictionary_remove_gives : (key value : PureType) (ks : List PureValue) (k : Tree) → Gives HasNone s (dictionary_remove l key value ks f.tree.parts k s)
  dictionary_remove_gives key value ks k = key_cut_gives key value ks (key_position (value_of k) ks)

pub arrays_keep : ArraysKeep
arrays_keep l f type s e once = (
  append_gives l f s e once type,
  append_all_gives l f s e once type,
  insert_gives l f s e once type,
  remove_gives l f s e once type,
  remove_first_gives l f s e once type,
  remove_last_gives l f s e once type,
)

pub dictionaries_keep : DictionariesKeep
dictionaries_keep l f key value ks s e once = (dictionary_insert_gives l f s e once key value ks, dictionary_remove_gives l f s e once key value ks)

-- ---- values as trees

mutual
  tree_none : (x : PureValue) → HasNone (tree_of x)
  tree_none (some x) = tree_none x
  tree_none (v.array t vs) = values_none vs
  tree_none (v.dictionary k t es) = entries_none es
  tree_none (v.composite id n fs) = fields_none fs
  tree_none x = λ p. refl

  values_none : (vs : v.Values) → HasNoneInRow (row_of vs)
  values_none no_values = stop_none
  values_none (values x vs) = first_none (tree_of x) (row_of vs) (tree_none x) (values_none vs)

  entries_none : (es : v.Entries) → HasNoneInRow (entries_row es)
  entries_none no_entries = stop_none
  entries_none (entries k x es) = first_none (tree_of x) (entries_row es) (tree_none x) (entries_none es)

  fields_none : (fs : v.Fields) → HasNoneInRow (fields_row fs)
  fields_none no_fields = stop_none
  fields_none (fields n x fs) = first_none (tree_of x) (fields_row fs) (tree_none x) (fields_none fs)

keys_none : (ks : List PureValue) → HasNoneInRow (keys_row ks)
keys_none [] = stop_none
keys_none (k ∷ ks) = first_none (tree_of k) (keys_row ks) (tree_none k) (keys_none ks)

pub keys_have_none : KeysHaveNone
keys_have_none key ks = keeps_give HasNone (whole (array key) (keys_row ks)) (keys_none ks)
