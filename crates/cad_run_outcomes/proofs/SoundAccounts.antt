-- What the accounts of a sound World store can be stored, and isn't too high.
use Rattle.std.proofs.Common.{◌≡◌, ℕ, ◌+◌, ◌≤◌, max, Bool, true, false, ◌&&◌, List, [], ◌∷◌, All, refl, sym, ap, ◌∙◌, subst, arith}
use Rattle.std.proofs.Math.Bool.{and-false, and_assoc}
use Rattle.std.proofs.lemmas.Bool.{le-leb}
use Rattle.std.proofs.lemmas.List.Elements.{recursion_from_All}
use Rattle.std.specs.List.{AllByRecursion, list_all}
use Rattle.cad_syntax.specs.declared.text.Name.{Name}
use Rattle.cad_transaction_ends.specs.OverStorable.{AreStorable}
use Rattle.cad_values.specs.Forms.{is_storable_value, all_values, all_entries, all_fields, is_plain_storable}
use Rattle.cad_values.specs.Shapes.{Shapes}
use Rattle.cad_values.specs.Sizes.{height, values_height, entries_height, fields_height, most_high}
use Rattle.cad_values.specs.Values as v
use Rattle.cad_world.specs.Fits.{Lasts}
use Rattle.cad_world.specs.Rows.{Row, stop, gap, node, Tree}
use Rattle.cad_world.specs.Shapes.{shapes}
use Rattle.cad_world.specs.Sound.{AreStored, SoundAccount}
use Rattle.cad_world.specs.State.{Account, World}
use Rattle.cad_world.specs.Storable.{is_storable, is_storable_shape, is_low}
use Rattle.cad_world.specs.Trees.{tree_of, row_of, entries_row, fields_row, value_of, tree_height, row_height, keys_height}
use Rattle.cad_worlds.specs.Standing.{IsSoundButCode}

-- ---- trees of values

abbrev is_storable_tree : Tree → Bool
is_storable_tree t = is_storable_shape t.shape && is_storable t.parts

regrouped : (a b s p r : Bool) → ((a && b) && (s && (p && r))) ≡ ((a && (s && p)) && (b && r))
regrouped false b s p r = refl
regrouped true b false p r = and-false b
regrouped true b true false r = and-false b
regrouped true b true true r = refl

mutual
  storable_so : (x : v.PureValue) → is_storable_tree (tree_of x) ≡ is_storable_value x
  storable_so (v.some x) = storable_so x
  storable_so (v.array t vs) = values_so vs
  storable_so (v.dictionary k t es) = entries_so es
  storable_so (v.composite id n fs) = fields_so fs
  storable_so _ = refl

  values_so : (vs : v.Values) → is_storable (row_of vs) ≡ all_values is_plain_storable vs
  values_so v.no_values = refl
  values_so (v.values x vs) =
      sym (and_assoc (is_storable_shape (tree_of x).shape) (is_storable (tree_of x).parts) (is_storable (row_of vs))) ∙ (λ i. storable_so x i && values_so vs i)

  entries_so : (es : v.Entries) → (list_all is_storable_value (v.keys es) && is_storable (entries_row es)) ≡ all_entries is_plain_storable es
  entries_so v.no_entries = refl
  entries_so (v.entries k x es) =
      regrouped (is_storable_value k) (list_all is_storable_value (v.keys es)) (is_storable_shape (tree_of x).shape) (is_storable (tree_of x).parts) (is_storable (entries_row es))
      ∙ (λ i. (is_storable_value k && storable_so x i) && entries_so es i)

  fields_so : (fs : v.Fields) → is_storable (fields_row fs) ≡ all_fields is_plain_storable fs
  fields_so v.no_fields = refl
  fields_so (v.fields n x fs) =
      sym (and_assoc (is_storable_shape (tree_of x).shape) (is_storable (tree_of x).parts) (is_storable (fields_row fs))) ∙ (λ i. storable_so x i && fields_so fs i)

greatest : (a b c d : ℕ) → max (max a b) (max c d) ≡ max (max a c) (max b d)
greatest a b c d = omega arith

mutual
  height_so : (x : v.PureValue) → tree_height (tree_of x) ≡ height x
  height_so (v.some x) = omega (arith, height_so x)
  height_so (v.array t vs) = omega (arith, values_high vs)
  height_so (v.dictionary k t es) = omega (arith, entries_high es)
  height_so (v.composite id n fs) = omega (arith, fields_high fs)
  height_so _ = refl

  values_high : (vs : v.Values) → row_height (row_of vs) ≡ values_height vs
  values_high v.no_values = refl
  values_high (v.values x vs) = λ i. max (height_so x i) (values_high vs i)

  entries_high : (es : v.Entries) → max (keys_height (v.keys es)) (row_height (entries_row es)) ≡ entries_height es
  entries_high v.no_entries = refl
  entries_high (v.entries k x es) =
      greatest (height k) (keys_height (v.keys es)) (tree_height (tree_of x)) (row_height (entries_row es)) ∙ (λ i. max (max (height k) (height_so x i)) (entries_high es i))

  fields_high : (fs : v.Fields) → row_height (fields_row fs) ≡ fields_height fs
  fields_high v.no_fields = refl
  fields_high (v.fields n x fs) = λ i. max (height_so x i) (fields_high fs i)

-- ---- what lasts

tree_storable : (k : Shapes) (t : Tree) → Lasts k t → is_storable_tree t ≡ true
tree_storable k t lasts = subst (λ (u : Tree). is_storable_tree u ≡ true) lasts.of_value (storable_so (value_of t) ∙ lasts.storable)

tree_low : (k : Shapes) (t : Tree) → Lasts k t → tree_height t ≤ most_high
tree_low k t lasts =
    let of_value : tree_height (tree_of (value_of t)) ≤ most_high = omega (arith, height_so (value_of t), lasts.low) in
    subst (λ (u : Tree). tree_height u ≤ most_high) lasts.of_value of_value

stored_storable : (k : Shapes) (names : List Name) (r : Row) → AreStored k names r → is_storable r ≡ true
stored_storable k [] stop h = refl
stored_storable k [] (gap r) h = absurd h
stored_storable k [] (node l n s p r) h = absurd h
stored_storable k (i ∷ names) stop h = absurd h
stored_storable k (i ∷ names) (gap r) h = absurd h
stored_storable k (i ∷ names) (node [] n s p r) h =
    let tree = tree_storable k (record { optionals = n; shape = s; parts = p }) h.2 in
    let rest = stored_storable k names r h.3 in
    sym (and_assoc (is_storable_shape s) (is_storable p) (is_storable r)) ∙ (λ m. tree m && rest m)
stored_storable k (i ∷ names) (node (l ∷ ls) n s p r) h = absurd h

highest : (a b : ℕ) → a ≤ most_high → b ≤ most_high → max a b ≤ most_high
highest a b x y = omega (arith, x, y)

stored_low : (k : Shapes) (names : List Name) (r : Row) → AreStored k names r → row_height r ≤ most_high
stored_low k [] stop h = omega arith
stored_low k [] (gap r) h = absurd h
stored_low k [] (node l n s p r) h = absurd h
stored_low k (i ∷ names) stop h = absurd h
stored_low k (i ∷ names) (gap r) h = absurd h
stored_low k (i ∷ names) (node [] n s p r) h =
    highest (tree_height (record { optionals = n; shape = s; parts = p })) (row_height r) (tree_low k (record { optionals = n; shape = s; parts = p }) h.2) (stored_low k names r h.3)
stored_low k (i ∷ names) (node (l ∷ ls) n s p r) h = absurd h

-- ---- accounts

all_storable : (k : Shapes) (all : List Account) → AllByRecursion (SoundAccount k) all → AreStorable all
all_storable k [] h = record { storable = refl; low = refl }
all_storable k (a ∷ all) h =
    let rest = all_storable k all h.1 in
    let storable = stored_storable k a.identifiers a.stored h.0.stored in
    let low : is_low a.stored ≡ true = le-leb (row_height a.stored) most_high (stored_low k a.identifiers a.stored h.0.stored) in
    record { storable = λ m. storable m && rest.storable m; low = λ m. low m && rest.low m }

pub accounts_storable : (w : World) → IsSoundButCode w → AreStorable w.accounts
accounts_storable w sound = all_storable (shapes w.contracts) w.accounts (recursion_from_All (SoundAccount (shapes w.contracts)) w.accounts sound.accounts)
