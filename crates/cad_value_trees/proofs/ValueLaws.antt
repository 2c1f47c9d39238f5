-- The values in rows, and what is made of keys or names and values in turn.
use Rattle.std.proofs.Common.{◌≡◌, ℕ, zero, suc, ◌<◌, ◌≤◌, List, [], ◌∷◌, ◌++◌, map, length, get_or, drop, refl, sym, ap, ◌∙◌, arith, append_assoc, append-nil}
use Rattle.cad_syntax.specs.declared.text.Name.{Name}
use Rattle.cad_values.specs.Values.{PureValue, Values, no_values, values, PureEntry, PureField, pure_value, values_of, elements, entries_of, fields_of}
use Rattle.cad_values.specs.Values as v
use Rattle.cad_values.specs.declared.value.Value.{Value}
use Rattle.cad_world.specs.Rows as r
use Rattle.cad_world.specs.Trees.{values_in, keyed, named_values}
use Rattle.cad_rows.specs.Views.{PlaceView, vacant, taken, before, pure_row, pure_place}
use Rattle.cad_rows.specs.declared.tree.Place.{Place}
use Rattle.cad_rows.proofs.CopyLaws.{from_there, past}
use Rattle.cad_value_trees.specs.Places.{values_at}
use Rattle.cad_value_trees.proofs.RowLaws.{none_left}

-- ---- the values in a row

abbrev pub listed : r.Row → List PureValue
listed row = elements (values_in row)

listed_before : (p : PlaceView) (row : r.Row) → listed (before p row) ≡ values_at p ++ listed row
listed_before vacant row = refl
listed_before (taken l t) row = refl

pub all_listed : (vs : Values) → values_of (elements vs) ≡ vs
all_listed no_values = refl
all_listed (values x vs) = ap (values x) (all_listed vs)

pub listed_turn : (ps : List Place) (i : ℕ) (p : Place) (now new all : List PureValue) → i < length ps → p ≡ get_or ps i p → now ++ listed (pure_row (drop i ps)) ≡ all → new ≡ now ++ values_at (pure_place p) → new ++ listed (pure_row (drop (suc i) ps)) ≡ all
listed_turn ps i p now new all inside is so_far grown =
    let rest = pure_row (drop (suc i) ps) in
    ap (λ x. x ++ listed rest) grown
    ∙ append_assoc now (values_at (pure_place p)) (listed rest)
    ∙ ap (λ x. now ++ x) (sym (listed_before (pure_place p) rest) ∙ ap listed (sym (from_there ps i p inside is)))
    ∙ so_far

pub listed_end : (ps : List Place) (i : ℕ) (now : List PureValue) (row : r.Row) → length ps ≤ i → now ++ listed (pure_row (drop i ps)) ≡ listed row → values_of now ≡ values_in row
listed_end ps i now row outside so_far =
    ap values_of (sym (append-nil now) ∙ ap (λ x. now ++ listed x) (sym (past ps i outside)) ∙ so_far) ∙ all_listed (values_in row)

-- ---- pairs

abbrev pub paired : {A B C : Type 0} → (A → B → C) → List A → List B → List C
paired f (x ∷ xs) (y ∷ ys) = f x y ∷ paired f xs ys
paired f (x ∷ xs) [] = []
paired f [] ys = []

abbrev pub as_entry : Value → Value → PureEntry
as_entry k x = record { key = pure_value k; value = pure_value x }

abbrev pub as_field : Name → Value → PureField
as_field n x = record { name = n; value = pure_value x }

pub entries_are : (ks vs : List Value) → entries_of (paired as_entry ks vs) ≡ keyed (map pure_value ks) (values_of (map pure_value vs))
entries_are [] vs = refl
entries_are (k ∷ ks) [] = refl
entries_are (k ∷ ks) (x ∷ vs) = ap (v.entries (pure_value k) (pure_value x)) (entries_are ks vs)

pub fields_are : (ns : List Name) (vs : List Value) → fields_of (paired as_field ns vs) ≡ named_values ns (values_of (map pure_value vs))
fields_are [] vs = refl
fields_are (n ∷ ns) [] = refl
fields_are (n ∷ ns) (x ∷ vs) = ap (v.fields n (pure_value x)) (fields_are ns vs)

paired_from : {A B C : Type 0} (f : A → B → C) (xs : List A) (i : ℕ) (x : A) (y : B) (ys : List B) → i < length xs → x ≡ get_or xs i x → paired f (drop i xs) (y ∷ ys) ≡ f x y ∷ paired f (drop (suc i) xs) ys
paired_from f [] i x y ys inside is = absurd (omega (arith, inside))
paired_from f (w ∷ xs) zero x y ys inside is = ap (λ z. f z y ∷ paired f xs ys) (sym is)
paired_from f (w ∷ xs) (suc i) x y ys inside is = paired_from f xs i x y ys (omega (arith, inside)) is

paired_short : {A B C : Type 0} (f : A → B → C) (xs : List A) → paired f xs [] ≡ []
paired_short f [] = refl
paired_short f (x ∷ xs) = refl

pub paired_turn : {A B C : Type 0} (f : A → B → C) (xs : List A) (i : ℕ) (x : A) (y : B) (left rest : List B) (now new all : List C) → i < length xs → x ≡ get_or xs i x → now ++ paired f (drop i xs) left ≡ all → left ≡ y ∷ rest → new ≡ now ++ f x y ∷ [] → new ++ paired f (drop (suc i) xs) rest ≡ all
paired_turn f xs i x y left rest now new all inside is so_far split grown =
    ap (λ z. z ++ paired f (drop (suc i) xs) rest) grown
    ∙ append_assoc now (f x y ∷ []) (paired f (drop (suc i) xs) rest)
    ∙ ap (λ z. now ++ z) (sym (paired_from f xs i x y rest inside is) ∙ ap (paired f (drop i xs)) (sym split))
    ∙ so_far

-- no value is left
pub paired_stop : {A B C : Type 0} (f : A → B → C) (xs : List A) (left : List B) (now all : List C) → left ≡ [] → now ++ paired f xs left ≡ all → now ≡ all
paired_stop f xs left now all none so_far = sym (append-nil now) ∙ ap (λ z. now ++ z) (sym (paired_short f xs) ∙ ap (paired f xs) (sym none)) ∙ so_far

-- no key or name is left
pub paired_end : {A B C : Type 0} (f : A → B → C) (xs : List A) (i : ℕ) (left : List B) (now all : List C) → length xs ≤ i → now ++ paired f (drop i xs) left ≡ all → now ≡ all
paired_end f xs i left now all outside so_far = sym (append-nil now) ∙ ap (λ z. now ++ paired f z left) (sym (none_left xs i outside)) ∙ so_far
