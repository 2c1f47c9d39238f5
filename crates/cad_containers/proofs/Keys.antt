-- The trees of keys, in a row, one by one.
use Rattle.std.proofs.Common.{◌≡◌, ℕ, zero, suc, ◌<◌, ◌≤◌, List, [], ◌∷◌, map, length, get_or, drop, refl, sym, ap, ◌∙◌, arith}
use Rattle.cad_values.specs.Values.{pure_value}
use Rattle.cad_values.specs.declared.value.Value.{Value}
use Rattle.cad_world.specs.Rows as r
use Rattle.cad_world.specs.Trees.{tree_of}
use Rattle.cad_evaluation.specs.Containers.{keys_row}
use Rattle.cad_containers.proofs.Rows.{join_assoc, join_stop}

last_is_join : (t : r.Tree) (a : r.Row) → r.add_last t a ≡ r.join a (r.first t r.stop)
last_is_join t r.stop = refl
last_is_join t (r.gap a) = ap r.gap (last_is_join t a)
last_is_join t (r.node l n s k a) = ap (r.node l n s k) (last_is_join t a)

abbrev pub trees_of : List Value → r.Row
trees_of ks = keys_row (map pure_value ks)

keys_from : (ks : List Value) (i : ℕ) (k : Value) → i < length ks → k ≡ get_or ks i k → trees_of (drop i ks) ≡ r.first (tree_of (pure_value k)) (trees_of (drop (suc i) ks))
keys_from [] i k inside is = absurd (omega (arith, inside))
keys_from (w ∷ ks) zero k inside is = ap (λ x. r.first (tree_of (pure_value x)) (trees_of ks)) (sym is)
keys_from (w ∷ ks) (suc i) k inside is = keys_from ks i k (omega (arith, inside)) is

pub keys_turn : (ks : List Value) (i : ℕ) (k : Value) (t : r.Tree) (now new all : r.Row) → i < length ks → k ≡ get_or ks i k → r.join now (trees_of (drop i ks)) ≡ all → t ≡ tree_of (pure_value k) → new ≡ r.add_last t now → r.join new (trees_of (drop (suc i) ks)) ≡ all
keys_turn ks i k t now new all inside is so_far made grown =
    ap (λ x. r.join x (trees_of (drop (suc i) ks))) (grown ∙ ap (λ x. r.add_last x now) made ∙ last_is_join (tree_of (pure_value k)) now)
    ∙ join_assoc now (r.first (tree_of (pure_value k)) r.stop) (trees_of (drop (suc i) ks))
    ∙ ap (r.join now) (sym (keys_from ks i k inside is))
    ∙ so_far

none_left : {A : Type 0} (xs : List A) (i : ℕ) → length xs ≤ i → drop i xs ≡ []
none_left [] zero outside = refl
none_left [] (suc i) outside = refl
none_left (x ∷ xs) zero outside = absurd (omega (arith, outside))
none_left (x ∷ xs) (suc i) outside = none_left xs i (omega (arith, outside))

pub keys_end : (ks : List Value) (i : ℕ) (now all : r.Row) → length ks ≤ i → r.join now (trees_of (drop i ks)) ≡ all → now ≡ all
keys_end ks i now all outside so_far = sym (join_stop now) ∙ ap (λ xs. r.join now (trees_of xs)) (sym (none_left ks i outside)) ∙ so_far

pub as_many : (ks : List Value) → length ks ≡ length (map pure_value ks)
as_many [] = refl
as_many (k ∷ ks) = ap suc (as_many ks)
