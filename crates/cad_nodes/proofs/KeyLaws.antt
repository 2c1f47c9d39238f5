-- Keys and places of the program's lists.
use Rattle.std.proofs.Common.{◌≡◌, ℕ, zero, suc, ◌≤◌, List, [], ◌∷◌, ◌++◌, length, take, drop, map, refl, sym, ap, ◌∙◌, arith}
use Rattle.cad_evaluation.specs.Containers.{without_key}
use Rattle.cad_rows.specs.Views.{PlaceView, vacant, taken, before, pure_row, pure_place}
use Rattle.cad_rows.specs.declared.tree.Place.{Place}
use Rattle.cad_values.specs.Values.{pure_value}
use Rattle.cad_values.specs.declared.value.Value.{Value}
use Rattle.cad_world.specs.Rows.{Row, stop, gap, node, Tree, put, clear, join}

pub key_added : (ks : List Value) (k : Value) → map pure_value (ks ++ k ∷ []) ≡ map pure_value ks ++ pure_value k ∷ []
key_added [] k = refl
key_added (x ∷ ks) k = ap (λ xs. pure_value x ∷ xs) (key_added ks k)

pub key_dropped : (i : ℕ) (ks : List Value) → map pure_value (take i ks ++ drop (suc i) ks) ≡ without_key i (map pure_value ks)
key_dropped zero [] = refl
key_dropped (suc i) [] = refl
key_dropped zero (k ∷ ks) = refl
key_dropped (suc i) (k ∷ ks) = ap (λ xs. pure_value k ∷ xs) (key_dropped i ks)

pub no_key : (i : ℕ) (ks : List Value) → length ks ≤ i → map pure_value ks ≡ without_key i (map pure_value ks)
no_key i [] outside = refl
no_key zero (k ∷ ks) outside = absurd (omega (arith, outside))
no_key (suc i) (k ∷ ks) outside = ap (λ xs. pure_value k ∷ xs) (no_key i ks (omega (arith, outside)))

pub put_cleared : (i : ℕ) (t : Tree) (r : Row) → put i t (clear i r) ≡ put i t r
put_cleared zero t stop = refl
put_cleared (suc i) t stop = refl
put_cleared zero t (gap r) = refl
put_cleared zero t (node l n s k r) = refl
put_cleared (suc i) t (gap r) = ap gap (put_cleared i t r)
put_cleared (suc i) t (node l n s k r) = ap (node l n s k) (put_cleared i t r)

join_before : (v : PlaceView) (r q : Row) → join (before v r) q ≡ before v (join r q)
join_before vacant r q = refl
join_before (taken l t) r q = refl

pub joined : (ps qs : List Place) → pure_row (ps ++ qs) ≡ join (pure_row ps) (pure_row qs)
joined [] qs = refl
joined (p ∷ ps) qs = ap (before (pure_place p)) (joined ps qs) ∙ sym (join_before (pure_place p) (pure_row ps) (pure_row qs))
