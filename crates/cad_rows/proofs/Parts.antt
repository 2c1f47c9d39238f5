-- What is in a row, of a place and the places after it.
use Rattle.std.proofs.Common.{◌≡◌, ℕ, ◌+◌, max, true, false, ◌||◌, if◌then◌else◌, List, [], ◌∷◌, ◌++◌, append_assoc, refl, sym, ap, ◌∙◌, arith}
use Rattle.cad_world.specs.Rows as r
use Rattle.cad_world.specs.Trees.{row_weight, row_height, tree_weight, tree_height}
use Rattle.cad_rows.specs.Views.{PlaceView, vacant, taken, before, as_row}
use Rattle.cad_rows.specs.Owned.{is_resource}

append_none : (xs : List ℕ) → xs ++ [] ≡ xs
append_none [] = refl
append_none (x ∷ xs) = ap (λ ys. x ∷ ys) (append_none xs)

pub identities_before : (v : PlaceView) (row : r.Row) → r.identities (before v row) ≡ r.identities (as_row (v ∷ [])) ++ r.identities row
identities_before vacant row = refl
identities_before (taken l t) row = ap (λ xs. xs ++ r.identities row) (sym (append_none (r.own_identity t.shape ++ r.identities t.parts)))

pub identities_alone : (l : List ℕ) (t : r.Tree) → r.identities (as_row (taken l t ∷ [])) ≡ r.tree_identities t
identities_alone l t = append_none (r.own_identity t.shape ++ r.identities t.parts)

pub added_identities : (found : List ℕ) (v : PlaceView) (row : r.Row) → (found ++ r.identities (as_row (v ∷ []))) ++ r.identities row ≡ found ++ r.identities (before v row)
added_identities found v row = append_assoc found (r.identities (as_row (v ∷ []))) (r.identities row) ∙ ap (λ xs. found ++ xs) (sym (identities_before v row))

any_of : (xs ys : List ℕ) → (if r.is_none_left (xs ++ ys) then false else true) ≡ ((if r.is_none_left xs then false else true) || (if r.is_none_left ys then false else true))
any_of [] ys = refl
any_of (x ∷ xs) ys = refl

pub owns_before : (v : PlaceView) (row : r.Row) → r.owns (before v row) ≡ (r.owns (as_row (v ∷ [])) || r.owns row)
owns_before v row = ap (λ xs. if r.is_none_left xs then false else true) (identities_before v row) ∙ any_of (r.identities (as_row (v ∷ []))) (r.identities row)

pub owns_alone : (l : List ℕ) (t : r.Tree) → r.owns (as_row (taken l t ∷ [])) ≡ r.tree_owns t
owns_alone l t = ap (λ xs. if r.is_none_left xs then false else true) (identities_alone l t)

pub tree_owned : (t : r.Tree) → r.tree_owns t ≡ (is_resource t.shape || r.owns t.parts)
tree_owned t = any_of (r.own_identity t.shape) (r.identities t.parts)

pub weight_before : (v : PlaceView) (row : r.Row) → row_weight (before v row) ≡ row_weight (as_row (v ∷ [])) + row_weight row
weight_before vacant row = omega arith
weight_before (taken l t) row = omega arith

pub height_before : (v : PlaceView) (row : r.Row) → row_height (before v row) ≡ max (row_height (as_row (v ∷ []))) (row_height row)
height_before vacant row = omega arith
height_before (taken l t) row = omega arith

pub weight_alone : (l : List ℕ) (t : r.Tree) → row_weight (as_row (taken l t ∷ [])) ≡ tree_weight t
weight_alone l t = omega arith

pub height_alone : (l : List ℕ) (t : r.Tree) → row_height (as_row (taken l t ∷ [])) ≡ tree_height t
height_alone l t = omega arith
