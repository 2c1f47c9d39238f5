-- Rows of a block's parts.
use Rattle.std.proofs.Common.{◌≡◌, ℕ, ◌+◌, ◌<◌, List, [], ◌∷◌, ◌++◌, length, drop, get_or, refl, ap, map, add-one, drop-cons}
use Rattle.cad_paths.specs.Paths.{PathBody, skip}
use Rattle.cad_moves.specs.Views.{placed, row_of, item_of}
use Rattle.cad_moves.specs.Code.Rows.{row_over}
use Rattle.cad_moves.specs.declared.body.Item.{Item}

pub row_at : (es : List Item) (i : ℕ) (e : Item) → i < length es → row_of (map item_of (drop i es)) ≡ placed (item_of (get_or es i e)) (row_of (map item_of (drop (i + 1) es)))
row_at es i e h = rw (add-one, drop-cons es i e) refl

pub over_push : (xs : List Item) (x : Item) (rest : PathBody) → row_over (map item_of (xs ++ x ∷ [])) rest ≡ row_over (map item_of xs) (placed (item_of x) rest)
over_push [] x rest = refl
over_push (e ∷ xs) x rest = ap (placed (item_of e)) (over_push xs x rest)

pub over_end : (xs : List Item) → row_of (map item_of xs) ≡ row_over (map item_of xs) skip
over_end [] = refl
over_end (e ∷ xs) = ap (placed (item_of e)) (over_end xs)
