-- A resource in a value: its own node, or one inside.
use Rattle.std.proofs.Common.{◌≡◌, ℕ, true, false, ◌||◌, if◌then◌else◌, List, [], ◌∷◌, ◌++◌, refl}
use Rattle.cad_world.specs.Rows as r
use Rattle.cad_rows.specs.Owned.{is_resource}

any_of : (xs ys : List ℕ) → (if r.is_none_left (xs ++ ys) then false else true) ≡ ((if r.is_none_left xs then false else true) || (if r.is_none_left ys then false else true))
any_of [] ys = refl
any_of (x ∷ xs) ys = refl

pub lent_owned : (n : ℕ) (shape : r.NodeShape) (parts : r.Row) → r.tree_owns (record { optionals = n; shape = shape; parts = parts }) ≡ (is_resource shape || r.owns parts)
lent_owned n shape parts = any_of (r.own_identity shape) (r.identities parts)
