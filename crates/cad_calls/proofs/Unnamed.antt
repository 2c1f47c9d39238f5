-- Rows in which no node has a label.
use Rattle.std.proofs.Common.{◌≡◌, ◌∙◌, refl, sym, arith, Bool, true, false, ◌&&◌, length, count_by, ◌==◌}
use lib.Dec.{eqb-suc-zero}
use Rattle.std.proofs.lemmas.Bool.{false≢true}
use Rattle.std.specs.Prelude.{ℕ, List, [], ◌∷◌}
use Rattle.cad_calls.specs.Unnamed.{none, unnamed}
use Rattle.cad_labels.specs.Laws.{HasNoneInRow}
use Rattle.cad_rows.specs.Views.{PlaceView, vacant, taken, before, as_row}
use Rattle.cad_world.specs.Rows.{Row, Tree, stop, gap, node}

both_true : (a b : Bool) → (a && b) ≡ true → (a ≡ true) × (b ≡ true)
both_true true true is = (refl, refl)
both_true true false is = absurd (false≢true is)
both_true false b is = absurd (false≢true is)

and_true : (a b : Bool) → (a && b) ≡ (a && (b && true))
and_true true true = refl
and_true true false = refl
and_true false b = refl

and_joined : (a b c : Bool) → (a && (b && c)) ≡ ((a && (b && true)) && c)
and_joined true true c = refl
and_joined true false c = refl
and_joined false b c = refl

-- a place alone
pub unnamed_alone : (l : List ℕ) (t : Tree) → unnamed (as_row (taken l t ∷ [])) ≡ (none l && unnamed t.parts)
unnamed_alone l t = sym (and_true (none l) (unnamed t.parts))

-- a place before a row
pub unnamed_before : (v : PlaceView) (row : Row) → unnamed (before v row) ≡ (unnamed (as_row (v ∷ [])) && unnamed row)
unnamed_before vacant row = refl
unnamed_before (taken l t) row = and_joined (none l) (unnamed t.parts) (unnamed row)

no_mark : (p : ℕ) (l : List ℕ) → none l ≡ true → count_by (λ q. q == p) l ≡ 0
no_mark p [] is = refl
no_mark p (q ∷ qs) is = absurd (false≢true (sym (eqb-suc-zero (length qs)) ∙ is))

-- such a row has no labels
pub has_none : (r : Row) → unnamed r ≡ true → HasNoneInRow r
has_none stop is p = refl
has_none (gap r) is p = has_none r is p
has_none (node l n s k r) is p =
    let a = both_true (none l) (unnamed k && unnamed r) is in
    let b = both_true (unnamed k) (unnamed r) a.1 in
    omega (arith, no_mark p l a.0, has_none k b.0 p, has_none r b.1 p)
