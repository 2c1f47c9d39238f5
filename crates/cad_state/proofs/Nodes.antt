-- A label in a row, or not.
use Rattle.std.proofs.Common.{◌≡◌, ℕ, ◌≤◌, Bool, true, false, if◌then◌else◌, List, Option, Some, None, refl, sym, ap, ◌∙◌, true≢false, arith}
use Rattle.cad_world.specs.Rows.{NodeShape, Row, stop, gap, node, Found, found, changed, either, is_one_of}
use Rattle.cad_labels.proofs.Marks.{times, mark, has_label, Counts, found_counts}
use Rattle.cad_state.specs.Ways.{is_there}

pub either_assoc : (a b c : Option Found) → either (either a b) c ≡ either a (either b c)
either_assoc None b c = refl
either_assoc (Some f) b c = refl

-- what is found is marked
pub some_marked : (p : ℕ) (r : Row) (f : Found) → found p r ≡ Some f → 1 ≤ mark p r
some_marked p r f e = go (found p r) e (found_counts p r)
  where
    go : (o : Option Found) → o ≡ Some f → Counts (mark p r) o → 1 ≤ mark p r
    go None d c = absurd (true≢false (ap is_there (sym d)))
    go (Some g) d c = c

no_labels : (p : ℕ) (l : List ℕ) → times p l ≡ 0 → is_one_of p l ≡ false
no_labels p l h = go (is_one_of p l) refl
  where
    go : (b : Bool) → is_one_of p l ≡ b → b ≡ false
    go false e = refl
    go true e = absurd (omega (arith, h, has_label p l e))

-- where the label doesn't stand nothing is changed by it
pub unchanged : (p : ℕ) (sh : NodeShape) (j : Row) (r : Row) → mark p r ≡ 0 → changed p sh j r ≡ r
unchanged p sh j stop h = refl
unchanged p sh j (gap r) h = ap gap (unchanged p sh j r h)
unchanged p sh j (node l n s k r) h =
    ap (λ b. if b then node l n sh j r else node l n s (changed p sh j k) (changed p sh j r)) (no_labels p l (omega (arith, h)))
    ∙ ap (λ x. node l n s x (changed p sh j r)) (unchanged p sh j k (omega (arith, h)))
    ∙ ap (node l n s k) (unchanged p sh j r (omega (arith, h)))
