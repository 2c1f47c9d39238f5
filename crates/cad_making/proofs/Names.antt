-- The names of fields, and empty places, one more after the other.
use Rattle.std.proofs.Common.{◌≡◌, ℕ, zero, suc, ◌+◌, arith, List, [], ◌∷◌, ◌++◌, append_assoc, refl, sym, ap, ◌∙◌}
use Rattle.cad_syntax.specs.declared.text.Name.{Name}
use Rattle.cad_declarations.specs.Tables.{MemberEntry}
use Rattle.cad_evaluation.specs.Making.{field_name, field_names}
use Rattle.cad_world.specs.Rows as r
use Rattle.cad_rows.specs.Views.{PlaceView, vacant, taken, before, pure_row, pure_place}
use Rattle.cad_rows.specs.declared.tree.Place.{Place}

pub one_more : (found : List Name) (m : MemberEntry) (ms : List MemberEntry) → (found ++ field_name m) ++ field_names ms ≡ found ++ field_names (m ∷ ms)
one_more found m ms = append_assoc found (field_name m) (field_names ms)

gap_behind : (n : ℕ) → r.join (r.empty_places n) (r.gap r.stop) ≡ r.empty_places (suc n)
gap_behind zero = refl
gap_behind (suc n) = ap r.gap (gap_behind n)

join_later : (v : PlaceView) (row q : r.Row) → r.join (before v row) q ≡ before v (r.join row q)
join_later vacant row q = refl
join_later (taken l t) row q = refl

joined : (ps : List Place) (p : Place) → pure_row (ps ++ p ∷ []) ≡ r.join (pure_row ps) (before (pure_place p) r.stop)
joined [] p = refl
joined (q ∷ ps) p = ap (before (pure_place q)) (joined ps p) ∙ sym (join_later (pure_place q) (pure_row ps) (before (pure_place p) r.stop))

pub one_gap : (n m : ℕ) (ps : List Place) (p : Place) → m ≡ n + 1 → pure_row ps ≡ r.empty_places n → pure_place p ≡ vacant → pure_row (ps ++ p ∷ []) ≡ r.empty_places m
one_gap n m ps p k e v = joined ps p ∙ ap (λ x. r.join x (before (pure_place p) r.stop)) e ∙ ap (λ x. r.join (r.empty_places n) (before x r.stop)) v ∙ gap_behind n ∙ (let f : suc n ≡ m = omega (arith, k) in ap r.empty_places f)
