-- The places of a row, of its list of places.
use Rattle.std.proofs.Common.{◌≡◌, ℕ, zero, suc, ◌<◌, ◌≤◌, true, false, List, [], ◌∷◌, ◌++◌, length, get_or, set, take, drop, refl, sym, ap, ◌∙◌, arith}
use Rattle.cad_world.specs.Rows as r
use Rattle.cad_rows.specs.Views.{PlaceView, vacant, taken, before, pure_row, pure_place}
use Rattle.cad_rows.specs.Places.{slot_in, bare_in, bare_out, with_label, is_taken}
use Rattle.cad_rows.specs.declared.tree.Place.{Place}

-- ---- one place before a row

slot_first : (v : PlaceView) (row : r.Row) → r.slot 0 (before v row) ≡ slot_in v
slot_first vacant row = refl
slot_first (taken l t) row = refl

slot_later : (i : ℕ) (v : PlaceView) (row : r.Row) → r.slot (suc i) (before v row) ≡ r.slot i row
slot_later i vacant row = refl
slot_later i (taken l t) row = refl

put_first : (t : r.Tree) (v : PlaceView) (row : r.Row) → r.put 0 t (before v row) ≡ r.first t row
put_first t vacant row = refl
put_first t (taken l u) row = refl

put_later : (i : ℕ) (t : r.Tree) (v : PlaceView) (row : r.Row) → r.put (suc i) t (before v row) ≡ before v (r.put i t row)
put_later i t vacant row = refl
put_later i t (taken l u) row = refl

clear_first : (v : PlaceView) (row : r.Row) → r.clear 0 (before v row) ≡ r.gap row
clear_first vacant row = refl
clear_first (taken l t) row = refl

clear_later : (i : ℕ) (v : PlaceView) (row : r.Row) → r.clear (suc i) (before v row) ≡ before v (r.clear i row)
clear_later i vacant row = refl
clear_later i (taken l t) row = refl

cut_first : (v : PlaceView) (row : r.Row) → r.cut 0 (before v row) ≡ row
cut_first vacant row = refl
cut_first (taken l t) row = refl

cut_later : (i : ℕ) (v : PlaceView) (row : r.Row) → r.cut (suc i) (before v row) ≡ before v (r.cut i row)
cut_later i vacant row = refl
cut_later i (taken l t) row = refl

wedge_first : (t : r.Tree) (v : PlaceView) (row : r.Row) → r.wedge 0 t (before v row) ≡ r.first t (before v row)
wedge_first t vacant row = refl
wedge_first t (taken l u) row = refl

wedge_later : (i : ℕ) (t : r.Tree) (v : PlaceView) (row : r.Row) → r.wedge (suc i) t (before v row) ≡ before v (r.wedge i t row)
wedge_later i t vacant row = refl
wedge_later i t (taken l u) row = refl

last_later : (t : r.Tree) (v : PlaceView) (row : r.Row) → r.add_last t (before v row) ≡ before v (r.add_last t row)
last_later t vacant row = refl
last_later t (taken l u) row = refl

named_first : (p : ℕ) (v : PlaceView) (row : r.Row) → r.named 0 p (before v row) ≡ before (with_label p v) row
named_first p vacant row = refl
named_first p (taken l t) row = refl

named_later : (i p : ℕ) (v : PlaceView) (row : r.Row) → r.named (suc i) p (before v row) ≡ before v (r.named i p row)
named_later i p vacant row = refl
named_later i p (taken l t) row = refl

count_later : (v : PlaceView) (row : r.Row) → r.count_places (before v row) ≡ suc (r.count_places row)
count_later vacant row = refl
count_later (taken l t) row = refl

full_later : (v : PlaceView) (row : r.Row) → true ≡ is_taken v → r.is_full (before v row) ≡ r.is_full row
full_later vacant row e = absurd (cc e)
full_later (taken l t) row e = refl

not_full : (v : PlaceView) (row : r.Row) → false ≡ is_taken v → r.is_full (before v row) ≡ false
not_full vacant row e = refl
not_full (taken l t) row e = absurd (cc e)

-- ---- all of them

pub slot_there : (i : ℕ) (ps : List Place) (p : Place) → i < length ps → p ≡ get_or ps i p → r.slot i (pure_row ps) ≡ slot_in (pure_place p)
slot_there i [] p inside e = absurd (omega (arith, inside))
slot_there zero (q ∷ ps) p inside e = slot_first (pure_place q) (pure_row ps) ∙ ap (λ x. slot_in (pure_place x)) (sym e)
slot_there (suc i) (q ∷ ps) p inside e = slot_later i (pure_place q) (pure_row ps) ∙ slot_there i ps p (omega (arith, inside)) e

pub slot_nowhere : (i : ℕ) (ps : List Place) → length ps ≤ i → r.slot i (pure_row ps) ≡ r.out
slot_nowhere i [] outside = refl
slot_nowhere zero (q ∷ ps) outside = absurd (omega (arith, outside))
slot_nowhere (suc i) (q ∷ ps) outside = slot_later i (pure_place q) (pure_row ps) ∙ slot_nowhere i ps (omega (arith, outside))

pub put_there : (i : ℕ) (ps : List Place) (p : Place) (t : r.Tree) → i < length ps → pure_place p ≡ taken [] t → pure_row (set ps i p) ≡ r.put i t (pure_row ps)
put_there i [] p t inside e = absurd (omega (arith, inside))
put_there zero (q ∷ ps) p t inside e = ap (λ v. before v (pure_row ps)) e ∙ sym (put_first t (pure_place q) (pure_row ps))
put_there (suc i) (q ∷ ps) p t inside e = ap (before (pure_place q)) (put_there i ps p t (omega (arith, inside)) e) ∙ sym (put_later i t (pure_place q) (pure_row ps))

-- an empty place more, before the one where it comes
pub put_filled : (i : ℕ) (ps : List Place) (p : Place) (t : r.Tree) → length ps < i → pure_place p ≡ vacant → r.put i t (pure_row (ps ++ p ∷ [])) ≡ r.put i t (pure_row ps)
put_filled zero ps p t short e = absurd (omega (arith, short))
put_filled (suc i) [] p t short e = ap (λ v. r.put (suc i) t (before v r.stop)) e
put_filled (suc i) (q ∷ ps) p t short e =
    put_later i t (pure_place q) (pure_row (ps ++ p ∷ [])) ∙ ap (before (pure_place q)) (put_filled i ps p t (omega (arith, short)) e) ∙ sym (put_later i t (pure_place q) (pure_row ps))

pub put_end : (i : ℕ) (ps : List Place) (t : r.Tree) → length ps ≡ i → r.put i t (pure_row ps) ≡ r.add_last t (pure_row ps)
put_end zero [] t e = refl
put_end (suc i) [] t e = absurd (omega (arith, e))
put_end zero (q ∷ ps) t e = absurd (omega (arith, e))
put_end (suc i) (q ∷ ps) t e =
    put_later i t (pure_place q) (pure_row ps) ∙ ap (before (pure_place q)) (put_end i ps t (omega (arith, e))) ∙ sym (last_later t (pure_place q) (pure_row ps))

pub added : (ps : List Place) (p : Place) (t : r.Tree) → pure_place p ≡ taken [] t → pure_row (ps ++ p ∷ []) ≡ r.add_last t (pure_row ps)
added [] p t e = ap (λ v. before v r.stop) e
added (q ∷ ps) p t e = ap (before (pure_place q)) (added ps p t e) ∙ sym (last_later t (pure_place q) (pure_row ps))

pub cleared : (i : ℕ) (ps : List Place) (p : Place) → i < length ps → pure_place p ≡ vacant → pure_row (set ps i p) ≡ r.clear i (pure_row ps)
cleared i [] p inside e = absurd (omega (arith, inside))
cleared zero (q ∷ ps) p inside e = ap (λ v. before v (pure_row ps)) e ∙ sym (clear_first (pure_place q) (pure_row ps))
cleared (suc i) (q ∷ ps) p inside e = ap (before (pure_place q)) (cleared i ps p (omega (arith, inside)) e) ∙ sym (clear_later i (pure_place q) (pure_row ps))

pub clear_nowhere : (i : ℕ) (ps : List Place) → length ps ≤ i → r.clear i (pure_row ps) ≡ pure_row ps
clear_nowhere i [] outside = refl
clear_nowhere zero (q ∷ ps) outside = absurd (omega (arith, outside))
clear_nowhere (suc i) (q ∷ ps) outside = clear_later i (pure_place q) (pure_row ps) ∙ ap (before (pure_place q)) (clear_nowhere i ps (omega (arith, outside)))

pub was_cut : (i : ℕ) (ps : List Place) → pure_row (take i ps ++ drop (suc i) ps) ≡ r.cut i (pure_row ps)
was_cut zero [] = refl
was_cut (suc i) [] = refl
was_cut zero (q ∷ ps) = sym (cut_first (pure_place q) (pure_row ps))
was_cut (suc i) (q ∷ ps) = ap (before (pure_place q)) (was_cut i ps) ∙ sym (cut_later i (pure_place q) (pure_row ps))

pub cut_nowhere : (i : ℕ) (ps : List Place) → length ps ≤ i → r.cut i (pure_row ps) ≡ pure_row ps
cut_nowhere i [] outside = refl
cut_nowhere zero (q ∷ ps) outside = absurd (omega (arith, outside))
cut_nowhere (suc i) (q ∷ ps) outside = cut_later i (pure_place q) (pure_row ps) ∙ ap (before (pure_place q)) (cut_nowhere i ps (omega (arith, outside)))

pub wedged : (i : ℕ) (ps : List Place) (p : Place) (t : r.Tree) → i < length ps → pure_place p ≡ taken [] t → pure_row (take i ps ++ p ∷ drop i ps) ≡ r.wedge i t (pure_row ps)
wedged i [] p t inside e = absurd (omega (arith, inside))
wedged zero (q ∷ ps) p t inside e = ap (λ v. before v (pure_row (q ∷ ps))) e ∙ sym (wedge_first t (pure_place q) (pure_row ps))
wedged (suc i) (q ∷ ps) p t inside e = ap (before (pure_place q)) (wedged i ps p t (omega (arith, inside)) e) ∙ sym (wedge_later i t (pure_place q) (pure_row ps))

pub wedge_end : (i : ℕ) (ps : List Place) (t : r.Tree) → length ps ≤ i → r.add_last t (pure_row ps) ≡ r.wedge i t (pure_row ps)
wedge_end i [] t outside = refl
wedge_end zero (q ∷ ps) t outside = absurd (omega (arith, outside))
wedge_end (suc i) (q ∷ ps) t outside = last_later t (pure_place q) (pure_row ps) ∙ ap (before (pure_place q)) (wedge_end i ps t (omega (arith, outside))) ∙ sym (wedge_later i t (pure_place q) (pure_row ps))

pub named_there : (i : ℕ) (ps : List Place) (old p : Place) (label : ℕ) → i < length ps → old ≡ get_or ps i old → pure_place p ≡ with_label label (pure_place old) → pure_row (set ps i p) ≡ r.named i label (pure_row ps)
named_there i [] old p label inside is e = absurd (omega (arith, inside))
named_there zero (q ∷ ps) old p label inside is e =
    ap (λ v. before v (pure_row ps)) (e ∙ ap (λ x. with_label label (pure_place x)) is) ∙ sym (named_first label (pure_place q) (pure_row ps))
named_there (suc i) (q ∷ ps) old p label inside is e = ap (before (pure_place q)) (named_there i ps old p label (omega (arith, inside)) is e) ∙ sym (named_later i label (pure_place q) (pure_row ps))

pub named_nowhere : (i : ℕ) (ps : List Place) (label : ℕ) → length ps ≤ i → pure_row ps ≡ r.named i label (pure_row ps)
named_nowhere i [] label outside = refl
named_nowhere zero (q ∷ ps) label outside = absurd (omega (arith, outside))
named_nowhere (suc i) (q ∷ ps) label outside = ap (before (pure_place q)) (named_nowhere i ps label (omega (arith, outside))) ∙ sym (named_later i label (pure_place q) (pure_row ps))

pub counted : (ps : List Place) → length ps ≡ r.count_places (pure_row ps)
counted [] = refl
counted (q ∷ ps) = ap suc (counted ps) ∙ sym (count_later (pure_place q) (pure_row ps))

pub out_of : (v : PlaceView) → bare_out v ≡ bare_in (slot_in v)
out_of vacant = refl
out_of (taken l t) = refl

-- whether all are taken, from a place on
pub full_turn : (ps : List Place) (i : ℕ) (p : Place) → i < length ps → p ≡ get_or ps i p → true ≡ is_taken (pure_place p) → r.is_full (pure_row (drop i ps)) ≡ r.is_full (pure_row (drop (suc i) ps))
full_turn [] i p inside is e = absurd (omega (arith, inside))
full_turn (q ∷ ps) zero p inside is e = full_later (pure_place q) (pure_row ps) (e ∙ ap (λ x. is_taken (pure_place x)) is)
full_turn (q ∷ ps) (suc i) p inside is e = full_turn ps i p (omega (arith, inside)) is e

pub full_stop : (ps : List Place) (i : ℕ) (p : Place) → i < length ps → p ≡ get_or ps i p → false ≡ is_taken (pure_place p) → r.is_full (pure_row (drop i ps)) ≡ false
full_stop [] i p inside is e = absurd (omega (arith, inside))
full_stop (q ∷ ps) zero p inside is e = not_full (pure_place q) (pure_row ps) (e ∙ ap (λ x. is_taken (pure_place x)) is)
full_stop (q ∷ ps) (suc i) p inside is e = full_stop ps i p (omega (arith, inside)) is e
