-- Rows that are copied place by place.
use Rattle.std.proofs.Common.{◌≡◌, ℕ, zero, suc, ◌<◌, ◌≤◌, List, [], ◌∷◌, ◌++◌, length, get_or, drop, refl, sym, ap, ◌∙◌, arith}
use Rattle.cad_world.specs.Rows as r
use Rattle.cad_rows.specs.Views.{PlaceView, vacant, taken, before, pure_row, pure_place}
use Rattle.cad_rows.specs.Places.{bare_place}
use Rattle.cad_rows.proofs.Stripped.{bare_before}
use Rattle.cad_rows.specs.declared.tree.Place.{Place}

pub join_stop : (a : r.Row) → r.join a r.stop ≡ a
join_stop r.stop = refl
join_stop (r.gap a) = ap r.gap (join_stop a)
join_stop (r.node l n s k a) = ap (r.node l n s k) (join_stop a)

pub join_join : (a b c : r.Row) → r.join (r.join a b) c ≡ r.join a (r.join b c)
join_join r.stop b c = refl
join_join (r.gap a) b c = ap r.gap (join_join a b c)
join_join (r.node l n s k a) b c = ap (r.node l n s k) (join_join a b c)

pub join_before : (v : PlaceView) (a b : r.Row) → r.join (before v a) b ≡ before v (r.join a b)
join_before vacant a b = refl
join_before (taken l t) a b = refl

pub pushed : (ps : List Place) (p : Place) → pure_row (ps ++ p ∷ []) ≡ r.join (pure_row ps) (before (pure_place p) r.stop)
pushed [] p = refl
pushed (q ∷ ps) p = ap (before (pure_place q)) (pushed ps p) ∙ sym (join_before (pure_place q) (pure_row ps) (before (pure_place p) r.stop))

pub from_there : (ps : List Place) (i : ℕ) (p : Place) → i < length ps → p ≡ get_or ps i p → pure_row (drop i ps) ≡ before (pure_place p) (pure_row (drop (suc i) ps))
from_there [] i p inside is = absurd (omega (arith, inside))
from_there (q ∷ ps) zero p inside is = ap (λ x. before (pure_place x) (pure_row ps)) (sym is)
from_there (q ∷ ps) (suc i) p inside is = from_there ps i p (omega (arith, inside)) is

pub past : (ps : List Place) (i : ℕ) → length ps ≤ i → pure_row (drop i ps) ≡ r.stop
past [] zero outside = refl
past [] (suc i) outside = refl
past (q ∷ ps) zero outside = absurd (omega (arith, outside))
past (q ∷ ps) (suc i) outside = past ps i (omega (arith, outside))

pub copies_turn : (ps : List Place) (i : ℕ) (p copy : Place) (now new all : r.Row) → i < length ps → p ≡ get_or ps i p → r.join now (r.bare (pure_row (drop i ps))) ≡ all → pure_place copy ≡ bare_place (pure_place p) → new ≡ r.join now (before (pure_place copy) r.stop) → r.join new (r.bare (pure_row (drop (suc i) ps))) ≡ all
copies_turn ps i p copy now new all inside is so_far copied grown =
    let rest = pure_row (drop (suc i) ps) in
    ap (λ x. r.join x (r.bare rest)) (grown ∙ ap (λ v. r.join now (before v r.stop)) copied)
    ∙ join_join now (before (bare_place (pure_place p)) r.stop) (r.bare rest)
    ∙ ap (r.join now) (join_before (bare_place (pure_place p)) r.stop (r.bare rest) ∙ sym (bare_before (pure_place p) rest) ∙ ap r.bare (sym (from_there ps i p inside is)))
    ∙ so_far

pub copies_end : (ps : List Place) (i : ℕ) (now all : r.Row) → length ps ≤ i → r.join now (r.bare (pure_row (drop i ps))) ≡ all → now ≡ all
copies_end ps i now all outside so_far = sym (join_stop now) ∙ ap (λ x. r.join now (r.bare x)) (sym (past ps i outside)) ∙ so_far
