-- A row whose values are asked one after the other.
use Rattle.std.proofs.Common.{◌≡◌, ◌<◌, ◌≤◌, ℕ, suc, length, drop, get_or, List, refl, sym, ap, ◌∙◌, subst}
use Rattle.std.proofs.Math.Seq.{drop-cons}
use Rattle.std.proofs.lemmas.List.{drop_all}
use Rattle.std.specs.Prelude.{Ok, Err}
use Rattle.cad_casts.proofs.Settles.{row_then, place_keeps}
use Rattle.cad_casts.specs.Code.Rows.{RestIsAll}
use Rattle.cad_evaluation.specs.Containers.{all_of_type}
use Rattle.cad_labels.specs.Laws.{AnyOne}
use Rattle.cad_outcomes.specs.Outcomes.{no_value}
use Rattle.cad_outcomes.specs.declared.stop.Stop.{Stop}
use Rattle.cad_rows.specs.Views.{before, pure_place, pure_row}
use Rattle.cad_rows.specs.declared.tree.Place.{Place}
use Rattle.cad_state.proofs.Finding.{find_same, find_stopped, find_then}
use Rattle.cad_state.specs.Views.{state_over, FindsAndCarriesOut}
use Rattle.cad_state.specs.declared.state.RunState.{RunState}
use Rattle.cad_syntax.specs.Types.{PureType}
use Rattle.cad_world.specs.Rows.{Row, stop}
use Rattle.cad_world.specs.State.{done, ◌>>◌}

-- the place at an index stands before the rest
row_at : (ps : List Place) (i j : ℕ) (p : Place) → suc i ≡ j → i < length ps → p ≡ get_or ps i p → pure_row (drop i ps) ≡ before (pure_place p) (pure_row (drop j ps))
row_at ps i j p next within is =
    ap pure_row (drop-cons ps i p within) ∙ ap (λ (q : Place). before (pure_place q) (pure_row (drop (suc i) ps))) (sym is) ∙ ap (λ (k : ℕ). before (pure_place p) (pure_row (drop k ps))) next

next_asked : (type : PureType) (p : Place) (rest whole : Row) (x y first : RunState)
    → FindsAndCarriesOut no_value (all_of_type type (before (pure_place p) stop) done) x y (Ok tt)
    → RestIsAll type (before (pure_place p) rest) whole x first → RestIsAll type rest whole y first
next_asked type p rest whole x y first here all = λ end r h. all end r
    (find_same no_value (all_of_type type (before (pure_place p) rest) done) (all_of_type type (before (pure_place p) stop) done >> all_of_type type rest done) x end r (λ w ready. row_then type (pure_place p) rest (state_over w x))
    (find_then AnyOne (all_of_type type (before (pure_place p) stop) done) (place_keeps type (pure_place p)) no_value no_value (λ _. all_of_type type rest done) tt x y end r here (λ u. h)))

stopped_there : (type : PureType) (p : Place) (rest whole : Row) (x y first : RunState) (why : Stop)
    → FindsAndCarriesOut no_value (all_of_type type (before (pure_place p) stop) done) x y (Err why)
    → RestIsAll type (before (pure_place p) rest) whole x first → FindsAndCarriesOut no_value (all_of_type type whole done) first y (Err why)
stopped_there type p rest whole x y first why here all = all y (Err why)
    (find_same no_value (all_of_type type (before (pure_place p) rest) done) (all_of_type type (before (pure_place p) stop) done >> all_of_type type rest done) x y (Err why) (λ w ready. row_then type (pure_place p) rest (state_over w x))
    (find_stopped no_value no_value (all_of_type type (before (pure_place p) stop) done) (λ _. all_of_type type rest done) x y y why here))

pub row_next : (type : PureType) (ps : List Place) (i j : ℕ) (p : Place) (x y first : RunState) → suc i ≡ j → i < length ps → p ≡ get_or ps i p
    → FindsAndCarriesOut no_value (all_of_type type (before (pure_place p) stop) done) x y (Ok tt)
    → RestIsAll type (pure_row (drop i ps)) (pure_row ps) x first → RestIsAll type (pure_row (drop j ps)) (pure_row ps) y first
row_next type ps i j p x y first next within is here all =
    next_asked type p (pure_row (drop j ps)) (pure_row ps) x y first here (subst (λ (r : Row). RestIsAll type r (pure_row ps) x first) (row_at ps i j p next within is) all)

pub row_stopped : (type : PureType) (ps : List Place) (i : ℕ) (p : Place) (x y first : RunState) (why : Stop) → i < length ps → p ≡ get_or ps i p
    → FindsAndCarriesOut no_value (all_of_type type (before (pure_place p) stop) done) x y (Err why)
    → RestIsAll type (pure_row (drop i ps)) (pure_row ps) x first → FindsAndCarriesOut no_value (all_of_type type (pure_row ps) done) first y (Err why)
row_stopped type ps i p x y first why within is here all =
    stopped_there type p (pure_row (drop (suc i) ps)) (pure_row ps) x y first why here (subst (λ (r : Row). RestIsAll type r (pure_row ps) x first) (row_at ps i (suc i) p refl within is) all)

pub row_ended : (type : PureType) (ps : List Place) (i : ℕ) (x first : RunState) → length ps ≤ i → RestIsAll type (pure_row (drop i ps)) (pure_row ps) x first
    → FindsAndCarriesOut no_value (all_of_type type (pure_row ps) done) first x (Ok tt)
row_ended type ps i x first end all =
    subst (λ (qs : List Place). RestIsAll type (pure_row qs) (pure_row ps) x first) (drop_all i ps end) all x (Ok tt) (λ w ready. refl)
