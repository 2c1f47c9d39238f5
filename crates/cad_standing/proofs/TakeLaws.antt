-- Values that leave places.
use Rattle.std.proofs.Common.{◌≡◌, ℕ, zero, suc, Option, Result, Err, refl, sym, ap, subst, ◌∙◌}
use Rattle.cad_outcomes.specs.declared.stop.Stop.{Stop}
use Rattle.cad_outcomes.specs.Outcomes.{Stops}
use Rattle.cad_outcomes.proofs.Steps.{stopped, does_same}
use Rattle.cad_syntax.specs.Types.{PureType}
use Rattle.cad_evaluation.specs.Changing.{take}
use Rattle.cad_evaluation.specs.Standing.{Standing, here, led_by, nowhere, location_of, is_variable, taken_from}
use Rattle.cad_world.specs.Locations.{Location, variable, read}
use Rattle.cad_world.specs.Rows.{Tree}
use Rattle.cad_world.specs.State.{State, Outcome, ok, bind, ◌>>=◌, guard}
use Rattle.cad_state.proofs.Finding.{find_any, find_same}
use Rattle.cad_state.specs.Views.{state_over, CarriesOut, FindsAndCarriesOut}
use Rattle.cad_state.specs.declared.state.RunState.{RunState}
use Rattle.cad_standing.specs.CastPlaces.{cast_value, cast_place}

pub taken_there : (place : Standing) (s : State) → taken_from place s ≡ (location_of place >>= (λ x. guard (is_variable x) (take x))) s
taken_there (here rights x zero) s = refl
taken_there (here rights x (suc n)) s = refl
taken_there (led_by t) s = refl
taken_there nowhere s = refl

pub cast_there : (type : PureType) (place : Standing) (s : State) → cast_place type place s ≡ (location_of place >>= (λ x. guard (is_variable x) (read x >>= cast_value type x))) s
cast_there type (here rights x zero) s = refl
cast_there type (here rights x (suc n)) s = refl
cast_there type (led_by t) s = refl
cast_there type nowhere s = refl

-- ---- what is carried out

pub taken_follows : {D : Type 0} (out : D → Tree) (place : Standing) (x : Location) (a b : RunState) (r : Result D Stop)
    → ((s : State) → location_of place s ≡ ok x s) → FindsAndCarriesOut out (guard (is_variable x) (take x)) a b r → FindsAndCarriesOut out (taken_from place) a b r
taken_follows out place x a b r found h =
    find_same out (taken_from place) (guard (is_variable x) (take x)) a b r
    (λ w ready. taken_there place (state_over w a) ∙ ap (λ (o : Outcome Location). bind o (λ y. guard (is_variable y) (take y))) (found (state_over w a))) h

pub taken_stops : {D : Type 0} (out : D → Tree) (place : Standing) (a b : RunState) (stop : Stop)
    → ((s : State) → Stops (location_of place s) stop) → FindsAndCarriesOut out (taken_from place) a b (Err stop)
taken_stops out place a b stop h w ready =
    does_same out (taken_from place) (location_of place >>= (λ y. guard (is_variable y) (take y))) (state_over w a) (state_over w b) (Err stop) (taken_there place (state_over w a))
    (stopped out (location_of place) (λ y. guard (is_variable y) (take y)) (state_over w a) (state_over w b) stop (h (state_over w a)))

pub cast_follows : {D : Type 0} (out : D → Option Tree) (type : PureType) (place : Standing) (x : Location) (a b : RunState) (r : Result D Stop)
    → ((s : State) → location_of place s ≡ ok x s) → FindsAndCarriesOut out (guard (is_variable x) (read x >>= cast_value type x)) a b r → FindsAndCarriesOut out (cast_place type place) a b r
cast_follows out type place x a b r found h =
    find_same out (cast_place type place) (guard (is_variable x) (read x >>= cast_value type x)) a b r
    (λ w ready. cast_there type place (state_over w a) ∙ ap (λ (o : Outcome Location). bind o (λ y. guard (is_variable y) (read y >>= cast_value type y))) (found (state_over w a))) h

pub cast_stops : {D : Type 0} (out : D → Option Tree) (type : PureType) (place : Standing) (a b : RunState) (stop : Stop)
    → ((s : State) → Stops (location_of place s) stop) → FindsAndCarriesOut out (cast_place type place) a b (Err stop)
cast_stops out type place a b stop h w ready =
    does_same out (cast_place type place) (location_of place >>= (λ y. guard (is_variable y) (read y >>= cast_value type y))) (state_over w a) (state_over w b) (Err stop) (cast_there type place (state_over w a))
    (stopped out (location_of place) (λ y. guard (is_variable y) (read y >>= cast_value type y)) (state_over w a) (state_over w b) stop (h (state_over w a)))

-- what stands at a variable's location
pub taken_at : {D : Type 0} (out : D → Tree) (l : Location) (n : ℕ) (a b : RunState) (r : Result D Stop)
    → l ≡ variable n → CarriesOut out (take (variable n)) a b r → FindsAndCarriesOut out (guard (is_variable l) (take l)) a b r
taken_at out l n a b r e h =
    subst (λ (k : Location). FindsAndCarriesOut out (guard (is_variable k) (take k)) a b r) (sym e) (find_any out (take (variable n)) a b r h)

pub cast_at : {D : Type 0} (out : D → Option Tree) (type : PureType) (l : Location) (n : ℕ) (a b : RunState) (r : Result D Stop)
    → l ≡ variable n → FindsAndCarriesOut out (read (variable n) >>= cast_value type (variable n)) a b r → FindsAndCarriesOut out (guard (is_variable l) (read l >>= cast_value type l)) a b r
cast_at out type l n a b r e h =
    subst (λ (k : Location). FindsAndCarriesOut out (guard (is_variable k) (read k >>= cast_value type k)) a b r) (sym e) h
