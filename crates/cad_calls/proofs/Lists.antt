-- Walks over lists, one item after another.
use Rattle.std.proofs.Common.{◌≡◌, ◌≤◌, ◌<◌, ◌+◌, refl, sym, ap, ◌∙◌, subst, arith}
use Rattle.std.proofs.Math.Seq.{drop-cons}
use Rattle.std.proofs.lemmas.List.{drop_all, take_all, take_more, map-append, reverse-append}
use Rattle.std.specs.Prelude.{ℕ, suc, List, [], ◌∷◌, length, map, reverse, drop, take, get_or, Result, Ok, Err}
use Rattle.cad_calls.proofs.Steps.{both, stops}
use Rattle.cad_labels.specs.Laws.{Keeps, AnyOne}
use Rattle.cad_outcomes.specs.Outcomes.{no_value}
use Rattle.cad_outcomes.specs.declared.stop.Stop.{Stop}
use Rattle.cad_state.proofs.Finding.{find_same}
use Rattle.cad_state.specs.Views.{FindsAndCarriesOut}
use Rattle.cad_state.specs.declared.state.RunState.{RunState}
use Rattle.cad_world.specs.State.{State, Action, ◌>>◌}

-- what is left, from an item on
cons_at : {X Y : Type 0} (view : X → Y) (xs : List X) (i j : ℕ) (x : X) → suc i ≡ j → i < length xs → x ≡ get_or xs i x
    → map view (drop i xs) ≡ view x ∷ map view (drop j xs)
cons_at view xs i j x next within is =
    ap (map view) (drop-cons xs i x within) ∙ ap (λ y. view y ∷ map view (drop (suc i) xs)) (sym is) ∙ ap (λ k. view x ∷ map view (drop k xs)) next

-- what is left of a walk from the last item to the first
last_at : {X Y : Type 0} (view : X → Y) (xs : List X) (i j : ℕ) (x : X) → i + 1 ≡ j → i < length xs → x ≡ get_or xs i x
    → reverse (map view (take j xs)) ≡ view x ∷ reverse (map view (take i xs))
last_at view xs i j x next within is =
    ap (λ k. reverse (map view (take k xs))) (sym next) ∙ ap (λ l. reverse (map view l)) (take_more xs i x within)
    ∙ ap reverse (map-append view (take i xs) (get_or xs i x ∷ [])) ∙ reverse-append (map view (take i xs)) (view (get_or xs i x) ∷ [])
    ∙ ap (λ y. view y ∷ reverse (map view (take i xs))) (sym is)

-- a walk does one step, and what is left
abbrev pub IsWalk : {Y : Type 0} → (List Y → Action (Unit {0})) → (Y → Action (Unit {0})) → Type 0
IsWalk {Y = Y} all step = (y : Y) (ys : List Y) (s : State) → all (y ∷ ys) s ≡ (step y >> all ys) s

pub step_ok : {Y : Type 0} (all : List Y → Action (Unit {0})) (step : Y → Action (Unit {0})) (law : IsWalk all step) (keeps : (y : Y) → Keeps AnyOne (step y))
    (y : Y) (ys : List Y) (u v z : RunState) (r : Result (Unit {0}) Stop)
    → FindsAndCarriesOut no_value (step y) u v (Ok tt) → FindsAndCarriesOut no_value (all ys) v z r → FindsAndCarriesOut no_value (all (y ∷ ys)) u z r
step_ok all step law keeps y ys u v z r first second =
    find_same no_value (all (y ∷ ys)) (step y >> all ys) u z r (λ w ready. law y ys _)
    (both AnyOne (step y) (λ _. all ys) no_value no_value tt u v z r (keeps y) first second)

pub step_err : {Y : Type 0} (all : List Y → Action (Unit {0})) (step : Y → Action (Unit {0})) (law : IsWalk all step)
    (y : Y) (ys : List Y) (u v z : RunState) (stop : Stop)
    → FindsAndCarriesOut no_value (step y) u v (Err stop) → FindsAndCarriesOut no_value (all (y ∷ ys)) u z (Err stop)
step_err all step law y ys u v z stop first =
    find_same no_value (all (y ∷ ys)) (step y >> all ys) u z (Err stop) (λ w ready. law y ys _) (stops (step y) (λ _. all ys) u stop first)

-- ---- from the first item on

pub turn_ok : {X Y : Type 0} (all : List Y → Action (Unit {0})) (step : Y → Action (Unit {0})) (law : IsWalk all step) (keeps : (y : Y) → Keeps AnyOne (step y))
    (view : X → Y) (xs : List X) (i j : ℕ) (x : X) → suc i ≡ j → i < length xs → x ≡ get_or xs i x → (u v z : RunState) (r : Result (Unit {0}) Stop)
    → FindsAndCarriesOut no_value (step (view x)) u v (Ok tt) → FindsAndCarriesOut no_value (all (map view (drop j xs))) v z r → FindsAndCarriesOut no_value (all (map view (drop i xs))) u z r
turn_ok {Y = Y} all step law keeps view xs i j x next within is u v z r first second =
    subst (λ (ys : List Y). FindsAndCarriesOut no_value (all ys) u z r) (sym (cons_at view xs i j x next within is))
    (step_ok all step law keeps (view x) (map view (drop j xs)) u v z r first second)

pub turn_err : {X Y : Type 0} (all : List Y → Action (Unit {0})) (step : Y → Action (Unit {0})) (law : IsWalk all step)
    (view : X → Y) (xs : List X) (i : ℕ) (x : X) → i < length xs → x ≡ get_or xs i x → (u v z : RunState) (stop : Stop)
    → FindsAndCarriesOut no_value (step (view x)) u v (Err stop) → FindsAndCarriesOut no_value (all (map view (drop i xs))) u z (Err stop)
turn_err {Y = Y} all step law view xs i x within is u v z stop first =
    subst (λ (ys : List Y). FindsAndCarriesOut no_value (all ys) u z (Err stop)) (sym (cons_at view xs i (suc i) x refl within is))
    (step_err all step law (view x) (map view (drop (suc i) xs)) u v z stop first)

-- nothing is left
pub none_left : {X Y : Type 0} (all : List Y → Action (Unit {0})) (view : X → Y) (xs : List X) (i : ℕ) → length xs ≤ i → (u z : RunState) (r : Result (Unit {0}) Stop)
    → FindsAndCarriesOut no_value (all []) u z r → FindsAndCarriesOut no_value (all (map view (drop i xs))) u z r
none_left {X = X} all view xs i all_seen u z r h = subst (λ (l : List X). FindsAndCarriesOut no_value (all (map view l)) u z r) (sym (drop_all i xs all_seen)) h

-- ---- from the last item on

pub back_ok : {X Y : Type 0} (all : List Y → Action (Unit {0})) (step : Y → Action (Unit {0})) (law : IsWalk all step) (keeps : (y : Y) → Keeps AnyOne (step y))
    (view : X → Y) (xs : List X) (i j : ℕ) (x : X) → i + 1 ≡ j → i < length xs → x ≡ get_or xs i x → (u v z : RunState) (r : Result (Unit {0}) Stop)
    → FindsAndCarriesOut no_value (step (view x)) u v (Ok tt) → FindsAndCarriesOut no_value (all (reverse (map view (take i xs)))) v z r
    → FindsAndCarriesOut no_value (all (reverse (map view (take j xs)))) u z r
back_ok {Y = Y} all step law keeps view xs i j x next within is u v z r first second =
    subst (λ (ys : List Y). FindsAndCarriesOut no_value (all ys) u z r) (sym (last_at view xs i j x next within is))
    (step_ok all step law keeps (view x) (reverse (map view (take i xs))) u v z r first second)

pub back_err : {X Y : Type 0} (all : List Y → Action (Unit {0})) (step : Y → Action (Unit {0})) (law : IsWalk all step)
    (view : X → Y) (xs : List X) (i j : ℕ) (x : X) → i + 1 ≡ j → i < length xs → x ≡ get_or xs i x → (u v z : RunState) (stop : Stop)
    → FindsAndCarriesOut no_value (step (view x)) u v (Err stop) → FindsAndCarriesOut no_value (all (reverse (map view (take j xs)))) u z (Err stop)
back_err {Y = Y} all step law view xs i j x next within is u v z stop first =
    subst (λ (ys : List Y). FindsAndCarriesOut no_value (all ys) u z (Err stop)) (sym (last_at view xs i j x next within is))
    (step_err all step law (view x) (reverse (map view (take i xs))) u v z stop first)

-- all are left
pub all_left : {X Y : Type 0} (all : List Y → Action (Unit {0})) (view : X → Y) (xs : List X) (n : ℕ) → n ≡ length xs → (u z : RunState) (r : Result (Unit {0}) Stop)
    → FindsAndCarriesOut no_value (all (reverse (map view (take n xs)))) u z r → FindsAndCarriesOut no_value (all (reverse (map view xs))) u z r
all_left {X = X} all view xs n is u z r h =
    subst (λ (l : List X). FindsAndCarriesOut no_value (all (reverse (map view l))) u z r) (take_all n xs (omega (arith, is))) h

-- none is left
pub none_left_back : {X Y : Type 0} (all : List Y → Action (Unit {0})) (view : X → Y) (xs : List X) (n : ℕ) → n ≡ 0 → (u z : RunState) (r : Result (Unit {0}) Stop)
    → FindsAndCarriesOut no_value (all []) u z r → FindsAndCarriesOut no_value (all (reverse (map view (take n xs)))) u z r
none_left_back all view xs n is u z r h = subst (λ (k : ℕ). FindsAndCarriesOut no_value (all (reverse (map view (take k xs)))) u z r) (sym is) h

-- views are as many as what they are of
pub counted : {X Y : Type 0} (view : X → Y) (n : ℕ) (xs : List X) → n ≡ length xs → n ≡ length (map view xs)
counted view n [] is = is
counted view n (x ∷ xs) is = is ∙ ap suc (counted view (length xs) xs refl)
