-- What is told of the type of a receiver, by a copy of it without its parts.
use Rattle.std.proofs.Common.{◌≡◌, ℕ, Option, Some, None, refl, ap, ◌∙◌}
use Rattle.std.specs.Prelude.{Result, Ok, Err}
use Rattle.cad_evaluation.specs.Arguments.{argument, with_argument}
use Rattle.cad_evaluation.specs.Casts.{instance_told, spot_type, target_in, type_in_value, with_spot_type, with_type}
use Rattle.cad_evaluation.specs.Texts.{in_tree}
use Rattle.cad_outcomes.proofs.Steps.{stops_on, stops_same}
use Rattle.cad_outcomes.specs.Outcomes.{Does, Stops}
use Rattle.cad_outcomes.specs.declared.stop.Stop.{Stop}
use Rattle.cad_rows.specs.Views.{pure_tree}
use Rattle.cad_rows.specs.declared.tree.Tree.{Tree as Code}
use Rattle.cad_state.specs.Views.{state_over, IsReady, FindsAndCarriesOut}
use Rattle.cad_state.specs.declared.state.RunState.{RunState}
use Rattle.cad_syntax.specs.Types.{PureType}
use Rattle.cad_syntax.specs.declared.types.Authorization.{Authorization}
use Rattle.cad_value_operations.proofs.Looks.{does_from, stops_untold}
use Rattle.cad_value_operations.specs.Code.Members.{PureTold, instance_by, instance_of, met_so, named, told_by, told_if, told_of, with_told}
use Rattle.cad_value_operations.specs.declared.types.Told.{Told}
use Rattle.cad_world.specs.OwnTypes.{own_type}
use Rattle.cad_world.specs.Receivers.{Spot}
use Rattle.cad_world.specs.Rows.{Row, Tree}
use Rattle.cad_world.specs.State.{State, Outcome, ok, failed, limit, ill, bind, Action, ◌>>=◌, give, or_fail, with_some}

-- ---- with the type of a value

fail_then : {A : Type 0} (o : Option PureType) (f : PureType → Action A) (s : State) → or_fail 113 o f s ≡ (or_fail 113 o (λ own. give own) >>= f) s
fail_then None f s = refl
fail_then (Some own) f s = refl

typed_then : (t : Tree) (f : PureType → Action Tree) (s : State) → with_type t f s ≡ (with_type t (λ own. give own) >>= f) s
typed_then t f s = fail_then (own_type s t) f s

pub typed_given : (t : Tree) (f : PureType → Action Tree) (own : PureType) (s u v : State) (r : Result Code Stop)
    → with_type t (λ own. give own) s ≡ ok own u → Does pure_tree (f own) u v r → Does pure_tree (with_type t f) s v r
typed_given t f own s u v r first second =
    does_from pure_tree (with_type t f) (f own) s u v r (typed_then t f s ∙ ap (λ (o : Outcome PureType). bind o (λ a. f a)) first) second

pub typed_stops : (t : Tree) (f : PureType → Action Tree) (s : State) (why : Stop) → Stops (with_type t (λ own. give own) s) why → Stops (with_type t f s) why
typed_stops t f s why h = stops_same _ _ why (typed_then t f s) (stops_on (with_type t (λ own. give own) s) f why h)

-- ---- what is told of a receiver tells its type

named_same : (o : Option PureType) (f : PureType → Action Tree) (s : State) → or_fail 113 o f s ≡ with_told (named o) f s
named_same None f s = refl
named_same (Some type) f s = refl

type_so : (f : PureType → Action Tree) (l : Option ℕ) (a : Option Authorization) (t : Tree) (s : State) → or_fail 113 (spot_type s l a t) f s ≡ with_told (told_if (met_so l a) t) f s
type_so f (Some l) a t s = refl
type_so f None None t s = refl
type_so f None (Some a) t s = named_same (target_in t.shape) f s

pub told_so : (f : PureType → Action Tree) (spot : Spot) (s : State) → with_spot_type spot f s ≡ with_told (told_by spot) f s
told_so f spot s = type_so f spot.label spot.rights spot.tree s

pub instance_so : (r : Row) (spot : Spot) (s : State) → with_argument r (instance_told spot) s ≡ instance_by r (told_by spot) s
instance_so r spot s = go (argument 0 r)
  where
    wanted_so : (o : Option PureType) → with_some o (λ type. with_spot_type spot (instance_of type)) s ≡ with_some o (λ type. with_told (told_by spot) (instance_of type)) s
    wanted_so None = refl
    wanted_so (Some type) = told_so (instance_of type) spot s

    go : (o : Option Tree) → with_some o (instance_told spot) s ≡ with_some o (λ given. with_some (in_tree type_in_value given) (λ type. with_told (told_by spot) (instance_of type))) s
    go None = refl
    go (Some given) = wanted_so (in_tree type_in_value given)

-- ---- what was told first

first_told : (f : Spot → Action Tree) (g : PureTold → Action Tree) (same : (spot : Spot) (s : State) → f spot s ≡ g (told_by spot) s)
    (o : Outcome Spot) → bind o (λ spot. f spot) ≡ bind (bind o (λ spot. give (told_by spot))) (λ t. g t)
first_told f g same (ok spot s) = same spot s
first_told f g same (failed n) = refl
first_told f g same limit = refl
first_told f g same ill = refl

-- what was told of the receiver tells what is left
pub told_then : (look : Action Spot) (f : Spot → Action Tree) (g : PureTold → Action Tree) → ((spot : Spot) (s : State) → f spot s ≡ g (told_by spot) s)
    → (t : Told) (x z : RunState) (r : Result Code Stop)
    → FindsAndCarriesOut told_of (look >>= (λ spot. give (told_by spot))) x x (Ok t) → FindsAndCarriesOut pure_tree (g (told_of t)) x z r
    → FindsAndCarriesOut pure_tree (look >>= f) x z r
told_then look f g same t x z r first second w ready =
    does_from pure_tree (look >>= f) (g (told_of t)) (state_over w x) (state_over w x) (state_over w z) r
    (first_told f g same (look (state_over w x)) ∙ ap (λ (o : Outcome PureTold). bind o (λ u. g u)) (first w ready)) (second w ready)

-- it couldn't be looked at
pub told_stops : (look : Action Spot) (f : Spot → Action Tree) (x z : RunState) (stop : Stop)
    → FindsAndCarriesOut {B = Told} told_of (look >>= (λ spot. give (told_by spot))) x x (Err stop) → FindsAndCarriesOut pure_tree (look >>= f) x z (Err stop)
told_stops look f x z stop first w ready = stops_untold (look (state_over w x)) told_by f stop (first w ready)
