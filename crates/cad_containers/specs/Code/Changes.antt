-- How the array or dictionary is changed that a receiver is now.
use Rattle.std.specs.Prelude.{◌≡◌, ◌≤◌, ℕ, ℤ, suc, pos, negsuc, true, false, List, Option, Some, None, Result, Ok, Err}
use Rattle.cad_syntax.specs.Types.{PureType, pure_type}
use Rattle.cad_world.specs.Labels.{at}
use Rattle.cad_world.specs.Receivers as r
use Rattle.cad_world.specs.Rows.{array, Row, Tree, Found, count_places}
use Rattle.cad_world.specs.State.{State, Account, Action}
use Rattle.cad_evaluation.specs.Builtins.{on_array, on_array_at}
use Rattle.cad_evaluation.specs.Containers.{is_index, void_tree}
use Rattle.cad_outcomes.specs.Outcomes.{Does, Stops}
use Rattle.cad_outcomes.specs.declared.error.RunError.TheVariants.{ReferenceInvalid}
use Rattle.cad_outcomes.specs.declared.stop.Stop.{Stop}
use Rattle.cad_outcomes.specs.declared.stop.Stop.TheVariants.{Failed}
use Rattle.cad_receivers.specs.Views.{at_spot}
use Rattle.cad_rows.specs.Views.{pure_tree}
use Rattle.cad_rows.specs.declared.tree.Tree as code
use Rattle.cad_state.specs.Views.{state_over, IsReady}
use Rattle.cad_state.specs.declared.state.RunState.{RunState}
use Rattle.cad_containers.specs.declared.aims.ArrayAim.{ArrayAim}

-- what is known of the array that a spot is, or why it can't be changed
abbrev pub IsArrayAim : r.Spot → Result ArrayAim Stop → Type 0
IsArrayAim spot (Ok a) = (spot.label ≡ Some a.label) × (spot.tree.optionals ≡ 0) × (spot.tree.shape ≡ array (pure_type a.element)) × (a.count ≡ count_places spot.tree.parts)
IsArrayAim spot (Err stop) =
    ((p : ℕ → PureType → Row → Action Tree) (s : State) → Stops (on_array_at spot p s) stop) × ((p : PureType → Row → Action Tree) (s : State) → Stops (on_array spot p s) stop)

-- what is known of the array that a receiver is now: a change of the receiver is one of the node with this label
abbrev pub ArrayAimed : r.Receiver → State → Result ArrayAim Stop → Type 0
ArrayAimed x s (Ok a) =
    (f : Found) × (at a.label s ≡ Some f) × (f.tree.shape ≡ array (pure_type a.element)) × (a.count ≡ count_places f.tree.parts)
    × ((p : ℕ → PureType → Row → Action Tree) → at_spot x (λ spot. on_array_at spot p) s ≡ p a.label (pure_type a.element) f.tree.parts s)
    × ((p : PureType → Row → Action Tree) → at_spot x (λ spot. on_array spot p) s ≡ p (pure_type a.element) f.tree.parts s)
ArrayAimed x s (Err stop) =
    ((p : ℕ → PureType → Row → Action Tree) → Stops (at_spot x (λ spot. on_array_at spot p) s) stop) × ((p : PureType → Row → Action Tree) → Stops (at_spot x (λ spot. on_array spot p) s) stop)

-- what is done with the node with a label, of which something is known
abbrev pub Changes : ℕ → (Found → Type 0) → (Found → Action Tree) → RunState → RunState → Result code.Tree Stop → Type 0
Changes l is p before after result =
    (accounts : List Account) → IsReady accounts before → (f : Found) → at l (state_over accounts before) ≡ Some f → is f
    → Does pure_tree (p f) (state_over accounts before) (state_over accounts after) result

-- an array of that many elements of the type
abbrev pub IsArray : PureType → ℕ → Found → Type 0
IsArray type n f = (f.tree.shape ≡ array type) × (n ≡ count_places f.tree.parts)

abbrev pub ChangesArray : ℕ → PureType → ℕ → (Row → Action Tree) → RunState → RunState → Result code.Tree Stop → Type 0
ChangesArray l type n p before after result = Changes l (IsArray type n) (λ f. p f.tree.parts) before after result

-- an integer is negative, or above a length
abbrev pub IsNoPlace : ℤ → ℕ → Type 0
IsNoPlace (pos i) n = suc n ≤ i
IsNoPlace (negsuc i) n = Unit {0}

-- an integer as a place up to a length, or that it is none
abbrev pub IsPlace : ℤ → ℕ → Option ℕ → Type 0
IsPlace z n None = (is_index z (suc n) ≡ false) × IsNoPlace z n
IsPlace z n (Some i) = (z ≡ pos i) × (is_index z (suc n) ≡ true)

-- a change gives Void
abbrev pub Voids : Result (Unit {0}) Stop → Result code.Tree Stop → Type 0
Voids (Ok u) (Ok t) = pure_tree t ≡ void_tree
Voids (Err why) (Err stop) = stop ≡ why
Voids (Ok u) (Err stop) = ⊥
Voids (Err why) (Ok t) = ⊥

-- what was taken out of a place, 113 where nothing was there
abbrev pub taken_as : Result (Option code.Tree) Stop → Result code.Tree Stop
taken_as (Ok (Some t)) = Ok t
taken_as (Ok None) = Err (Failed ReferenceInvalid)
taken_as (Err stop) = Err stop
