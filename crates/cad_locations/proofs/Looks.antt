-- What is done where a node is known, and at a location that is known.
use Rattle.std.proofs.Common.{◌≡◌, ℕ, List, [], ◌∷◌, Bool, true, false, Option, Some, None, refl, sym, ap, ◌∙◌, subst}
use Rattle.std.specs.Prelude.{Result, if◌then◌else◌}
use Rattle.cad_outcomes.specs.declared.stop.Stop.{Stop}
use Rattle.cad_outcomes.specs.Outcomes.{Gives}
use Rattle.cad_outcomes.proofs.Steps.{does_same, gives_here}
use Rattle.cad_syntax.specs.TypeIds.{same_id}
use Rattle.cad_syntax.specs.declared.type_id.TypeId.{TypeId}
use Rattle.cad_world.specs.Declared.{contract_in}
use Rattle.cad_world.specs.Labels.{at, value_in}
use Rattle.cad_world.specs.Locations.{Location, with_found}
use Rattle.cad_world.specs.Rows.{Found, Slot, out, slot}
use Rattle.cad_world.specs.State.{Account, Contract, Action, or_fail}
use Rattle.cad_state.specs.Views.{state_over, IsReady, FindsAndCarriesOut}
use Rattle.cad_state.specs.declared.state.RunState.{RunState}

-- a node is known by its label
abbrev pub IsNode : ℕ → RunState → Found → Type 0
IsNode l x f = (w : List Account) → IsReady w x → at l (state_over w x) ≡ Some f

-- what is done with it
pub with_known : {A B : Type 0} (view : B → A) (l : ℕ) (f : Found → Action A) (g : Found) (x y : RunState) (r : Result B Stop)
    → IsNode l x g → FindsAndCarriesOut view (f g) x y r → FindsAndCarriesOut view (with_found l f) x y r
with_known view l f g x y r known h w ready = does_same view (with_found l f) (f g) (state_over w x) (state_over w y) r (ap (λ o. or_fail 113 o f (state_over w x)) (known w ready)) (h w ready)

pub known_gives : {A B : Type 0} (view : B → A) (l : ℕ) (f : Found → Action A) (g : Found) (x : RunState) (r : Result B Stop)
    → IsNode l x g → Gives view (f g) r → FindsAndCarriesOut view (with_found l f) x x r
known_gives view l f g x r known h = with_known view l f g x x r known (λ w ready. gives_here view (f g) r (state_over w x) h)

-- an action at a location, by what the location is
pub at_that : {A B : Type 0} (view : B → A) (action : Location → Action A) (i j : Location) (x y : RunState) (r : Result B Stop)
    → i ≡ j → FindsAndCarriesOut view (action j) x y r → FindsAndCarriesOut view (action i) x y r
at_that view action i j x y r e h = subst (λ k. FindsAndCarriesOut view (action k) x y r) (sym e) h

-- ---- the value of a contract

abbrev slot_of_value : Option Contract → Slot
slot_of_value None = out
slot_of_value (Some c) = slot 0 c.value

value_found : (all : List Contract) (id : TypeId) → value_in all id ≡ slot_of_value (contract_in all id)
value_found [] id = refl
value_found (c ∷ all) id = go (same_id c.id id) (value_found all id)
  where
    go : (b : Bool) → value_in all id ≡ slot_of_value (contract_in all id) → (if b then slot 0 c.value else value_in all id) ≡ slot_of_value (if b then Some c else contract_in all id)
    go true rest = refl
    go false rest = rest

pub value_there : (all : List Contract) (id : TypeId) (c : Contract) → Some c ≡ contract_in all id → slot 0 c.value ≡ value_in all id
value_there all id c e = ap slot_of_value e ∙ sym (value_found all id)

pub value_nowhere : (all : List Contract) (id : TypeId) → None ≡ contract_in all id → out ≡ value_in all id
value_nowhere all id e = ap slot_of_value e ∙ sym (value_found all id)
