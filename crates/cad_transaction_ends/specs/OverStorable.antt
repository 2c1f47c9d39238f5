-- Runs at whose end what stands in accounts is judged, over accounts that pass this judgement.
use Rattle.std.specs.Prelude.{◌≡◌, true, List, Result}
use Rattle.std.specs.List.{list_all}
use Rattle.cad_outcomes.specs.Outcomes.{Does}
use Rattle.cad_outcomes.specs.declared.stop.Stop.{Stop}
use Rattle.cad_state.specs.Views.{state_over, IsReady}
use Rattle.cad_state.specs.declared.state.RunState.{RunState}
use Rattle.cad_world.specs.State.{Account, Action}
use Rattle.cad_world.specs.Storable.{is_storable, is_low}

-- what these accounts store can be stored, and nothing in it is too high
pub record AreStorable (accounts : List Account) : Type 0 where
  pub storable : list_all (λ a. is_storable a.stored) accounts ≡ true
  pub low : list_all (λ a. is_low a.stored) accounts ≡ true

-- a call that carries out an action, whatever the accounts are, if these pass the judgement
abbrev pub CarriesOutOverStorable : {A B : Type 0} → (B → A) → Action A → RunState → RunState → Result B Stop → Type 0
CarriesOutOverStorable view action before after result = (accounts : List Account) → AreStorable accounts → Does view action (state_over accounts before) (state_over accounts after) result

-- the same where nodes are found by their labels
abbrev pub FindsAndCarriesOutOverStorable : {A B : Type 0} → (B → A) → Action A → RunState → RunState → Result B Stop → Type 0
FindsAndCarriesOutOverStorable view action before after result =
    (accounts : List Account) → AreStorable accounts → IsReady accounts before → Does view action (state_over accounts before) (state_over accounts after) result
