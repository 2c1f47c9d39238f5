-- The receiver of a chain that didn't end.
use Rattle.std.proofs.Common.{◌≡◌, false, Some, Ok, Err, option_map, refl, ap, ◌∙◌}
use Rattle.cad_outcomes.specs.declared.stop.Stop.{Stop}
use Rattle.cad_outcomes.proofs.Steps.{stopped, does_same}
use Rattle.cad_evaluation.specs.Standing.{Standing, here, led_by, nowhere, receiver_from, receiver_of_chain}
use Rattle.cad_world.specs.Receivers.{Receiver}
use Rattle.cad_world.specs.State.{State, Outcome, bind, ◌>>=◌, give}
use Rattle.cad_state.specs.Views.{state_over, FindsAndCarriesOut}
use Rattle.cad_state.specs.declared.state.RunState.{RunState}
use Rattle.cad_standing.specs.Views.{is_nowhere}

chain_is : (place : Standing) (s : State) → is_nowhere place ≡ false → receiver_of_chain place s ≡ (receiver_from place >>= (λ r. give (Some r))) s
chain_is (here rights x n) s e = refl
chain_is (led_by t) s e = refl
chain_is nowhere s e = cc

pub chained : {D : Type 0} (view : D → Receiver) (place : Standing) (d : D) (a b : RunState) → is_nowhere place ≡ false
    → FindsAndCarriesOut view (receiver_from place) a b (Ok d) → FindsAndCarriesOut (option_map view) (receiver_of_chain place) a b (Ok (Some d))
chained view place d a b e h w ready = chain_is place (state_over w a) e ∙ ap (λ (o : Outcome Receiver). bind o (λ r. give (Some r))) (h w ready)

pub unchained : {D : Type 0} (view : D → Receiver) (place : Standing) (a b : RunState) (stop : Stop) → is_nowhere place ≡ false
    → FindsAndCarriesOut view (receiver_from place) a b (Err stop) → FindsAndCarriesOut (option_map view) (receiver_of_chain place) a b (Err stop)
unchained view place a b stop e h w ready =
    does_same (option_map view) (receiver_of_chain place) (receiver_from place >>= (λ r. give (Some r))) (state_over w a) (state_over w b) (Err stop) (chain_is place (state_over w a) e)
    (stopped (option_map view) (receiver_from place) (λ r. give (Some r)) (state_over w a) (state_over w b) stop (h w ready))
