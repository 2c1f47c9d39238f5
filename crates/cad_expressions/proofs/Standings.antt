-- Places without parts.
use Rattle.std.proofs.Common.{◌≡◌, ℕ, Bool, None, Result, Ok, ap, refl, sym, ◌∙◌}
use Rattle.cad_syntax.specs.declared.type_id.TypeId.{TypeId}
use Rattle.cad_declarations.specs.Typed as e
use Rattle.cad_declarations.specs.Views.{place_of}
use Rattle.cad_declarations.specs.declared.term.Place.{Place}
use Rattle.cad_declarations.specs.declared.term.Place.TheVariants as place
use Rattle.cad_evaluation.specs.Callees.{Calls, Front}
use Rattle.cad_evaluation.specs.Standing as spec
use Rattle.cad_evaluation.specs.Terms.{own_self}
use Rattle.cad_outcomes.specs.Outcomes.{Gives}
use Rattle.cad_outcomes.specs.declared.stop.Stop.{Stop}
use Rattle.cad_expression_leaves.specs.Passed.{standing_of}
use Rattle.cad_expression_leaves.specs.Passed.{Standing}
use Rattle.cad_state.specs.Views.{state_over, CarriesOut, FindsAndCarriesOut}
use Rattle.cad_state.specs.declared.state.RunState.{RunState}
use Rattle.cad_state.proofs.Finding.{find_any, find_given, find_same}
use Rattle.cad_world.specs.Locations.{variable, contract}
use Rattle.cad_world.specs.State.{State, ok, Action, give}
use Rattle.cad_expression_leaves.specs.Code.Steps.{placed}
use Rattle.cad_expression_leaves.proofs.Trees as tree

module _ (front : Front) (calls : Calls) (writes : Bool) (t : Place) (x : RunState) (r : Result Standing Stop) where
  plain : (u : e.PlaceTree) (q : Action spec.Standing) → place_of t ≡ u → ((s : State) → placed front calls u writes s ≡ q s) → FindsAndCarriesOut standing_of q x x r
      → FindsAndCarriesOut standing_of (placed front calls (place_of t) writes) x x r
  plain u q at same done = find_same standing_of (placed front calls (place_of t) writes) q x x r (λ w ready. ap (λ z. placed front calls z writes (state_over w x)) at ∙ same (state_over w x)) done

  pub variable_arm : (n : ℕ) (d : Standing) → t ≡ place.Variable n → r ≡ Ok d → standing_of d ≡ spec.here None (variable n) 0
      → FindsAndCarriesOut standing_of (placed front calls (place_of t) writes) x x r
  unfolding placed
  variable_arm n d is made at = plain (e.variable n) (give (spec.here None (variable n) 0)) (tree.place_variable_at t n is) (λ s. refl) (rw (made) (λ w ready. ap (λ p. ok p (state_over w x)) (sym at)))

  pub self_arm : t ≡ place.Self_ → CarriesOut standing_of own_self x x r → FindsAndCarriesOut standing_of (placed front calls (place_of t) writes) x x r
  unfolding placed
  self_arm is done = plain e.self own_self (tree.place_self_at t is) (λ s. refl) (find_any standing_of own_self x x r done)

  pub contract_arm : (id : TypeId) → t ≡ place.Contract id → Gives standing_of (give (spec.here None (contract id) 0)) r
      → FindsAndCarriesOut standing_of (placed front calls (place_of t) writes) x x r
  unfolding placed
  contract_arm id is done = plain (e.contract id) (give (spec.here None (contract id) 0)) (tree.place_contract_at t id is) (λ s. refl) (find_given standing_of (give (spec.here None (contract id) 0)) x r done)
