-- Two places are compared, and their values put in.
use Rattle.std.proofs.Common.{◌≡◌, ℕ, Bool, true, false, ◌&&◌, ◌==◌, Option, Some, None, refl, sym, subst, true≢false, List}
use Rattle.std.specs.Prelude.{ℤ, pos, negsuc, Result}
use Rattle.std.proofs.lemmas.Bool.{eq-eqb}
use Rattle.cad_outcomes.specs.declared.stop.Stop.{Stop}
use Rattle.cad_outcomes.specs.Outcomes.{Does}
use Rattle.cad_labels.specs.Laws.{Keeps, AnyOne, HasNone}
use Rattle.cad_labels.proofs.Forms.{keeps_done}
use Rattle.cad_labels.proofs.Keeping.{keeps_bind, stays}
use Rattle.cad_labels.proofs.Places.{found_keeps, filling_keeps}
use Rattle.cad_values.specs.Values.{PureValue}
use Rattle.cad_world.specs.Labels.{at, is_label_of, same_node}
use Rattle.cad_world.specs.Locations.{Location, variable, contract, stored, receiver, part, element, entry}
use Rattle.cad_world.specs.Marks.{AreGivenOnce}
use Rattle.cad_world.specs.Rows.{Tree, Found}
use Rattle.cad_world.specs.Same.{same_key}
use Rattle.cad_world.specs.State.{Account, State, done}
use Rattle.cad_evaluation.specs.Changing.{fill, same_location, still_there}
use Rattle.cad_state.specs.Views.{state_over, FindsAndCarriesOut}
use Rattle.cad_state.specs.Ways.{is_there}
use Rattle.cad_state.specs.declared.state.RunState.{RunState}
use Rattle.cad_assignments.specs.Code.Changes.{same_asked, same_node_asked, is_same_index, both_there, first_filled}

-- ---- nodes are compared

-- the state is the one before
pub nodes_asked : (l k : ℕ) (old mid : RunState) (r : Result Bool Stop) → ((w : List Account) → state_over w mid ≡ state_over w old)
    → FindsAndCarriesOut (λ b. b) (same_node_asked l k) mid mid r → FindsAndCarriesOut (λ b. b) (same_node_asked l k) old mid r
nodes_asked l k old mid r same h w ready =
    subst (λ (u : State). Does (λ b. b) (same_node_asked l k) u (state_over w mid) r) (same w) (h w (record { unnamed = ready.unnamed; once = subst AreGivenOnce (sym (same w)) ready.once }))

pub gone_node : (l k : ℕ) (s : State) → is_there (at l s) ≡ false → same_node s l k ≡ false
gone_node l k s e = go (at l s) e
  where
    go : (o : Option Found) → is_there o ≡ false → is_label_of k o ≡ false
    go None h = refl
    go (Some f) h = absurd (true≢false h)

and_true : (b c : Bool) → c ≡ true → (b && c) ≡ b
and_true true c e = e
and_true false c e = refl

pub part_same : (l i k j : ℕ) (s : State) → i ≡ j → same_location s (part l i) (part k j) ≡ same_node s l k
part_same l i k j s e = and_true (same_node s l k) (i == j) (eq-eqb i j e)

pub element_same : (l : ℕ) (z : ℤ) (k : ℕ) (y : ℤ) (s : State) → is_same_index z y ≡ true → same_location s (element l z) (element k y) ≡ same_node s l k
element_same l (pos i) k (pos j) s h = and_true (same_node s l k) (i == j) h
element_same l (pos i) k (negsuc j) s h = absurd (true≢false (sym h))
element_same l (negsuc i) k y s h = absurd (true≢false (sym h))

pub entry_same : (l : ℕ) (x : PureValue) (k : ℕ) (y : PureValue) (s : State) → same_key x y ≡ true → same_location s (entry l x) (entry k y) ≡ same_node s l k
entry_same l x k y s h = and_true (same_node s l k) (same_key x y) h

-- ---- what is kept

pub same_keeps : (x y : Location) → Keeps AnyOne (same_asked x y)
same_keeps x y s once = (tt, stays s once)

pub still_keeps : (x : Location) → Keeps AnyOne (still_there x)
still_keeps (variable x) = keeps_done
still_keeps (contract id) = keeps_done
still_keeps (stored a n) = keeps_done
still_keeps (receiver l) = keeps_done
still_keeps (part l i) = found_keeps AnyOne l (λ f. done) (λ f. keeps_done)
still_keeps (element l i) = found_keeps AnyOne l (λ f. done) (λ f. keeps_done)
still_keeps (entry l key) = found_keeps AnyOne l (λ f. done) (λ f. keeps_done)

pub both_keeps : (x y : Location) → Keeps AnyOne (both_there x y)
both_keeps x y = keeps_bind AnyOne AnyOne (still_there x) (λ _. still_there y) (still_keeps x) (λ _ any. still_keeps y)

pub first_keeps : (x y : Location) (b : Tree) → HasNone b → Keeps AnyOne (first_filled x y b)
first_keeps x y b none = keeps_bind AnyOne AnyOne (both_there x y) (λ _. fill x b) (both_keeps x y) (λ _ any. filling_keeps x b none)
