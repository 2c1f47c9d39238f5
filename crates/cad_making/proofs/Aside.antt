-- What is destroyed stands aside.
use Rattle.std.proofs.Common.{◌≡◌, ℕ, ◌+◌, Bool, List, [], ◌++◌, sym, ap, ◌∙◌}
use Rattle.cad_world.specs.Rows.{NodeShape, Row, Tree, back, tree_identities}
use Rattle.cad_world.specs.State.{Account, State, ok, bind}
use Rattle.cad_evaluation.specs.Ending.{is_told_of}
use Rattle.cad_outcomes.specs.declared.stop.Stop.{Stop}
use Rattle.cad_outcomes.specs.Outcomes.{Stops}
use Rattle.cad_outcomes.proofs.Steps.{stops_on}
use Rattle.cad_rows.specs.Views.{PlaceView, taken, before}
use Rattle.cad_state.specs.Views.{state_over}
use Rattle.cad_state.specs.declared.state.RunState.{RunState}
use Rattle.cad_making.specs.Dying.{Dying, buried}
use Rattle.cad_making.specs.Code.Ends.{told_in, numbered_place, types_in, count_of, stood_first, placed_aside, tree_aside}
use Rattle.cad_making.proofs.Passing.{told_same}

pub stands : (test : NodeShape → Bool) (v u : PlaceView) (s : State) (m : Row) (n : ℕ) → u ≡ numbered_place test s.next_label v → m ≡ before u s.making → n ≡ s.next_label + count_of test v
    → stood_first test v s ≡ ok tt (record s { making = m; next_label = n })
stands test v u s m n e d c =
    let made : before (numbered_place test s.next_label v) s.making ≡ m = ap (λ x. before x s.making) (sym e) ∙ sym d in
    λ i. ok tt (record s { making = made i; next_label = sym c i })

abbrev pub ends_of : (NodeShape → Bool) → PlaceView → List ℕ → State → Dying
ends_of test v identities s = record { first_label = s.next_label; types = types_in test v; identities = identities }

pub placed : (test : NodeShape → Bool) (v : PlaceView) (identities : List ℕ) (s u : State) (d : Dying) → stood_first test v s ≡ ok tt u → d ≡ ends_of test v identities s → placed_aside test v identities s ≡ ok d u
placed test v identities s u d e f = ap (λ o. bind o (λ _ x. ok (ends_of test v identities s) x)) e ∙ ap (λ x. ok x u) (sym f)

pub not_placed : (test : NodeShape → Bool) (v : PlaceView) (identities : List ℕ) (s : State) (why : Stop) → Stops (stood_first test v s) why → Stops (placed_aside test v identities s) why
not_placed test v identities s why h = stops_on (stood_first test v s) (λ _ x. ok (ends_of test v identities s) x) why h

-- a tree that stands in no place yet
pub tree_placed : (w : List Account) (x : RunState) (t : Tree) (v : PlaceView) (identities : List ℕ) → v ≡ taken [] t → identities ≡ tree_identities t
    → tree_aside t (state_over w x) ≡ placed_aside (told_in x) v identities (state_over w x)
tree_placed w x t v identities e d = sym (
    ap (λ test. placed_aside test v identities (state_over w x)) (told_same w x)
    ∙ ap (λ u. placed_aside (is_told_of (state_over w x)) u identities (state_over w x)) e
    ∙ ap (λ all. placed_aside (is_told_of (state_over w x)) (taken [] t) all (state_over w x)) d)

pub buries : (d : Dying) (s : State) (m : Row) (all : List ℕ) → m ≡ back 1 s.making → all ≡ s.destroyed ++ d.identities → buried d s ≡ ok tt (record s { making = m; destroyed = all })
buries d s m all e f = λ i. ok tt (record s { making = sym e i; destroyed = sym f i })
