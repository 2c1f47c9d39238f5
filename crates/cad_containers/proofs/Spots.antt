-- What is done with what a receiver is now.
use Rattle.std.proofs.Common.{◌≡◌, sym, subst}
use Rattle.std.specs.Prelude.{Result, Ok, Err}
use Rattle.cad_outcomes.specs.Outcomes.{Gives}
use Rattle.cad_outcomes.specs.declared.stop.Stop.{Stop}
use Rattle.cad_outcomes.proofs.Steps.{then, stopped, gives_here}
use Rattle.cad_receivers.specs.Views.{at_spot, spot_of}
use Rattle.cad_receivers.specs.declared.receivers.Spot.{Spot}
use Rattle.cad_rows.specs.Views.{pure_tree}
use Rattle.cad_rows.specs.declared.tree.Tree.{Tree}
use Rattle.cad_state.specs.Views.{state_over, FindsAndCarriesOut}
use Rattle.cad_state.specs.declared.state.RunState.{RunState}
use Rattle.cad_world.specs.Receivers as r
use Rattle.cad_world.specs.Rows as rows
use Rattle.cad_world.specs.State.{Action}

-- ---- what is looked at

-- what is done with a spot changes nothing
pub looked : (x : r.Receiver) (f : r.Spot → Action rows.Tree) (a : RunState) (spot : Spot) (q : Result Tree Stop)
    → FindsAndCarriesOut spot_of (r.look_at x) a a (Ok spot) → Gives pure_tree (f (spot_of spot)) q → FindsAndCarriesOut pure_tree (at_spot x f) a a q
looked x f a spot q first second w ready =
    let s = state_over w a in
    then pure_tree (r.look_at x) f (spot_of spot) s s s q (first w ready) (gives_here pure_tree (f (spot_of spot)) q s second)

pub look_stops : (x : r.Receiver) (f : r.Spot → Action rows.Tree) (a : RunState) (why : Stop) → FindsAndCarriesOut {B = Spot} spot_of (r.look_at x) a a (Err why) → FindsAndCarriesOut {B = Tree} pure_tree (at_spot x f) a a (Err why)
look_stops x f a why h w ready = stopped pure_tree (r.look_at x) f (state_over w a) (state_over w a) why (h w ready)

-- ---- what comes to the same

pub spot_same : (x : r.Receiver) (f g : r.Spot → Action rows.Tree) (a b : RunState) (q : Result Tree Stop) → ((spot : r.Spot) → f spot ≡ g spot)
    → FindsAndCarriesOut pure_tree (at_spot x g) a b q → FindsAndCarriesOut pure_tree (at_spot x f) a b q
spot_same x f g a b q same h = subst (λ (k : r.Spot → Action rows.Tree). FindsAndCarriesOut pure_tree (at_spot x k) a b q) (sym (λ i spot. same spot i)) h
