-- What an action came to, once its value stands on the heap.
use Rattle.std.proofs.Common.{◌≡◌, ap, subst, sym, ◌∙◌, Result, Ok, Err}
use Rattle.std.specs.Global.{Box}
use Rattle.cad_boxed_trees.specs.Views.{Boxes, tree_in}
use Rattle.cad_outcomes.specs.Outcomes as o
use Rattle.cad_outcomes.specs.Outcomes.{Does, Stops}
use Rattle.cad_outcomes.specs.declared.stop.Stop.{Stop}
use Rattle.cad_rows.specs.Views.{pure_tree}
use Rattle.cad_rows.specs.declared.tree.Tree as code
use Rattle.cad_state.specs.Views.{state_over, CarriesOut, FindsAndCarriesOut}
use Rattle.cad_state.specs.declared.state.RunState.{RunState}
use Rattle.cad_world.specs.Rows.{Tree}
use Rattle.cad_world.specs.State.{State, ok, Action}

pub does_boxed : (p : Action Tree) (s t : State) (found : Result code.Tree Stop) (result : Result (Box code.Tree) Stop) → Boxes found result → Does pure_tree p s t found → Does tree_in p s t result
does_boxed p s t (Ok u) (Ok b) is done = done ∙ ap (λ v. ok (pure_tree v) t) (sym is)
does_boxed p s t (Ok u) (Err why) is done = subst (λ v. Stops (p s) v) (sym is) tt
does_boxed p s t (Err why) (Ok b) is done = absurd is
does_boxed p s t (Err why) (Err same) is done = subst (λ v. Stops (p s) v) (sym is) done

pub gives_boxed : (p : Action Tree) (found : Result code.Tree Stop) (result : Result (Box code.Tree) Stop) → Boxes found result → o.Gives pure_tree p found → o.Gives tree_in p result
gives_boxed p (Ok u) (Ok b) is given = λ s. given s ∙ ap (λ v. ok (pure_tree v) s) (sym is)
gives_boxed p (Ok u) (Err why) is given = λ s. subst (λ v. Stops (p s) v) (sym is) tt
gives_boxed p (Err why) (Ok b) is given = absurd is
gives_boxed p (Err why) (Err same) is given = λ s. subst (λ v. Stops (p s) v) (sym is) (given s)

pub carries_boxed : (p : Action Tree) (x y : RunState) (found : Result code.Tree Stop) (result : Result (Box code.Tree) Stop) → Boxes found result → CarriesOut pure_tree p x y found → CarriesOut tree_in p x y result
carries_boxed p x y found result is done w = does_boxed p (state_over w x) (state_over w y) found result is (done w)

pub finds_boxed : (p : Action Tree) (x y : RunState) (found : Result code.Tree Stop) (result : Result (Box code.Tree) Stop) → Boxes found result → FindsAndCarriesOut pure_tree p x y found → FindsAndCarriesOut tree_in p x y result
finds_boxed p x y found result is done w ready = does_boxed p (state_over w x) (state_over w y) found result is (done w ready)
