-- What an action came to, once its value stands on the heap.
use Rattle.std.proofs.Common.{◌≡◌, List, [], ◌∷◌, ◌++◌, ap, subst, sym, ◌∙◌, Result, Ok, Err}
use Rattle.std.specs.Global.{Box}
use Rattle.cad_outcomes.specs.Outcomes as o
use Rattle.cad_outcomes.specs.Outcomes.{Does, Stops}
use Rattle.cad_outcomes.specs.declared.stop.Stop.{Stop}
use Rattle.cad_rows.specs.Views.{pure_tree}
use Rattle.cad_rows.specs.declared.tree.Tree as code
use Rattle.cad_state.specs.Views.{state_over, CarriesOut, FindsAndCarriesOut}
use Rattle.cad_state.specs.declared.state.RunState.{RunState}
use Rattle.cad_world.specs.Rows.{Tree}
use Rattle.cad_world.specs.State.{State, ok, Action}
use Rattle.cad_evaluation.specs.Uses.{Pair}
use Rattle.cad_expression_leaves.specs.Code.Steps.{Boxes, GoesOn, pair_of}
use Rattle.cad_expression_leaves.specs.Views.{tree_in}
use Rattle.cad_expression_leaves.proofs.Going.{goes_on, goes_any, goes_given}
pub use Rattle.cad_boxed_trees.proofs.Boxing.{does_boxed, gives_boxed, carries_boxed, finds_boxed}

-- ---- what goes on from a part, and its value stands on the heap then

pub boxed_on : {A B : Type 0} (P : A → Type 0) (view : B → A) (f : A → Action Tree) (r : Result B Stop) (b : B) (a : A) (y z : RunState) (found : Result code.Tree Stop) (result : Result (Box code.Tree) Stop)
    → r ≡ Ok b → a ≡ view b → Boxes found result → FindsAndCarriesOut pure_tree (f a) y z found → GoesOn P view tree_in f r y z result
boxed_on P view f r b a y z found result is at box done =
    goes_on P view tree_in f r b y z result is (subst (λ v. FindsAndCarriesOut tree_in (f v) y z result) at (finds_boxed (f a) y z found result box done))

pub boxed_any : {A B : Type 0} (P : A → Type 0) (view : B → A) (f : A → Action Tree) (r : Result B Stop) (b : B) (a : A) (y z : RunState) (found : Result code.Tree Stop) (result : Result (Box code.Tree) Stop)
    → r ≡ Ok b → a ≡ view b → Boxes found result → CarriesOut pure_tree (f a) y z found → GoesOn P view tree_in f r y z result
boxed_any P view f r b a y z found result is at box done =
    goes_any P view tree_in f r b y z result is (subst (λ v. CarriesOut tree_in (f v) y z result) at (carries_boxed (f a) y z found result box done))

pub boxed_given : {A B : Type 0} (P : A → Type 0) (view : B → A) (f : A → Action Tree) (r : Result B Stop) (b : B) (a : A) (y : RunState) (found : Result code.Tree Stop) (result : Result (Box code.Tree) Stop)
    → r ≡ Ok b → a ≡ view b → Boxes found result → o.Gives pure_tree (f a) found → GoesOn P view tree_in f r y y result
boxed_given P view f r b a y found result is at box given =
    goes_given P view tree_in f r b y result is (subst (λ v. o.Gives tree_in (f v) result) at (gives_boxed (f a) found result box given))

-- ---- what goes on from a value that stood on the heap

pub value_on : {C D : Type 0} (P : Tree → Type 0) (out : D → C) (f : Tree → Action C) (r : Result (Box code.Tree) Stop) (b : Box code.Tree) (t : code.Tree) (y z : RunState) (result : Result D Stop)
    → r ≡ Ok b → t ≡ b.value → FindsAndCarriesOut out (f (pure_tree t)) y z result → GoesOn P tree_in out f r y z result
value_on P out f r b t y z result is at done =
    goes_on P tree_in out f r b y z result is (subst (λ (v : code.Tree). FindsAndCarriesOut out (f (pure_tree v)) y z result) at done)

pub value_any : {C D : Type 0} (P : Tree → Type 0) (out : D → C) (f : Tree → Action C) (r : Result (Box code.Tree) Stop) (b : Box code.Tree) (t : code.Tree) (y z : RunState) (result : Result D Stop)
    → r ≡ Ok b → t ≡ b.value → CarriesOut out (f (pure_tree t)) y z result → GoesOn P tree_in out f r y z result
value_any P out f r b t y z result is at done =
    goes_any P tree_in out f r b y z result is (subst (λ (v : code.Tree). CarriesOut out (f (pure_tree v)) y z result) at done)

pub value_given : {C D : Type 0} (P : Tree → Type 0) (out : D → C) (f : Tree → Action C) (r : Result (Box code.Tree) Stop) (b : Box code.Tree) (t : code.Tree) (y : RunState) (result : Result D Stop)
    → r ≡ Ok b → t ≡ b.value → o.Gives out (f (pure_tree t)) result → GoesOn P tree_in out f r y y result
value_given P out f r b t y result is at given =
    goes_given P tree_in out f r b y result is (subst (λ (v : code.Tree). o.Gives out (f (pure_tree v)) result) at given)

-- a key and a value that stood on the heap come to the end of pairs
pub pushed_pair : (key value : Box code.Tree) (k v : code.Tree) (old new : List Pair) → k ≡ key.value → v ≡ value.value → new ≡ old ++ record { key = pure_tree k; value = pure_tree v } ∷ []
    → (s : State) → pair_of (tree_in key) old (tree_in value) s ≡ ok new s
unfolding pair_of
pushed_pair key value k v old new first second is s = ap (λ q. ok q s)
    (sym (is ∙ ap (λ (x : code.Tree). old ++ record { key = pure_tree x; value = pure_tree v } ∷ []) first ∙ ap (λ (x : code.Tree). old ++ record { key = tree_in key; value = pure_tree x } ∷ []) second))
