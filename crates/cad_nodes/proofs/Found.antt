-- What is done to the node with a label, or that there is none.
use Rattle.std.proofs.Common.{◌≡◌, ℕ, Bool, true, false, Option, Some, None, refl, sym, ap, ◌∙◌, subst, true≢false, option_map}
use Rattle.std.specs.Prelude.{List, Result, Ok, Err}
use Rattle.cad_nodes.specs.Edits.{edited_shape, edited_parts, left_by, changing, without_value}
use Rattle.cad_nodes.specs.declared.edit.Edit.{Edit}
use Rattle.cad_nodes.specs.declared.edit.Edit.TheVariants as e
use Rattle.cad_outcomes.proofs.Steps.{stops_same}
use Rattle.cad_outcomes.specs.Outcomes.{Does, Stops, no_value}
use Rattle.cad_outcomes.specs.declared.stop.Stop.{Stop}
use Rattle.cad_outcomes.specs.declared.stop.Stop.TheVariants.{Failed, Limit, IllTyped, Memory}
use Rattle.cad_rows.specs.Places.{bare_in}
use Rattle.cad_rows.specs.Views.{pure_tree}
use Rattle.cad_rows.specs.declared.tree.Tree as trees
use Rattle.cad_state.proofs.Finding.{find_same}
use Rattle.cad_state.specs.Views.{state_over, IsReady, FindsAndCarriesOut}
use Rattle.cad_state.specs.Ways.{is_there}
use Rattle.cad_state.specs.declared.state.RunState.{RunState}
use Rattle.cad_world.specs.Labels.{at, with_node}
use Rattle.cad_world.specs.Locations.{with_found, in_node}
use Rattle.cad_world.specs.Marks.{AreGivenOnce}
use Rattle.cad_world.specs.Rows.{Found, Tree, slot, clear}
use Rattle.cad_world.specs.State.{Account, State, Action, Outcome, ok, failed, limit, ill, done, or_fail}

abbrev is_ok : {A : Type 0} → Outcome A → Bool
is_ok (ok a s) = true
is_ok _ = false

abbrev state_of : {A : Type 0} → State → Outcome A → State
state_of s (ok a u) = u
state_of s _ = s

abbrev valueless : {A : Type 0} → Outcome A → Outcome (Unit {0})
valueless (ok a s) = ok tt s
valueless (failed n) = failed n
valueless limit = limit
valueless ill = ill

-- ---- whether it is there

found_there : (o : Option Found) (s : State) → is_there o ≡ true → or_fail 113 o (λ f. done) s ≡ ok tt s
found_there None s h = absurd (true≢false (sym h))
found_there (Some f) s h = refl

pub finds : (p : ℕ) (x y : RunState) → ((w : List Account) → state_over w y ≡ state_over w x) → ((w : List Account) → IsReady w x → is_there (at p (state_over w x)) ≡ true)
    → FindsAndCarriesOut no_value (with_found p (λ f. done)) x y (Ok tt)
finds p x y same there w ready = found_there (at p (state_over w x)) (state_over w x) (there w ready) ∙ ap (ok tt) (sym (same w))

found_same : (o : Option Found) (s u : State) → or_fail 113 o (λ f. done) s ≡ ok tt u → s ≡ u
found_same None s u h = absurd (true≢false (ap is_ok (sym h)))
found_same (Some f) s u h = ap (state_of s) h

-- ---- the change

pub changes_found : (p : ℕ) (x : Edit) (a : Option Tree) (before between after : RunState) → FindsAndCarriesOut no_value (with_found p (λ f. done)) before between (Ok tt)
    → ((w : List Account) → IsReady w between → changing p x (state_over w between) ≡ ok a (state_over w after))
    → (w : List Account) → IsReady w before → changing p x (state_over w before) ≡ ok a (state_over w after)
changes_found p x a before between after first second w ready =
    let same : state_over w before ≡ state_over w between = found_same (at p (state_over w before)) (state_over w before) (state_over w between) (first w ready) in
    ap (changing p x) same ∙ second w (record { unnamed = ready.unnamed; once = subst AreGivenOnce same ready.once })

abbrev again : {A B : Type 0} → Outcome A → Outcome B
again (ok a s) = ill
again (failed n) = failed n
again limit = limit
again ill = ill

abbrev is_failed : {A : Type 0} → Outcome A → Bool
is_failed (failed n) = true
is_failed _ = false

stops_anyhow : {A : Type 0} (o : Option Found) (f : Found → Action A) (s : State) (stop : Stop) → Stops (or_fail 113 o (λ x. done) s) stop → Stops (or_fail 113 o f s) stop
stops_anyhow None f s (Failed error) h = ap again h
stops_anyhow None f s Limit h = absurd (true≢false (ap is_failed h))
stops_anyhow None f s IllTyped h = absurd (true≢false (ap is_failed h))
stops_anyhow None f s Memory h = tt
stops_anyhow (Some x) f s (Failed error) h = absurd (true≢false (ap is_ok h))
stops_anyhow (Some x) f s Limit h = absurd (true≢false (ap is_ok h))
stops_anyhow (Some x) f s IllTyped h = absurd (true≢false (ap is_ok h))
stops_anyhow (Some x) f s Memory h = tt

pub stops_found : (p : ℕ) (x : Edit) (before after : RunState) (stop : Stop) → FindsAndCarriesOut {B = Unit {0}} no_value (with_found p (λ f. done)) before after (Err stop)
    → (w : List Account) → IsReady w before → Stops (changing p x (state_over w before)) stop
stops_found p x before after stop h w ready =
    stops_anyhow (at p (state_over w before)) (λ f s. ok (left_by x f.tree.parts) (with_node p (edited_shape x f.tree.shape) (edited_parts x f.tree.parts) s)) (state_over w before) stop (h w ready)

-- ---- without a value

stops_valueless : {A : Type 0} (r : Outcome A) (stop : Stop) → Stops r stop → Stops (valueless r) stop
stops_valueless r (Failed error) h = ap valueless h
stops_valueless r Limit h = ap valueless h
stops_valueless r IllTyped h = ap valueless h
stops_valueless r Memory h = tt

dropped : (p : ℕ) (x : Edit) (o : Option Found) (s : State)
    → or_fail 113 o (λ f u. ok tt (with_node p (edited_shape x f.tree.shape) (edited_parts x f.tree.parts) u)) s
    ≡ valueless (or_fail 113 o (λ f u. ok (left_by x f.tree.parts) (with_node p (edited_shape x f.tree.shape) (edited_parts x f.tree.parts) u)) s)
dropped p x None s = refl
dropped p x (Some f) s = refl

pub drops : (p : ℕ) (x : Edit) (before after : RunState) (r : Result (Option trees.Tree) Stop) (q : Result (Unit {0}) Stop) → q ≡ without_value r
    → FindsAndCarriesOut (λ o. option_map pure_tree o) (changing p x) before after r
    → FindsAndCarriesOut no_value (with_found p (λ f s. ok tt (with_node p (edited_shape x f.tree.shape) (edited_parts x f.tree.parts) s))) before after q
drops p x before after r q e h w ready =
    subst (λ (a : Result (Unit {0}) Stop). Does no_value (with_found p (λ f s. ok tt (with_node p (edited_shape x f.tree.shape) (edited_parts x f.tree.parts) s))) (state_over w before) (state_over w after) a)
    (sym e) (go r (h w ready))
  where
    go : (a : Result (Option trees.Tree) Stop) → Does (λ o. option_map pure_tree o) (changing p x) (state_over w before) (state_over w after) a
        → Does no_value (with_found p (λ f s. ok tt (with_node p (edited_shape x f.tree.shape) (edited_parts x f.tree.parts) s))) (state_over w before) (state_over w after) (without_value a)
    go (Ok o) d = dropped p x (at p (state_over w before)) (state_over w before) ∙ ap valueless d
    go (Err stop) d =
        stops_same (with_found p (λ f s. ok tt (with_node p (edited_shape x f.tree.shape) (edited_parts x f.tree.parts) s)) (state_over w before)) (valueless (changing p x (state_over w before))) stop
        (dropped p x (at p (state_over w before)) (state_over w before)) (stops_valueless (changing p x (state_over w before)) stop d)

-- ---- in other words

clear_same : (p i : ℕ) (s : State) → with_found p (λ f u. ok (bare_in (slot i f.tree.parts)) (in_node clear p i (at p u) u)) s ≡ changing p (e.Clear i) s
clear_same p i s = go (at p s) refl
  where
    go : (o : Option Found) → at p s ≡ o → or_fail 113 o (λ f u. ok (bare_in (slot i f.tree.parts)) (in_node clear p i (at p u) u)) s
        ≡ or_fail 113 o (λ f u. ok (left_by (e.Clear i) f.tree.parts) (with_node p (edited_shape (e.Clear i) f.tree.shape) (edited_parts (e.Clear i) f.tree.parts) u)) s
    go None q = refl
    go (Some f) q = ap (λ o. ok (bare_in (slot i f.tree.parts)) (in_node clear p i o s)) q

pub clears : (p i : ℕ) (before after : RunState) (r : Result (Option trees.Tree) Stop) → FindsAndCarriesOut (λ o. option_map pure_tree o) (changing p (e.Clear i)) before after r
    → FindsAndCarriesOut (λ o. option_map pure_tree o) (with_found p (λ f s. ok (bare_in (slot i f.tree.parts)) (in_node clear p i (at p s) s))) before after r
clears p i before after r h = find_same (λ o. option_map pure_tree o) (with_found p (λ f s. ok (bare_in (slot i f.tree.parts)) (in_node clear p i (at p s) s))) (changing p (e.Clear i)) before after r (λ w ready. clear_same p i (state_over w before)) h
