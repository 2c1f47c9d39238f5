-- The event that tells of the end of a resource, by its parts.
use Rattle.std.proofs.Common.{◌≡◌, refl, sym, ap, subst}
use Rattle.std.specs.Prelude.{ℕ, List, [], ◌∷◌, Option, Some, None, Result, Ok, MatchOption}
use Rattle.cad_syntax.specs.declared.type_id.TypeId.{TypeId}
use Rattle.cad_declarations.specs.Typed as e
use Rattle.cad_access.specs.RunContracts.{run_of}
use Rattle.cad_calls.specs.Code.Parts as parts
use Rattle.cad_calls.specs.Pieces.{event_in}
use Rattle.cad_calls.proofs.Steps.{Fails, FailsAnyhow, both, both_any, stops, any_then, any_stops}
use Rattle.cad_evaluation.specs.Callees.{Calls, Front}
use Rattle.cad_evaluation.specs.Ending.{event_of}
use Rattle.cad_evaluation.specs.Evaluation.{defaults, destroyed_body, destroying_nothing, event_made, looked, looking}
use Rattle.cad_evaluation.specs.Terms.{eval, eval_arguments}
use Rattle.cad_evaluation.specs.Uses.{before}
use Rattle.cad_execution.specs.Passed.{items_row, tree_in}
use Rattle.cad_function_sources.specs.Sources.{bodies_in}
use Rattle.cad_function_sources.specs.declared.sources.Source.{Source}
use Rattle.cad_labels.specs.Laws.{AnyOne}
use Rattle.cad_label_runs.proofs.Evaluation.{looking_keeps}
use Rattle.cad_outcomes.specs.Outcomes.{no_value}
use Rattle.cad_outcomes.specs.declared.stop.Stop.{Stop}
use Rattle.cad_outcomes.specs.declared.stop.Stop.TheVariants.{IllTyped}
use Rattle.cad_rows.specs.declared.tree.Place.{Place}
use Rattle.cad_rows.specs.declared.tree.Tree.{Tree}
use Rattle.cad_state.proofs.Finding.{find_same}
use Rattle.cad_state.specs.Views.{CarriesOut, FindsAndCarriesOut}
use Rattle.cad_state.specs.declared.state.RunState.{RunState}
use Rattle.cad_world.specs.Declared.{bodies_of}
use Rattle.cad_world.specs.Rows as rows
use Rattle.cad_world.specs.State.{State, Outcome, ok, failed, limit, ill, bind, Action, ◌>>=◌, ◌>>◌, give}
use Rattle.cad_world.specs.Transfers.{transferred}
use Rattle.std.specs.Global.{Box, Vec}

-- ---- default arguments are arguments

bind_same : {A B : Type 0} (o : Outcome A) (f g : A → Action B) → ((a : A) (s : State) → f a s ≡ g a s) → bind o f ≡ bind o g
bind_same (ok a s) f g same = same a s
bind_same (failed n) f g same = refl
bind_same limit f g same = refl
bind_same ill f g same = refl

defaults_are : (front : Front) (calls : Calls) (all : List e.TargetedTerm) (s : State) → defaults front calls all s ≡ eval_arguments front calls (e.arguments_of all) s
defaults_are front calls [] s = refl
defaults_are front calls (x ∷ xs) s =
    bind_same (bind (eval front calls x.value s) (transferred x.target)) (λ t. defaults front calls xs >>= before t) (λ t. eval_arguments front calls (e.arguments_of xs) >>= before t)
    (λ t s'. ap (λ o. bind o (before t)) (defaults_are front calls xs s'))

-- ---- the event

pub row_ok : (front : Front) (calls : Calls) (id : TypeId) (l : ℕ) (d : e.DestroyedBody) (x y z : RunState) (r : Result (Vec Place) Stop)
    → CarriesOut no_value (looking id l) x y (Ok tt) → FindsAndCarriesOut items_row (eval_arguments front calls (e.arguments_of d.arguments)) y z r
    → FindsAndCarriesOut items_row (parts.event_row front calls id l d) x z r
row_ok front calls id l d x y z r first second =
    both AnyOne (looking id l) (λ _. defaults front calls d.arguments) no_value items_row tt x y z r (looking_keeps id l) (λ w ready. first w)
    (find_same items_row (defaults front calls d.arguments) (eval_arguments front calls (e.arguments_of d.arguments)) y z r (λ w ready. defaults_are front calls d.arguments _) second)

pub row_err : (front : Front) (calls : Calls) (id : TypeId) (l : ℕ) (d : e.DestroyedBody) (x : RunState) (stop : Stop)
    → FailsAnyhow (looking id l) x stop → Fails (parts.event_row front calls id l d) x stop
row_err front calls id l d x stop h = stops (looking id l) (λ _. defaults front calls d.arguments) x stop (λ w ready. h w)

pub inside_ok : (front : Front) (calls : Calls) (id : TypeId) (l : ℕ) (d : e.DestroyedBody) (b : Vec Place) (x y z : RunState) (r : Result (Box Tree) Stop)
    → FindsAndCarriesOut items_row (parts.event_row front calls id l d) x y (Ok b) → CarriesOut tree_in (event_of d.event (items_row b)) y z r
    → FindsAndCarriesOut tree_in (parts.event_inside front calls id l d) x z r
inside_ok front calls id l d b x y z r first second = both_any (parts.event_row front calls id l d) (event_of d.event) items_row tree_in b x y z r first second

pub inside_err : (front : Front) (calls : Calls) (id : TypeId) (l : ℕ) (d : e.DestroyedBody) (x : RunState) (stop : Stop)
    → Fails (parts.event_row front calls id l d) x stop → Fails (parts.event_inside front calls id l d) x stop
inside_err front calls id l d x stop h = stops (parts.event_row front calls id l d) (event_of d.event) x stop h

pub out_ok : (t : rows.Tree) (b : Box Tree) (x y : RunState) → tree_in b ≡ t → CarriesOut no_value looked x y (Ok tt) → CarriesOut tree_in (parts.looked_with t) x y (Ok b)
out_ok t b x y is first =
    subst (λ (k : rows.Tree). CarriesOut tree_in (parts.looked_with k) x y (Ok b)) is
    (any_then looked (λ _. give (tree_in b)) no_value tree_in tt x y y (Ok b) first (λ w. refl))

pub out_err : (t : rows.Tree) (x : RunState) (stop : Stop) → FailsAnyhow looked x stop → FailsAnyhow (parts.looked_with t) x stop
out_err t x stop h = any_stops looked (λ _. give t) x stop h

pub made_ok : (front : Front) (calls : Calls) (id : TypeId) (l : ℕ) (d : e.DestroyedBody) (b : Box Tree) (x y z : RunState) (r : Result (Box Tree) Stop)
    → FindsAndCarriesOut tree_in (parts.event_inside front calls id l d) x y (Ok b) → CarriesOut tree_in (parts.looked_with (tree_in b)) y z r
    → FindsAndCarriesOut tree_in (event_made front calls id l d) x z r
made_ok front calls id l d b x y z r first second = both_any (parts.event_inside front calls id l d) (λ t. parts.looked_with t) tree_in tree_in b x y z r first second

pub made_err : (front : Front) (calls : Calls) (id : TypeId) (l : ℕ) (d : e.DestroyedBody) (x : RunState) (stop : Stop)
    → Fails (parts.event_inside front calls id l d) x stop → Fails (event_made front calls id l d) x stop
made_err front calls id l d x stop h = stops (parts.event_inside front calls id l d) (λ t. parts.looked_with t) x stop h

-- ---- where it is declared

pub told_some : (front : Front) (calls : Calls) (id : TypeId) (l : ℕ) (o : Option e.DestroyedBody) (d : e.DestroyedBody) (x z : RunState) (r : Result (Box Tree) Stop) → o ≡ Some d
    → FindsAndCarriesOut tree_in (event_made front calls id l d) x z r → FindsAndCarriesOut tree_in (parts.event_told front calls id l o) x z r
told_some front calls id l o d x z r is h = subst (λ (k : Option e.DestroyedBody). FindsAndCarriesOut tree_in (parts.event_told front calls id l k) x z r) (sym is) h

pub told_none : (front : Front) (calls : Calls) (id : TypeId) (l : ℕ) (o : Option e.DestroyedBody) (x : RunState) → o ≡ None → Fails (parts.event_told front calls id l o) x IllTyped
told_none front calls id l o x is = subst (λ (k : Option e.DestroyedBody). Fails (parts.event_told front calls id l k) x IllTyped) (sym is) (λ w ready. refl)

found_event : (id : TypeId) (o : Option Source) (bodies : Option e.TypeBody)
    → MatchOption o (bodies ≡ None) (λ x. (x.id ≡ id) × (bodies_in x ≡ bodies)) → event_in o ≡ destroyed_body bodies
found_event id None bodies is = ap destroyed_body (sym is)
found_event id (Some x) bodies is = ap destroyed_body is.1

pub end_by : (front : Front) (calls : Calls) (id : TypeId) (l : ℕ) (o : Option Source) (x z : RunState) (r : Result (Box Tree) Stop)
    → MatchOption o (bodies_of (run_of x) id ≡ None) (λ y. (y.id ≡ id) × (bodies_in y ≡ bodies_of (run_of x) id))
    → FindsAndCarriesOut tree_in (parts.event_told front (destroying_nothing calls) id l (event_in o)) x z r → FindsAndCarriesOut tree_in (parts.end_told front calls id l) x z r
end_by front calls id l o x z r found h =
    find_same tree_in (parts.end_told front calls id l) (parts.event_told front (destroying_nothing calls) id l (destroyed_body (bodies_of (run_of x) id))) x z r (λ w ready. refl)
    (subst (λ (k : Option e.DestroyedBody). FindsAndCarriesOut tree_in (parts.event_told front (destroying_nothing calls) id l k) x z r) (found_event id o (bodies_of (run_of x) id) found) h)
