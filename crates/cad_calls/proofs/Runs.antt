-- Functions that run, by their parts.
use Rattle.std.proofs.Common.{◌≡◌, ◌∙◌, refl, sym, subst}
use Rattle.std.specs.Global.{Box}
use Rattle.std.specs.Prelude.{ℕ, Bool, true, List, Option, Some, None, Result, Ok}
use Rattle.cad_syntax.specs.Types.{PureType}
use Rattle.cad_syntax.specs.declared.type_id.TypeId.{TypeId}
use Rattle.cad_declarations.specs.Typed as e
use Rattle.cad_calls.specs.Code.Parts as parts
use Rattle.cad_calls.proofs.Keeping as keeping
use Rattle.cad_calls.proofs.Laws.{body_as}
use Rattle.cad_calls.proofs.Steps.{Fails, FailsAnyhow, both, both_any, both_given, stops, any_then, any_stops}
use Rattle.cad_evaluation.specs.Bodies as spec
use Rattle.cad_evaluation.specs.Callees.{Calls, Front}
use Rattle.cad_evaluation.specs.Containers.{void_tree}
use Rattle.cad_evaluation.specs.Evaluation as evaluation
use Rattle.cad_evaluation.specs.Statements.{exec_block}
use Rattle.cad_execution.specs.Passed.{Flow, Next, flow_of, tree_in}
use Rattle.cad_function_sources.specs.Sources.{as_run}
use Rattle.cad_labels.specs.Laws.{HasNoneInRow, AnyOne, CalleesKeep}
use Rattle.cad_labels.proofs.Frames.{enter_keeps}
use Rattle.cad_label_runs.proofs.Bodies.{moved_to_keeps, preconditions_keeps}
use Rattle.cad_outcomes.specs.Outcomes.{Gives, no_value}
use Rattle.cad_outcomes.specs.declared.stop.Stop.{Stop}
use Rattle.cad_rows.specs.declared.tree.Tree.{Tree}
use Rattle.cad_state.specs.Views.{CarriesOut, FindsAndCarriesOut}
use Rattle.cad_state.specs.declared.state.RunState.{RunState}
use Rattle.cad_world.specs.Rows as rows
use Rattle.cad_world.specs.State.{◌>>◌, give, guard, with_some}

-- ---- bodies

pub flow_ok : (front : Front) (calls : Calls) (n : ℕ) (within : Option TypeId) (b : Bool) (f : e.FunctionBody) (x y z : RunState) (r : Result Flow Stop)
    → CarriesOut no_value (spec.moved_to within) x y (Ok tt) → FindsAndCarriesOut flow_of (with_some f.body (exec_block front calls n)) y z r
    → FindsAndCarriesOut flow_of (parts.body_flow front calls n within (as_run b f)) x z r
flow_ok front calls n within b f x y z r first second =
    both AnyOne (spec.moved_to within) (λ _. with_some (as_run b f).body (exec_block front calls n)) no_value flow_of tt x y z r (moved_to_keeps within) (λ w ready. first w)
    (subst (λ o. FindsAndCarriesOut flow_of (with_some o (exec_block front calls n)) y z r) (sym (body_as b f)) second)

pub flow_err : (front : Front) (calls : Calls) (n : ℕ) (within : Option TypeId) (f : e.FunctionBody) (x : RunState) (stop : Stop)
    → FailsAnyhow (spec.moved_to within) x stop → Fails (parts.body_flow front calls n within f) x stop
flow_err front calls n within f x stop h = stops (spec.moved_to within) (λ _. with_some f.body (exec_block front calls n)) x stop (λ w ready. h w)

pub body_ok : (front : Front) (calls : Calls) (n : ℕ) (p : spec.Piece) (b : Flow) (x y : RunState) (r : Result (Box Tree) Stop)
    → FindsAndCarriesOut flow_of (parts.body_flow front calls n p.within p.function) x y (Ok b) → Gives tree_in (spec.value_of_flow p.function.result (flow_of b)) r
    → FindsAndCarriesOut tree_in (spec.body_run front calls n p) x y r
body_ok front calls n p b x y r first second = both_given (parts.body_flow front calls n p.within p.function) (spec.value_of_flow p.function.result) flow_of tree_in b x y r first second

pub body_err : (front : Front) (calls : Calls) (n : ℕ) (p : spec.Piece) (x : RunState) (stop : Stop)
    → Fails (parts.body_flow front calls n p.within p.function) x stop → Fails (spec.body_run front calls n p) x stop
body_err front calls n p x stop h = stops (parts.body_flow front calls n p.within p.function) (spec.value_of_flow p.function.result) x stop h

-- Void, where the function gives it
pub void_given : (type : PureType) (void : Bool) (flow : Flow) (r : Result (Box Tree) Stop) → flow ≡ Next → void ≡ true → void ≡ spec.is_void type → Gives tree_in (give void_tree) r
    → Gives tree_in (spec.value_of_flow type (flow_of flow)) r
void_given type void flow r ends is of h =
    subst (λ (f : Flow). Gives tree_in (spec.value_of_flow type (flow_of f)) r) (sym ends) (subst (λ (k : Bool). Gives tree_in (guard k (give void_tree)) r) (sym is ∙ of) h)

pub exec_some : (front : Front) (calls : Calls) (n : ℕ) (o : Option e.BlockTree) (b : e.BlockTree) (x z : RunState) (r : Result Flow Stop) → o ≡ Some b
    → FindsAndCarriesOut flow_of (exec_block front calls n b) x z r → FindsAndCarriesOut flow_of (with_some o (exec_block front calls n)) x z r
exec_some front calls n o b x z r is h = subst (λ (k : Option e.BlockTree). FindsAndCarriesOut flow_of (with_some k (exec_block front calls n)) x z r) (sym is) h

pub run_some : (front : Front) (calls : Calls) (n : ℕ) (o : Option spec.Piece) (p : spec.Piece) (x z : RunState) (r : Result (Box Tree) Stop) → o ≡ Some p
    → FindsAndCarriesOut tree_in (spec.body_run front calls n p) x z r → FindsAndCarriesOut tree_in (with_some o (spec.body_run front calls n)) x z r
run_some front calls n o p x z r is h = subst (λ (k : Option spec.Piece). FindsAndCarriesOut tree_in (with_some k (spec.body_run front calls n)) x z r) (sym is) h

-- ---- with conditions

pub prepared_ok : (front : Front) (calls : Calls) (own : Option spec.Piece) (others : List spec.Piece) (x y z : RunState) (r : Result (Unit {0}) Stop) → CalleesKeep calls
    → FindsAndCarriesOut no_value (spec.preconditions front calls (spec.inward own others)) x y (Ok tt) → FindsAndCarriesOut no_value (spec.all_before front calls (spec.outward own others)) y z r
    → FindsAndCarriesOut no_value (parts.prepared front calls own others) x z r
prepared_ok front calls own others x y z r keep first second =
    both AnyOne (spec.preconditions front calls (spec.inward own others)) (λ _. spec.all_before front calls (spec.outward own others)) no_value no_value tt x y z r
    (preconditions_keeps front calls (spec.inward own others) keep) first second

pub prepared_err : (front : Front) (calls : Calls) (own : Option spec.Piece) (others : List spec.Piece) (x : RunState) (stop : Stop)
    → Fails (spec.preconditions front calls (spec.inward own others)) x stop → Fails (parts.prepared front calls own others) x stop
prepared_err front calls own others x stop h = stops (spec.preconditions front calls (spec.inward own others)) (λ _. spec.all_before front calls (spec.outward own others)) x stop h

pub given_ok : (front : Front) (calls : Calls) (n : ℕ) (own : Option spec.Piece) (others : List spec.Piece) (x y z : RunState) (r : Result (Box Tree) Stop) → CalleesKeep calls
    → FindsAndCarriesOut no_value (parts.prepared front calls own others) x y (Ok tt)
    → FindsAndCarriesOut tree_in (with_some (spec.running own others) (spec.body_run front calls n)) y z r
    → FindsAndCarriesOut tree_in (parts.given front calls n own others) x z r
given_ok front calls n own others x y z r keep first second =
    both AnyOne (parts.prepared front calls own others) (λ _. with_some (spec.running own others) (spec.body_run front calls n)) no_value tree_in tt x y z r
    (keeping.prepared_keeps front calls own others keep) first second

pub given_err : (front : Front) (calls : Calls) (n : ℕ) (own : Option spec.Piece) (others : List spec.Piece) (x : RunState) (stop : Stop)
    → Fails (parts.prepared front calls own others) x stop → Fails (parts.given front calls n own others) x stop
given_err front calls n own others x stop h = stops (parts.prepared front calls own others) (λ _. with_some (spec.running own others) (spec.body_run front calls n)) x stop h

pub aside_ok : (front : Front) (calls : Calls) (n : ℕ) (own : Option spec.Piece) (others : List spec.Piece) (b : Box Tree) (x y z : RunState) (r : Result (Unit {0}) Stop)
    → FindsAndCarriesOut tree_in (parts.given front calls n own others) x y (Ok b) → CarriesOut no_value (spec.result_aside (tree_in b)) y z r
    → FindsAndCarriesOut no_value (parts.set_aside front calls n own others) x z r
aside_ok front calls n own others b x y z r first second = both_any (parts.given front calls n own others) spec.result_aside tree_in no_value b x y z r first second

pub aside_err : (front : Front) (calls : Calls) (n : ℕ) (own : Option spec.Piece) (others : List spec.Piece) (x : RunState) (stop : Stop)
    → Fails (parts.given front calls n own others) x stop → Fails (parts.set_aside front calls n own others) x stop
aside_err front calls n own others x stop h = stops (parts.given front calls n own others) spec.result_aside x stop h

pub finished_ok : (front : Front) (calls : Calls) (n : ℕ) (own : Option spec.Piece) (others : List spec.Piece) (x y z : RunState) (r : Result (Unit {0}) Stop) → CalleesKeep calls
    → FindsAndCarriesOut no_value (parts.set_aside front calls n own others) x y (Ok tt)
    → FindsAndCarriesOut no_value (spec.postconditions front calls (spec.outward own others)) y z r
    → FindsAndCarriesOut no_value (parts.finished front calls n own others) x z r
finished_ok front calls n own others x y z r keep first second =
    both AnyOne (parts.set_aside front calls n own others) (λ _. spec.postconditions front calls (spec.outward own others)) no_value no_value tt x y z r
    (keeping.set_aside_keeps front calls n own others keep) first second

pub finished_err : (front : Front) (calls : Calls) (n : ℕ) (own : Option spec.Piece) (others : List spec.Piece) (x : RunState) (stop : Stop)
    → Fails (parts.set_aside front calls n own others) x stop → Fails (parts.finished front calls n own others) x stop
finished_err front calls n own others x stop h = stops (parts.set_aside front calls n own others) (λ _. spec.postconditions front calls (spec.outward own others)) x stop h

pub conditioned_ok : (front : Front) (calls : Calls) (n : ℕ) (own : Option spec.Piece) (others : List spec.Piece) (x y z : RunState) (r : Result (Box Tree) Stop)
    → FindsAndCarriesOut no_value (parts.finished front calls n own others) x y (Ok tt) → CarriesOut tree_in spec.result_taken y z r
    → FindsAndCarriesOut tree_in (spec.conditioned front calls n own others) x z r
conditioned_ok front calls n own others x y z r first second = both_any (parts.finished front calls n own others) (λ _. spec.result_taken) no_value tree_in tt x y z r first second

pub conditioned_err : (front : Front) (calls : Calls) (n : ℕ) (own : Option spec.Piece) (others : List spec.Piece) (x : RunState) (stop : Stop)
    → Fails (parts.finished front calls n own others) x stop → Fails (spec.conditioned front calls n own others) x stop
conditioned_err front calls n own others x stop h = stops (parts.finished front calls n own others) (λ _. spec.result_taken) x stop h

-- ---- calls

pub leave_ok : (t : rows.Tree) (b : Box Tree) (x y : RunState) → tree_in b ≡ t → CarriesOut no_value spec.left x y (Ok tt) → CarriesOut tree_in (spec.left >> give t) x y (Ok b)
leave_ok t b x y is first =
    subst (λ (k : rows.Tree). CarriesOut tree_in (spec.left >> give k) x y (Ok b)) is
    (any_then spec.left (λ _. give (tree_in b)) no_value tree_in tt x y y (Ok b) first (λ w. refl))

pub leave_err : (t : rows.Tree) (x : RunState) (stop : Stop) → FailsAnyhow spec.left x stop → FailsAnyhow (spec.left >> give t) x stop
leave_err t x stop h = any_stops spec.left (λ _. give t) x stop h

pub begun_ok : (front : Front) (calls : Calls) (n : ℕ) (self : Option ℕ) (initializes : Bool) (own : Option spec.Piece) (others : List spec.Piece) (row : rows.Row) (x y z : RunState) (r : Result (Box Tree) Stop)
    → HasNoneInRow row → CarriesOut no_value (spec.entered None self initializes row) x y (Ok tt) → FindsAndCarriesOut tree_in (spec.conditioned front calls n own others) y z r
    → FindsAndCarriesOut tree_in (parts.begun front calls n self initializes own others row) x z r
begun_ok front calls n self initializes own others row x y z r none first second =
    both AnyOne (spec.entered None self initializes row) (λ _. spec.conditioned front calls n own others) no_value tree_in tt x y z r
    (enter_keeps None self initializes row none) (λ w ready. first w) second

pub begun_err : (front : Front) (calls : Calls) (n : ℕ) (self : Option ℕ) (initializes : Bool) (own : Option spec.Piece) (others : List spec.Piece) (row : rows.Row) (x : RunState) (stop : Stop)
    → FailsAnyhow (spec.entered None self initializes row) x stop → Fails (parts.begun front calls n self initializes own others row) x stop
begun_err front calls n self initializes own others row x stop h = stops (spec.entered None self initializes row) (λ _. spec.conditioned front calls n own others) x stop (λ w ready. h w)

pub run_ok : (front : Front) (calls : Calls) (n : ℕ) (self : Option ℕ) (initializes : Bool) (own : Option spec.Piece) (others : List spec.Piece) (row : rows.Row) (b : Box Tree) (x y z : RunState) (r : Result (Box Tree) Stop)
    → FindsAndCarriesOut tree_in (parts.begun front calls n self initializes own others row) x y (Ok b) → CarriesOut tree_in (spec.left >> give (tree_in b)) y z r
    → FindsAndCarriesOut tree_in (evaluation.run front calls n self initializes own others row) x z r
run_ok front calls n self initializes own others row b x y z r first second =
    both_any (parts.begun front calls n self initializes own others row) (λ t. spec.left >> give t) tree_in tree_in b x y z r first second

pub run_err : (front : Front) (calls : Calls) (n : ℕ) (self : Option ℕ) (initializes : Bool) (own : Option spec.Piece) (others : List spec.Piece) (row : rows.Row) (x : RunState) (stop : Stop)
    → Fails (parts.begun front calls n self initializes own others row) x stop → Fails (evaluation.run front calls n self initializes own others row) x stop
run_err front calls n self initializes own others row x stop h = stops (parts.begun front calls n self initializes own others row) (λ t. spec.left >> give t) x stop h
