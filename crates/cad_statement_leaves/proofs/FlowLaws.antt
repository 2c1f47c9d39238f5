-- Statements that run others, by their parts.
use Rattle.std.proofs.Common.{◌≡◌, refl, sym, subst, ap, ◌∙◌, drop, get_or, length, ◌<◌, ◌+◌, add-one, drop-cons}
use Rattle.std.specs.Prelude.{ℕ, suc, Bool, true, false, List, [], map, Option, Some, None, Result, Ok, Err}
use Rattle.cad_declarations.specs.Typed as e
use Rattle.cad_declarations.specs.Views.{statement_of}
use Rattle.cad_declarations.specs.declared.statement.TypedStatement.{TypedStatement}
use Rattle.cad_evaluation.specs.Callees.{Calls, Front}
use Rattle.cad_evaluation.specs.Changing.{fill}
use Rattle.cad_evaluation.specs.Flows as spec
use Rattle.cad_evaluation.specs.Flows.{next, returned, broken, continued, then_next, then_turn, closed, with_variable, if_content, if_cast_at, nil_stays, is_case, by_case, is_nil_literal, moved_variable, leave_switch}
use Rattle.cad_evaluation.specs.Numbers.{truth_of}
use Rattle.cad_evaluation.specs.Statements.{exec, exec_block, exec_all}
use Rattle.cad_evaluation.specs.Terms.{eval}
use Rattle.cad_statement_leaves.proofs.Keeping.{holds_keeps}
use Rattle.cad_statement_leaves.proofs.Steps.{Fails, FailsAnyhow, both, both_any, stops, same_outcome, behind}
use Rattle.cad_statement_leaves.specs.Code.Parts as parts
use Rattle.cad_statement_leaves.specs.Code.Results.{statement_end, turn_end}
use Rattle.cad_statement_leaves.specs.Views.{flow_of}
use Rattle.cad_statement_leaves.specs.declared.flow.Flow.{Flow}
use Rattle.cad_statement_leaves.specs.declared.flow.Flow.TheVariants.{Next, Returned, Broken, Continued}
use Rattle.cad_labels.specs.Laws.{AnyOne, HasNone, Keeps, CalleesKeep}
use Rattle.cad_labels.proofs.Forms.{keeps_spend}
use Rattle.cad_labels.proofs.Keeping.{keeps_bind}
use Rattle.cad_labels.proofs.Places.{filling_keeps}
use Rattle.cad_label_runs.proofs.Statements.{exec_keeps, exec_block_keeps}
use Rattle.cad_label_runs.proofs.Values.{FlowHasNone}
use Rattle.cad_outcomes.specs.Outcomes.{Stops, no_value}
use Rattle.cad_outcomes.specs.declared.stop.Stop.{Stop}
use Rattle.cad_outcomes.specs.declared.stop.Stop.TheVariants.{Limit}
use Rattle.cad_state.specs.Views.{state_over, CarriesOut, FindsAndCarriesOut}
use Rattle.cad_state.specs.declared.state.RunState.{RunState}
use Rattle.cad_world.specs.Locations.{variable}
use Rattle.cad_world.specs.Rows.{Tree}
use Rattle.cad_world.specs.State.{State, ok, bind, Action, ◌>>=◌, give, choose, by_truth, with_some, tick}

-- ---- what is there and is not

abbrev IsSome : {A : Type 0} → Option A → Type 0
IsSome None = ⊥
IsSome (Some a) = Unit {0}

pub not_some : {A : Type 0} {B : Type 0} (a : A) → Some a ≡ None → B
not_some {A = A} a is = absurd (subst (λ (o : Option A). IsSome o) is tt)

pub not_none : {A : Type 0} {B : Type 0} (a : A) → None ≡ Some a → B
not_none a is = not_some a (sym is)

-- ---- blocks

pub block_ok : (front : Front) (calls : Calls) (n : ℕ) (t : e.BlockTree) (first : ℕ) (body : e.Statements) (b : Flow) (x y z : RunState) (r : Result Flow Stop) → t ≡ e.block first body
    → FindsAndCarriesOut flow_of (exec_all front calls n body) x y (Ok b) → CarriesOut flow_of (parts.end_with first (flow_of b)) y z r → FindsAndCarriesOut flow_of (exec_block front calls n t) x z r
block_ok front calls n t first body b x y z r is h k = subst (λ u. FindsAndCarriesOut flow_of (exec_block front calls n u) x z r) (sym is)
    (both_any (exec_all front calls n body) (parts.end_with first) flow_of flow_of b x y z r h k)

pub block_err : (front : Front) (calls : Calls) (n : ℕ) (t : e.BlockTree) (first : ℕ) (body : e.Statements) (x : RunState) (stop : Stop) → t ≡ e.block first body
    → Fails (exec_all front calls n body) x stop → Fails (exec_block front calls n t) x stop
block_err front calls n t first body x stop is h = subst (λ u. Fails (exec_block front calls n u) x stop) (sym is) (stops (exec_all front calls n body) (parts.end_with first) x stop h)

pub over_ok : (front : Front) (calls : Calls) (n : ℕ) (v : e.VariableEntry) (t : Tree) (body : e.BlockTree) (x y z : RunState) (r : Result Flow Stop) → HasNone t
    → CarriesOut no_value (fill (variable v.number) t) x y (Ok tt) → FindsAndCarriesOut flow_of (exec_block front calls n body) y z r → FindsAndCarriesOut flow_of (parts.run_over front calls n v t body) x z r
over_ok front calls n v t body x y z r none h k = both AnyOne (fill (variable v.number) t) (λ _. exec_block front calls n body) no_value flow_of tt x y z r (filling_keeps (variable v.number) t none) (λ w ready. h w) k

pub over_err : (front : Front) (calls : Calls) (n : ℕ) (v : e.VariableEntry) (t : Tree) (body : e.BlockTree) (x : RunState) (stop : Stop) → FailsAnyhow (fill (variable v.number) t) x stop → Fails (parts.run_over front calls n v t body) x stop
over_err front calls n v t body x stop h = stops (fill (variable v.number) t) (λ _. exec_block front calls n body) x stop (λ w ready. h w)

pub with_ok : (front : Front) (calls : Calls) (n : ℕ) (v : e.VariableEntry) (t : Tree) (body : e.BlockTree) (b : Flow) (x y z : RunState) (r : Result Flow Stop)
    → FindsAndCarriesOut flow_of (parts.run_over front calls n v t body) x y (Ok b) → CarriesOut flow_of (parts.end_with v.number (flow_of b)) y z r
    → FindsAndCarriesOut flow_of (with_variable v t (exec_block front calls n body)) x z r
with_ok front calls n v t body b x y z r h k = both_any (parts.run_over front calls n v t body) (parts.end_with v.number) flow_of flow_of b x y z r h k

pub with_err : (front : Front) (calls : Calls) (n : ℕ) (v : e.VariableEntry) (t : Tree) (body : e.BlockTree) (x : RunState) (stop : Stop) → Fails (parts.run_over front calls n v t body) x stop
    → Fails (with_variable v t (exec_block front calls n body)) x stop
with_err front calls n v t body x stop h = stops (parts.run_over front calls n v t body) (parts.end_with v.number) x stop h

-- ---- statements one behind the other

statement_then : (front : Front) (calls : Calls) (n : ℕ) (s : e.StatementTree) (more : e.Statements) (ran : Result Flow Stop) (x y z : RunState) (r : Result Flow Stop) → CalleesKeep calls
    → statement_end ran ≡ None → FindsAndCarriesOut flow_of (exec front calls n s) x y ran → FindsAndCarriesOut flow_of (exec_all front calls n more) y z r
    → FindsAndCarriesOut flow_of (exec_all front calls n (e.statements s more)) x z r
statement_then front calls n s more (Ok Next) x y z r keep none h k = both FlowHasNone (exec front calls n s) (λ flow. then_next flow (exec_all front calls n more)) flow_of flow_of Next x y z r (exec_keeps front calls n s keep) h k
statement_then front calls n s more (Ok (Returned t)) x y z r keep none h k = not_some {A = Result Flow Stop} (Ok (Returned t)) none
statement_then front calls n s more (Ok Broken) x y z r keep none h k = not_some {A = Result Flow Stop} (Ok Broken) none
statement_then front calls n s more (Ok Continued) x y z r keep none h k = not_some {A = Result Flow Stop} (Ok Continued) none
statement_then front calls n s more (Err stop) x y z r keep none h k = not_some {A = Result Flow Stop} (Err stop) none

ended_so : (p : Action spec.Flow) (rest : Action spec.Flow) (flow : Flow) (x y : RunState) → ((s : State) → then_next (flow_of flow) rest s ≡ ok (flow_of flow) s)
    → FindsAndCarriesOut flow_of p x y (Ok flow) → FindsAndCarriesOut flow_of (p >>= (λ f. then_next f rest)) x y (Ok flow)
ended_so p rest flow x y stays h w ready = ap (λ o. bind o (λ f. then_next f rest)) (h w ready) ∙ stays (state_over w y)

some_is : (p : Action spec.Flow) (a b : Result Flow Stop) (x y : RunState) → Some a ≡ Some b → FindsAndCarriesOut flow_of p x y a → FindsAndCarriesOut flow_of p x y b
some_is p a b x y is h = subst (λ (o : Option (Result Flow Stop)). FindsAndCarriesOut flow_of p x y (some_or a o)) is h
  where
    some_or : Result Flow Stop → Option (Result Flow Stop) → Result Flow Stop
    some_or d None = d
    some_or d (Some v) = v

statement_ends : (front : Front) (calls : Calls) (n : ℕ) (s : e.StatementTree) (more : e.Statements) (ran r : Result Flow Stop) (x y : RunState)
    → statement_end ran ≡ Some r → FindsAndCarriesOut flow_of (exec front calls n s) x y ran → FindsAndCarriesOut flow_of (exec_all front calls n (e.statements s more)) x y r
statement_ends front calls n s more (Ok Next) r x y is h = not_none r is
statement_ends front calls n s more (Ok (Returned t)) r x y is h = some_is (exec_all front calls n (e.statements s more)) (Ok (Returned t)) r x y is (ended_so (exec front calls n s) (exec_all front calls n more) (Returned t) x y (λ u. refl) h)
statement_ends front calls n s more (Ok Broken) r x y is h = some_is (exec_all front calls n (e.statements s more)) (Ok Broken) r x y is (ended_so (exec front calls n s) (exec_all front calls n more) Broken x y (λ u. refl) h)
statement_ends front calls n s more (Ok Continued) r x y is h = some_is (exec_all front calls n (e.statements s more)) (Ok Continued) r x y is (ended_so (exec front calls n s) (exec_all front calls n more) Continued x y (λ u. refl) h)
statement_ends front calls n s more (Err stop) r x y is h = some_is (exec_all front calls n (e.statements s more)) (Err stop) r x y is (stops (exec front calls n s) (λ flow. then_next flow (exec_all front calls n more)) x stop h)

statements_at : (es : List TypedStatement) (i : ℕ) (s : TypedStatement) → i < length es → s ≡ get_or es i s
    → e.statements_of (map statement_of (drop i es)) ≡ e.statements (statement_of s) (e.statements_of (map statement_of (drop (i + 1) es)))
statements_at es i s h is = rw (add-one, drop-cons es i s) (ap (λ k. e.statements (statement_of k) (e.statements_of (map statement_of (drop (suc i) es)))) (sym is))

pub all_goes : (front : Front) (calls : Calls) (n : ℕ) (es : List TypedStatement) (i : ℕ) (s : TypedStatement) (ran : Result Flow Stop) (x y z : RunState) (r : Result Flow Stop) → CalleesKeep calls
    → i < length es → s ≡ get_or es i s → statement_end ran ≡ None → FindsAndCarriesOut flow_of (exec front calls n (statement_of s)) x y ran
    → FindsAndCarriesOut flow_of (exec_all front calls n (e.statements_of (map statement_of (drop (i + 1) es)))) y z r
    → FindsAndCarriesOut flow_of (exec_all front calls n (e.statements_of (map statement_of (drop i es)))) x z r
all_goes front calls n es i s ran x y z r keep low is none h k = subst (λ all. FindsAndCarriesOut flow_of (exec_all front calls n all) x z r) (sym (statements_at es i s low is))
    (statement_then front calls n (statement_of s) (e.statements_of (map statement_of (drop (i + 1) es))) ran x y z r keep none h k)

pub all_ends : (front : Front) (calls : Calls) (n : ℕ) (es : List TypedStatement) (i : ℕ) (s : TypedStatement) (ran r : Result Flow Stop) (x y : RunState)
    → i < length es → s ≡ get_or es i s → statement_end ran ≡ Some r → FindsAndCarriesOut flow_of (exec front calls n (statement_of s)) x y ran
    → FindsAndCarriesOut flow_of (exec_all front calls n (e.statements_of (map statement_of (drop i es)))) x y r
all_ends front calls n es i s ran r x y low is some h = subst (λ all. FindsAndCarriesOut flow_of (exec_all front calls n all) x y r) (sym (statements_at es i s low is))
    (statement_ends front calls n (statement_of s) (e.statements_of (map statement_of (drop (i + 1) es))) ran r x y some h)

pub all_done : (front : Front) (calls : Calls) (n : ℕ) (es : List TypedStatement) (i : ℕ) (x : RunState) → drop i es ≡ [] → FindsAndCarriesOut flow_of (exec_all front calls n (e.statements_of (map statement_of (drop i es)))) x x (Ok Next)
all_done front calls n es i x none = subst (λ all. FindsAndCarriesOut flow_of (exec_all front calls n (e.statements_of (map statement_of all))) x x (Ok Next)) (sym none) (λ w ready. refl)

-- ---- `while`

pub turn_ok : (front : Front) (calls : Calls) (n : ℕ) (body : e.BlockTree) (x y z : RunState) (r : Result Flow Stop) → CarriesOut no_value tick x y (Ok tt) → FindsAndCarriesOut flow_of (exec_block front calls n body) y z r
    → FindsAndCarriesOut flow_of (parts.run_turn front calls n body) x z r
turn_ok front calls n body x y z r h k = both AnyOne tick (λ _. exec_block front calls n body) no_value flow_of tt x y z r (keeps_spend 1) (λ w ready. h w) k

pub turn_err : (front : Front) (calls : Calls) (n : ℕ) (body : e.BlockTree) (x : RunState) (stop : Stop) → FailsAnyhow tick x stop → Fails (parts.run_turn front calls n body) x stop
turn_err front calls n body x stop h = stops tick (λ _. exec_block front calls n body) x stop (λ w ready. h w)

-- by a truth, as a call tells it
by_truth_is : {A : Type 0} (o : Option Bool) (p q : Action A) (s : State) → by_truth o p q s ≡ (with_some o give >>= (λ is. choose is p q)) s
by_truth_is None p q s = refl
by_truth_is (Some true) p q s = refl
by_truth_is (Some false) p q s = refl

chosen_block : {A B : Type 0} (is : Bool) (p q : Action A) (b : Bool) (view : B → A) (x z : RunState) (r : Result B Stop) → is ≡ b → FindsAndCarriesOut view (choose b p q) x z r → FindsAndCarriesOut view (choose is p q) x z r
chosen_block is p q b view x z r e h = subst (λ k. FindsAndCarriesOut view (choose k p q) x z r) (sym e) h

-- a test, and one of two
pub tested : {A B : Type 0} (p : Action Tree) (u v : Action A) (out : B → A) (is b : Bool) (x y z : RunState) (r : Result B Stop) → Keeps AnyOne (p >>= parts.truth) → FindsAndCarriesOut (λ k. k) (p >>= parts.truth) x y (Ok is) → is ≡ b
    → FindsAndCarriesOut out (choose b u v) y z r → FindsAndCarriesOut out (p >>= (λ t. by_truth (truth_of t) u v)) x z r
tested p u v out is b x y z r keeps h e k = behind p parts.truth (λ it. choose it u v) (λ t. by_truth (truth_of t) u v) out x z r (λ t s. by_truth_is (truth_of t) u v s)
    (both AnyOne (p >>= parts.truth) (λ it. choose it u v) (λ k. k) out is x y z r keeps h (chosen_block is u v b out y z r e k))

pub untested : {A : Type 0} (p : Action Tree) (u v : Action A) (x : RunState) (stop : Stop) → Fails (p >>= parts.truth) x stop → Fails (p >>= (λ t. by_truth (truth_of t) u v)) x stop
untested p u v x stop h w ready = subst (λ o. Stops o stop) (sym (same_outcome (p (state_over w x)) parts.truth (λ it. choose it u v) (λ t. by_truth (truth_of t) u v) (λ t s. by_truth_is (truth_of t) u v s)))
    (stops (p >>= parts.truth) (λ it. choose it u v) x stop h w ready)

pub turn_then : (p rest : Action spec.Flow) (ran : Result Flow Stop) (x y z : RunState) (r : Result Flow Stop) → Keeps FlowHasNone p
    → turn_end ran ≡ None → FindsAndCarriesOut flow_of p x y ran → FindsAndCarriesOut flow_of rest y z r → FindsAndCarriesOut flow_of (p >>= (λ flow. then_turn flow rest)) x z r
turn_then p rest (Ok Next) x y z r keeps none h k = both FlowHasNone p (λ flow. then_turn flow rest) flow_of flow_of Next x y z r keeps h k
turn_then p rest (Ok (Returned t)) x y z r keeps none h k = not_some {A = Result Flow Stop} (Ok (Returned t)) none
turn_then p rest (Ok Broken) x y z r keeps none h k = not_some {A = Result Flow Stop} (Ok Next) none
turn_then p rest (Ok Continued) x y z r keeps none h k = both FlowHasNone p (λ flow. then_turn flow rest) flow_of flow_of Continued x y z r keeps h k
turn_then p rest (Err stop) x y z r keeps none h k = not_some {A = Result Flow Stop} (Err stop) none

turned_so : (p rest : Action spec.Flow) (flow end : Flow) (x y : RunState) → ((s : State) → then_turn (flow_of flow) rest s ≡ ok (flow_of end) s)
    → FindsAndCarriesOut flow_of p x y (Ok flow) → FindsAndCarriesOut flow_of (p >>= (λ f. then_turn f rest)) x y (Ok end)
turned_so p rest flow end x y stays h w ready = ap (λ o. bind o (λ f. then_turn f rest)) (h w ready) ∙ stays (state_over w y)

pub turn_ends : (p rest : Action spec.Flow) (ran r : Result Flow Stop) (x y : RunState)
    → turn_end ran ≡ Some r → FindsAndCarriesOut flow_of p x y ran → FindsAndCarriesOut flow_of (p >>= (λ flow. then_turn flow rest)) x y r
turn_ends p rest (Ok Next) r x y is h = not_none r is
turn_ends p rest (Ok (Returned t)) r x y is h = some_is (p >>= (λ flow. then_turn flow rest)) (Ok (Returned t)) r x y is (turned_so p rest (Returned t) (Returned t) x y (λ u. refl) h)
turn_ends p rest (Ok Broken) r x y is h = some_is (p >>= (λ flow. then_turn flow rest)) (Ok Next) r x y is (turned_so p rest Broken Next x y (λ u. refl) h)
turn_ends p rest (Ok Continued) r x y is h = not_none r is
turn_ends p rest (Err stop) r x y is h = some_is (p >>= (λ flow. then_turn flow rest)) (Err stop) r x y is (stops p (λ flow. then_turn flow rest) x stop h)

run_turn_keeps : (front : Front) (calls : Calls) (n : ℕ) (body : e.BlockTree) → CalleesKeep calls → Keeps FlowHasNone (parts.run_turn front calls n body)
run_turn_keeps front calls n body keep = keeps_bind AnyOne FlowHasNone tick (λ _. exec_block front calls n body) (keeps_spend 1) (λ u h. exec_block_keeps front calls n body keep)

abbrev pub turns_left : Front → Calls → ℕ → e.TermTree → e.BlockTree → ℕ → Action spec.Flow
turns_left front calls n a body m = spec.turns m (eval front calls a) (exec_block front calls n body)

pub while_goes : (front : Front) (calls : Calls) (n m k : ℕ) (a : e.TermTree) (body : e.BlockTree) (is : Bool) (ran : Result Flow Stop) (x y z v : RunState) (r : Result Flow Stop) → CalleesKeep calls → m ≡ suc k
    → FindsAndCarriesOut (λ i. i) (parts.holds front calls a) x y (Ok is) → is ≡ true → FindsAndCarriesOut flow_of (parts.run_turn front calls n body) y z ran → turn_end ran ≡ None
    → FindsAndCarriesOut flow_of (turns_left front calls n a body k) z v r → FindsAndCarriesOut flow_of (turns_left front calls n a body m) x v r
while_goes front calls n m k a body is ran x y z v r keep e h t g none rest = subst (λ j. FindsAndCarriesOut flow_of (turns_left front calls n a body j) x v r) (sym e)
    (tested (eval front calls a) (parts.run_turn front calls n body >>= (λ flow. then_turn flow (turns_left front calls n a body k))) (give next) flow_of is true x y v r (holds_keeps front calls a keep) h t
    (turn_then (parts.run_turn front calls n body) (turns_left front calls n a body k) ran y z v r (run_turn_keeps front calls n body keep) none g rest))

pub while_ends : (front : Front) (calls : Calls) (n m k : ℕ) (a : e.TermTree) (body : e.BlockTree) (is : Bool) (ran r : Result Flow Stop) (x y z : RunState) → CalleesKeep calls → m ≡ suc k
    → FindsAndCarriesOut (λ i. i) (parts.holds front calls a) x y (Ok is) → is ≡ true → FindsAndCarriesOut flow_of (parts.run_turn front calls n body) y z ran → turn_end ran ≡ Some r
    → FindsAndCarriesOut flow_of (turns_left front calls n a body m) x z r
while_ends front calls n m k a body is ran r x y z keep e h t g some = subst (λ j. FindsAndCarriesOut flow_of (turns_left front calls n a body j) x z r) (sym e)
    (tested (eval front calls a) (parts.run_turn front calls n body >>= (λ flow. then_turn flow (turns_left front calls n a body k))) (give next) flow_of is true x y z r (holds_keeps front calls a keep) h t
    (turn_ends (parts.run_turn front calls n body) (turns_left front calls n a body k) ran r y z some g))

pub while_done : (front : Front) (calls : Calls) (n m k : ℕ) (a : e.TermTree) (body : e.BlockTree) (is : Bool) (x y : RunState) → CalleesKeep calls → m ≡ suc k
    → FindsAndCarriesOut (λ i. i) (parts.holds front calls a) x y (Ok is) → is ≡ false → FindsAndCarriesOut flow_of (turns_left front calls n a body m) x y (Ok Next)
while_done front calls n m k a body is x y keep e h t = subst (λ j. FindsAndCarriesOut flow_of (turns_left front calls n a body j) x y (Ok Next)) (sym e)
    (tested (eval front calls a) (parts.run_turn front calls n body >>= (λ flow. then_turn flow (turns_left front calls n a body k))) (give next) flow_of is false x y y (Ok Next) (holds_keeps front calls a keep) h t (λ w ready. refl))

pub while_err : (front : Front) (calls : Calls) (n m k : ℕ) (a : e.TermTree) (body : e.BlockTree) (x : RunState) (stop : Stop) → m ≡ suc k → Fails (parts.holds front calls a) x stop → Fails (turns_left front calls n a body m) x stop
while_err front calls n m k a body x stop e h = subst (λ j. Fails (turns_left front calls n a body j) x stop) (sym e)
    (untested (eval front calls a) (parts.run_turn front calls n body >>= (λ flow. then_turn flow (turns_left front calls n a body k))) (give next) x stop h)

pub while_over : (front : Front) (calls : Calls) (n m : ℕ) (a : e.TermTree) (body : e.BlockTree) (x : RunState) → m ≡ 0 → Fails (turns_left front calls n a body m) x Limit
while_over front calls n m a body x e = subst (λ j. Fails (turns_left front calls n a body j) x Limit) (sym e) (λ w ready. refl)
