-- Calls, by their parts.
use Rattle.std.proofs.Common.{◌≡◌, refl, sym, ap, subst}
use Rattle.std.specs.Global.{Box}
use Rattle.std.specs.Prelude.{ℕ, Bool, true, false, List, length, Option, Some, None, reverse, Result, Ok, Err}
use Rattle.cad_syntax.specs.Types.{PureType}
use Rattle.cad_syntax.specs.declared.type_id.TypeId.{TypeId}
use Rattle.cad_declarations.specs.Typed as e
use Rattle.cad_calls.specs.Code.Parts as parts
use Rattle.cad_calls.proofs.Keeping as keeping
use Rattle.cad_calls.proofs.Steps.{Fails, FailsAnyhow, both, both_any, stops, any_then, any_stops, then_done}
use Rattle.cad_evaluation.specs.Bodies as spec
use Rattle.cad_evaluation.specs.Callees.{Calls, Front}
use Rattle.cad_evaluation.specs.Changing.{fill}
use Rattle.cad_evaluation.specs.Ending.{ended}
use Rattle.cad_evaluation.specs.Numbers.{truth_of}
use Rattle.cad_evaluation.specs.Statements.{emits}
use Rattle.cad_evaluation.specs.Terms.{eval}
use Rattle.cad_execution.specs.Passed.{tree_in}
use Rattle.cad_function_sources.specs.Sources.{as_run}
use Rattle.cad_labels.specs.Laws.{HasNone, AnyOne, CalleesKeep}
use Rattle.cad_labels.proofs.Forms.{keeps_spend}
use Rattle.cad_label_runs.proofs.Bodies.{moved_to_keeps}
use Rattle.cad_outcomes.specs.Outcomes.{no_value}
use Rattle.cad_outcomes.specs.declared.error.RunError.TheVariants.{Condition}
use Rattle.cad_outcomes.specs.declared.stop.Stop.{Stop}
use Rattle.cad_outcomes.specs.declared.stop.Stop.TheVariants.{Failed}
use Rattle.cad_rows.specs.Views.{pure_tree}
use Rattle.cad_rows.specs.declared.tree.Tree.{Tree}
use Rattle.cad_state.specs.Views.{CarriesOut, FindsAndCarriesOut}
use Rattle.cad_state.specs.declared.state.RunState.{RunState}
use Rattle.cad_world.specs.Locations.{variable}
use Rattle.cad_world.specs.Rows as rows
use Rattle.cad_world.specs.State.{Outcome, bind, Action, ◌>>◌, done, fail, by_truth, tick}

-- ---- conditions

pub message_ok : (front : Front) (calls : Calls) (a : e.TermTree) (b : Box Tree) (x y : RunState) → FindsAndCarriesOut tree_in (eval front calls a) x y (Ok b)
    → FindsAndCarriesOut no_value (spec.message_of front calls (Some a)) x y (Ok tt)
message_ok front calls a b x y first w ready = ap (λ o. bind o (λ _. done)) (first w ready)

pub message_err : (front : Front) (calls : Calls) (a : e.TermTree) (x : RunState) (stop : Stop) → Fails (eval front calls a) x stop → Fails (spec.message_of front calls (Some a)) x stop
message_err front calls a x stop h = stops (eval front calls a) (λ _. done) x stop h

pub value_ok : (front : Front) (calls : Calls) (a : e.TermTree) (x y z : RunState) (r : Result (Box Tree) Stop)
    → CarriesOut no_value tick x y (Ok tt) → FindsAndCarriesOut tree_in (eval front calls a) y z r → FindsAndCarriesOut tree_in (parts.value_of front calls a) x z r
value_ok front calls a x y z r first second = both AnyOne tick (λ _. eval front calls a) no_value tree_in tt x y z r (keeps_spend 1) (λ w ready. first w) second

pub value_err : (front : Front) (calls : Calls) (a : e.TermTree) (x : RunState) (stop : Stop) → FailsAnyhow tick x stop → Fails (parts.value_of front calls a) x stop
value_err front calls a x stop h = stops tick (λ _. eval front calls a) x stop (λ w ready. h w)

pub failed_ok : (front : Front) (calls : Calls) (m : Option e.TermTree) (x y : RunState) → FindsAndCarriesOut no_value (spec.message_of front calls m) x y (Ok tt)
    → Fails (parts.failed_test front calls m) x (Failed Condition)
failed_ok front calls m x y first w ready = ap (λ (o : Outcome (Unit {0})). bind {B = Unit {0}} o (λ _. fail 108)) (first w ready)

pub failed_err : (front : Front) (calls : Calls) (m : Option e.TermTree) (x : RunState) (stop : Stop) → Fails (spec.message_of front calls m) x stop → Fails (parts.failed_test front calls m) x stop
failed_err front calls m x stop h = stops (spec.message_of front calls m) (λ _. fail 108) x stop h

pub test_ok : (front : Front) (calls : Calls) (at : ℕ) (a : e.TermTree) (m : Option e.TermTree) (b : Box Tree) (x y z : RunState) (r : Result (Unit {0}) Stop) → CalleesKeep calls
    → FindsAndCarriesOut tree_in (parts.value_of front calls a) x y (Ok b) → FindsAndCarriesOut no_value (parts.judged front calls m (tree_in b)) y z r
    → FindsAndCarriesOut no_value (spec.tested front calls (e.test at a m)) x z r
test_ok front calls at a m b x y z r keep first second =
    both HasNone (parts.value_of front calls a) (λ t. parts.judged front calls m t) tree_in no_value b x y z r (keeping.value_keeps front calls a keep) first second

pub test_err : (front : Front) (calls : Calls) (at : ℕ) (a : e.TermTree) (m : Option e.TermTree) (x : RunState) (stop : Stop)
    → Fails (parts.value_of front calls a) x stop → Fails (spec.tested front calls (e.test at a m)) x stop
test_err front calls at a m x stop h = stops (parts.value_of front calls a) (λ t. parts.judged front calls m t) x stop h

pub emit_ok : (front : Front) (calls : Calls) (at : ℕ) (id : TypeId) (all : e.Arguments) (x y z : RunState) (r : Result (Unit {0}) Stop)
    → CarriesOut no_value tick x y (Ok tt) → FindsAndCarriesOut no_value (emits front calls id all) y z r → FindsAndCarriesOut no_value (spec.tested front calls (e.emitted at id all)) x z r
emit_ok front calls at id all x y z r first second = both AnyOne tick (λ _. emits front calls id all) no_value no_value tt x y z r (keeps_spend 1) (λ w ready. first w) second

pub emit_err : (front : Front) (calls : Calls) (at : ℕ) (id : TypeId) (all : e.Arguments) (x : RunState) (stop : Stop)
    → FailsAnyhow tick x stop → Fails (spec.tested front calls (e.emitted at id all)) x stop
emit_err front calls at id all x stop h = stops tick (λ _. emits front calls id all) x stop (λ w ready. h w)

pub kept_ok : (front : Front) (calls : Calls) (a : e.TermTree) (b : Box Tree) (x y z : RunState) (r : Result (Unit {0}) Stop)
    → FindsAndCarriesOut tree_in (eval front calls a) x y (Ok b) → CarriesOut no_value (spec.kept_before (tree_in b)) y z r → FindsAndCarriesOut no_value (parts.value_kept front calls a) x z r
kept_ok front calls a b x y z r first second = both_any (eval front calls a) spec.kept_before tree_in no_value b x y z r first second

pub kept_err : (front : Front) (calls : Calls) (a : e.TermTree) (x : RunState) (stop : Stop) → Fails (eval front calls a) x stop → Fails (parts.value_kept front calls a) x stop
kept_err front calls a x stop h = stops (eval front calls a) spec.kept_before x stop h

-- ---- declarations

-- in a declaration, wherever its code runs
pub moved_ok : (within : Option TypeId) (p : Action (Unit {0})) (x y z : RunState) (r : Result (Unit {0}) Stop)
    → CarriesOut no_value (spec.moved_to within) x y (Ok tt) → FindsAndCarriesOut no_value p y z r → FindsAndCarriesOut no_value (spec.moved_to within >> p) x z r
moved_ok within p x y z r first second = both AnyOne (spec.moved_to within) (λ _. p) no_value no_value tt x y z r (moved_to_keeps within) (λ w ready. first w) second

pub moved_err : (within : Option TypeId) (p : Action (Unit {0})) (x : RunState) (stop : Stop) → FailsAnyhow (spec.moved_to within) x stop → Fails (spec.moved_to within >> p) x stop
moved_err within p x stop h = stops (spec.moved_to within) (λ _. p) x stop (λ w ready. h w)

-- what an initializer runs as has the same conditions
pub pre_as : (b : Bool) (f : e.FunctionBody) → (as_run b f).pre ≡ f.pre
pre_as true f = refl
pre_as false f = refl

pub before_as : (b : Bool) (f : e.FunctionBody) → (as_run b f).before ≡ f.before
before_as true f = refl
before_as false f = refl

pub body_as : (b : Bool) (f : e.FunctionBody) → (as_run b f).body ≡ f.body
body_as true f = refl
body_as false f = refl

pub pre_ok : (front : Front) (calls : Calls) (within : Option TypeId) (b : Bool) (f : e.FunctionBody) (x y z : RunState) (r : Result (Unit {0}) Stop)
    → CarriesOut no_value (spec.moved_to within) x y (Ok tt) → FindsAndCarriesOut no_value (spec.all_tested front calls f.pre) y z r
    → FindsAndCarriesOut no_value (parts.precondition front calls within (as_run b f)) x z r
pre_ok front calls within b f x y z r first second =
    moved_ok within (spec.all_tested front calls (as_run b f).pre) x y z r first
    (subst (λ l. FindsAndCarriesOut no_value (spec.all_tested front calls l) y z r) (sym (pre_as b f)) second)

pub pre_err : (front : Front) (calls : Calls) (within : Option TypeId) (f : e.FunctionBody) (x : RunState) (stop : Stop)
    → FailsAnyhow (spec.moved_to within) x stop → Fails (parts.precondition front calls within f) x stop
pre_err front calls within f x stop h = moved_err within (spec.all_tested front calls f.pre) x stop h

pub before_ok : (front : Front) (calls : Calls) (within : Option TypeId) (b : Bool) (f : e.FunctionBody) (x y z : RunState) (r : Result (Unit {0}) Stop)
    → CarriesOut no_value (spec.moved_to within) x y (Ok tt) → FindsAndCarriesOut no_value (spec.values_before front calls f.before) y z r
    → FindsAndCarriesOut no_value (parts.piece_before front calls within (as_run b f)) x z r
before_ok front calls within b f x y z r first second =
    moved_ok within (spec.values_before front calls (as_run b f).before) x y z r first
    (subst (λ l. FindsAndCarriesOut no_value (spec.values_before front calls l) y z r) (sym (before_as b f)) second)

pub before_err : (front : Front) (calls : Calls) (within : Option TypeId) (f : e.FunctionBody) (x : RunState) (stop : Stop)
    → FailsAnyhow (spec.moved_to within) x stop → Fails (parts.piece_before front calls within f) x stop
before_err front calls within f x stop h = moved_err within (spec.values_before front calls f.before) x stop h

pub fill_ok : (type : PureType) (x : e.VariableEntry) (b : Tree) (u v z : RunState) (r : Result (Unit {0}) Stop)
    → CarriesOut pure_tree (spec.result_value type) u v (Ok b) → CarriesOut no_value (fill (variable x.number) (pure_tree b)) v z r → CarriesOut no_value (parts.result_filled type x) u z r
fill_ok type x b u v z r first second = any_then (spec.result_value type) (fill (variable x.number)) pure_tree no_value b u v z r first second

pub fill_err : (type : PureType) (x : e.VariableEntry) (u : RunState) (stop : Stop) → FailsAnyhow (spec.result_value type) u stop → FailsAnyhow (parts.result_filled type x) u stop
fill_err type x u stop h = any_stops (spec.result_value type) (fill (variable x.number)) u stop h

pub result_tested_ok : (front : Front) (calls : Calls) (f : e.FunctionBody) (v : e.VariableEntry) (x y z : RunState) (r : Result (Unit {0}) Stop)
    → CarriesOut no_value (parts.result_filled f.result v) x y (Ok tt) → FindsAndCarriesOut no_value (spec.all_tested front calls f.post) y z r
    → FindsAndCarriesOut no_value (parts.result_tested front calls f v) x z r
result_tested_ok front calls f v x y z r first second =
    both AnyOne (parts.result_filled f.result v) (λ _. spec.all_tested front calls f.post) no_value no_value tt x y z r (keeping.result_filled_keeps f.result v) (λ w ready. first w) second

pub result_tested_err : (front : Front) (calls : Calls) (f : e.FunctionBody) (v : e.VariableEntry) (x : RunState) (stop : Stop)
    → FailsAnyhow (parts.result_filled f.result v) x stop → Fails (parts.result_tested front calls f v) x stop
result_tested_err front calls f v x stop h = stops (parts.result_filled f.result v) (λ _. spec.all_tested front calls f.post) x stop (λ w ready. h w)

pub with_result_ok : (front : Front) (calls : Calls) (f : e.FunctionBody) (v : e.VariableEntry) (x y z : RunState) (r : Result (Unit {0}) Stop)
    → FindsAndCarriesOut no_value (parts.result_tested front calls f v) x y (Ok tt) → CarriesOut no_value (ended v.number) y z r
    → FindsAndCarriesOut no_value (spec.with_result f.result (Some v) (spec.all_tested front calls f.post)) x z r
with_result_ok front calls f v x y z r first second = both_any (parts.result_tested front calls f v) (λ _. ended v.number) no_value no_value tt x y z r first second

pub with_result_err : (front : Front) (calls : Calls) (f : e.FunctionBody) (v : e.VariableEntry) (x : RunState) (stop : Stop)
    → Fails (parts.result_tested front calls f v) x stop → Fails (spec.with_result f.result (Some v) (spec.all_tested front calls f.post)) x stop
with_result_err front calls f v x stop h = stops (parts.result_tested front calls f v) (λ _. ended v.number) x stop h

-- of an initializer, and of a function whose result has no name
pub after_made : (front : Front) (calls : Calls) (b : Bool) (f : e.FunctionBody) (x z : RunState) (r : Result (Unit {0}) Stop) → b ≡ true
    → FindsAndCarriesOut no_value (spec.all_tested front calls f.post) x z r → FindsAndCarriesOut no_value (parts.after_body front calls (as_run b f)) x z r
after_made front calls b f x z r is h = subst (λ (k : Bool). FindsAndCarriesOut no_value (parts.after_body front calls (as_run k f)) x z r) (sym is) h

pub after_plain : (front : Front) (calls : Calls) (b : Bool) (f : e.FunctionBody) (o : Option e.VariableEntry) (x z : RunState) (r : Result (Unit {0}) Stop) → b ≡ false → f.result_variable ≡ o
    → FindsAndCarriesOut no_value (spec.with_result f.result o (spec.all_tested front calls f.post)) x z r → FindsAndCarriesOut no_value (parts.after_body front calls (as_run b f)) x z r
after_plain front calls b f o x z r is named h =
    subst (λ (k : Bool). FindsAndCarriesOut no_value (parts.after_body front calls (as_run k f)) x z r) (sym is)
    (subst (λ (v : Option e.VariableEntry). FindsAndCarriesOut no_value (spec.with_result f.result v (spec.all_tested front calls f.post)) x z r) (sym named) h)

pub after_ok : (front : Front) (calls : Calls) (within : Option TypeId) (f : e.FunctionBody) (x y z : RunState) (r : Result (Unit {0}) Stop)
    → CarriesOut no_value (spec.moved_to within) x y (Ok tt) → FindsAndCarriesOut no_value (parts.after_body front calls f) y z r
    → FindsAndCarriesOut no_value (parts.moved_after front calls within f) x z r
after_ok front calls within f x y z r first second = moved_ok within (parts.after_body front calls f) x y z r first second

pub after_err : (front : Front) (calls : Calls) (within : Option TypeId) (f : e.FunctionBody) (x : RunState) (stop : Stop)
    → FailsAnyhow (spec.moved_to within) x stop → Fails (parts.moved_after front calls within f) x stop
after_err front calls within f x stop h = moved_err within (parts.after_body front calls f) x stop h

pub post_ok : (front : Front) (calls : Calls) (within : Option TypeId) (b : Bool) (f : e.FunctionBody) (x y z : RunState) (r : Result (Unit {0}) Stop)
    → FindsAndCarriesOut no_value (parts.moved_after front calls within (as_run b f)) x y (Ok tt) → CarriesOut no_value (spec.passed_before (length f.before)) y z r
    → FindsAndCarriesOut no_value (parts.postcondition front calls within (as_run b f)) x z r
post_ok front calls within b f x y z r first second =
    both_any (parts.moved_after front calls within (as_run b f)) (λ _. spec.passed_before (length (as_run b f).before)) no_value no_value tt x y z r first
    (subst (λ l. CarriesOut no_value (spec.passed_before (length l)) y z r) (sym (before_as b f)) second)

pub post_err : (front : Front) (calls : Calls) (within : Option TypeId) (f : e.FunctionBody) (x : RunState) (stop : Stop)
    → Fails (parts.moved_after front calls within f) x stop → Fails (parts.postcondition front calls within f) x stop
post_err front calls within f x stop h = stops (parts.moved_after front calls within f) (λ _. spec.passed_before (length f.before)) x stop h

-- ---- by what is there

pub judged_not : (front : Front) (calls : Calls) (m : Option e.TermTree) (t : rows.Tree) (x z : RunState) (r : Result (Unit {0}) Stop) → truth_of t ≡ Some false
    → FindsAndCarriesOut no_value (parts.failed_test front calls m) x z r → FindsAndCarriesOut no_value (parts.judged front calls m t) x z r
judged_not front calls m t x z r is h = subst (λ (o : Option Bool). FindsAndCarriesOut no_value (by_truth o done (parts.failed_test front calls m)) x z r) (sym is) h

pub message_some : (front : Front) (calls : Calls) (o : Option e.TermTree) (a : e.TermTree) (x z : RunState) (r : Result (Unit {0}) Stop) → o ≡ Some a
    → FindsAndCarriesOut no_value (spec.message_of front calls (Some a)) x z r → FindsAndCarriesOut no_value (spec.message_of front calls o) x z r
message_some front calls o a x z r is h = subst (λ (k : Option e.TermTree). FindsAndCarriesOut no_value (spec.message_of front calls k) x z r) (sym is) h

pub tested_as : (front : Front) (calls : Calls) (c d : e.ConditionBody) (x z : RunState) (r : Result (Unit {0}) Stop) → c ≡ d
    → FindsAndCarriesOut no_value (spec.tested front calls d) x z r → FindsAndCarriesOut no_value (spec.tested front calls c) x z r
tested_as front calls c d x z r is h = subst (λ (k : e.ConditionBody). FindsAndCarriesOut no_value (spec.tested front calls k) x z r) (sym is) h

pub moved_as : (a b : Option TypeId) (x z : RunState) (r : Result (Unit {0}) Stop) → a ≡ b → CarriesOut no_value (spec.moved_to a) x z r → CarriesOut no_value (spec.moved_to b) x z r
moved_as a b x z r is h = subst (λ (k : Option TypeId). CarriesOut no_value (spec.moved_to k) x z r) is h

pub own_first : (front : Front) (calls : Calls) (o : Option spec.Piece) (p : spec.Piece) (x z : RunState) (r : Result (Unit {0}) Stop) → o ≡ Some p
    → FindsAndCarriesOut no_value (parts.precondition front calls p.within p.function) x z r → FindsAndCarriesOut no_value (spec.preconditions front calls (spec.listed o)) x z r
own_first front calls o p x z r is h =
    subst (λ (k : Option spec.Piece). FindsAndCarriesOut no_value (spec.preconditions front calls (spec.listed k)) x z r) (sym is)
    (then_done (parts.precondition front calls p.within p.function) x z r h)

pub before_first : (front : Front) (calls : Calls) (o : Option spec.Piece) (p : spec.Piece) (others : List spec.Piece) (x y z : RunState) (r : Result (Unit {0}) Stop) → CalleesKeep calls → o ≡ Some p
    → FindsAndCarriesOut no_value (parts.piece_before front calls p.within p.function) x y (Ok tt) → FindsAndCarriesOut no_value (spec.all_before front calls (reverse others)) y z r
    → FindsAndCarriesOut no_value (spec.all_before front calls (spec.outward o others)) x z r
before_first front calls o p others x y z r keep is first second =
    subst (λ (k : Option spec.Piece). FindsAndCarriesOut no_value (spec.all_before front calls (spec.outward k others)) x z r) (sym is)
    (both AnyOne (parts.piece_before front calls p.within p.function) (λ _. spec.all_before front calls (reverse others)) no_value no_value tt x y z r
    (keeping.piece_before_keeps front calls p.within p.function keep) first second)

pub before_stops : (front : Front) (calls : Calls) (o : Option spec.Piece) (p : spec.Piece) (others : List spec.Piece) (x z : RunState) (stop : Stop) → o ≡ Some p
    → FindsAndCarriesOut no_value (parts.piece_before front calls p.within p.function) x z (Err stop) → FindsAndCarriesOut no_value (spec.all_before front calls (spec.outward o others)) x z (Err stop)
before_stops front calls o p others x z stop is first =
    subst (λ (k : Option spec.Piece). FindsAndCarriesOut no_value (spec.all_before front calls (spec.outward k others)) x z (Err stop)) (sym is)
    (stops (parts.piece_before front calls p.within p.function) (λ _. spec.all_before front calls (reverse others)) x stop first)

pub before_none : (front : Front) (calls : Calls) (o : Option spec.Piece) (others : List spec.Piece) (x z : RunState) (r : Result (Unit {0}) Stop) → o ≡ None
    → FindsAndCarriesOut no_value (spec.all_before front calls (reverse others)) x z r → FindsAndCarriesOut no_value (spec.all_before front calls (spec.outward o others)) x z r
before_none front calls o others x z r is h = subst (λ (k : Option spec.Piece). FindsAndCarriesOut no_value (spec.all_before front calls (spec.outward k others)) x z r) (sym is) h

pub post_first : (front : Front) (calls : Calls) (o : Option spec.Piece) (p : spec.Piece) (others : List spec.Piece) (x y z : RunState) (r : Result (Unit {0}) Stop) → CalleesKeep calls → o ≡ Some p
    → FindsAndCarriesOut no_value (parts.postcondition front calls p.within p.function) x y (Ok tt) → FindsAndCarriesOut no_value (spec.postconditions front calls (reverse others)) y z r
    → FindsAndCarriesOut no_value (spec.postconditions front calls (spec.outward o others)) x z r
post_first front calls o p others x y z r keep is first second =
    subst (λ (k : Option spec.Piece). FindsAndCarriesOut no_value (spec.postconditions front calls (spec.outward k others)) x z r) (sym is)
    (both AnyOne (parts.postcondition front calls p.within p.function) (λ _. spec.postconditions front calls (reverse others)) no_value no_value tt x y z r
    (keeping.postcondition_keeps front calls p.within p.function keep) first second)

pub post_stops : (front : Front) (calls : Calls) (o : Option spec.Piece) (p : spec.Piece) (others : List spec.Piece) (x z : RunState) (stop : Stop) → o ≡ Some p
    → FindsAndCarriesOut no_value (parts.postcondition front calls p.within p.function) x z (Err stop) → FindsAndCarriesOut no_value (spec.postconditions front calls (spec.outward o others)) x z (Err stop)
post_stops front calls o p others x z stop is first =
    subst (λ (k : Option spec.Piece). FindsAndCarriesOut no_value (spec.postconditions front calls (spec.outward k others)) x z (Err stop)) (sym is)
    (stops (parts.postcondition front calls p.within p.function) (λ _. spec.postconditions front calls (reverse others)) x stop first)

pub post_none : (front : Front) (calls : Calls) (o : Option spec.Piece) (others : List spec.Piece) (x z : RunState) (r : Result (Unit {0}) Stop) → o ≡ None
    → FindsAndCarriesOut no_value (spec.postconditions front calls (reverse others)) x z r → FindsAndCarriesOut no_value (spec.postconditions front calls (spec.outward o others)) x z r
post_none front calls o others x z r is h = subst (λ (k : Option spec.Piece). FindsAndCarriesOut no_value (spec.postconditions front calls (spec.outward k others)) x z r) (sym is) h
