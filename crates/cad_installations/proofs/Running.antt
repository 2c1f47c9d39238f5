-- The initializer of a contract runs.
use Rattle.std.proofs.Common.{◌≡◌, ℕ, Bool, true, false, refl, sym, ap, subst}
use Rattle.std.specs.Prelude.{List, Option, Some, None, Result, Ok, Err}
use Rattle.std.specs.Option.{is_some}
use Rattle.cad_evaluation.specs.Adding.{begin_contract, finish_contract, initialize_contract, install}
use Rattle.cad_evaluation.specs.Callees.{Calls, initializer}
use Rattle.cad_evaluation.specs.Making.{initialized, initializer_of}
use Rattle.cad_declarations.specs.Typed.{FunctionBody}
use Rattle.cad_installations.specs.Code.Steps.{initializer_run, begun_and_run}
use Rattle.cad_installations.proofs.Alike.{alike, both_any}
use Rattle.cad_installations.proofs.Begun.{begin_keeps}
use Rattle.cad_labels.specs.Laws.{AnyOne}
use Rattle.cad_outcomes.proofs.Steps.{stops_on}
use Rattle.cad_outcomes.specs.Outcomes.{no_value}
use Rattle.cad_outcomes.specs.declared.stop.Stop.{Stop}
use Rattle.cad_rows.specs.Views.{pure_tree}
use Rattle.cad_rows.specs.declared.tree.Tree.{Tree as CodeTree}
use Rattle.cad_state.proofs.Finding.{find_any, find_stopped, find_then}
use Rattle.cad_state.specs.Views.{state_over, CarriesOut, FindsAndCarriesOut}
use Rattle.cad_state.specs.declared.state.RunState.{RunState}
use Rattle.cad_syntax.specs.declared.type_id.TypeId.{TypeId}
use Rattle.cad_world.specs.Declared.{bodies_of}
use Rattle.cad_world.specs.Rows.{Row}
use Rattle.cad_world.specs.State.{Contract, State, Account, bind, done}

-- ---- the initializer

pub run_ends : (calls : Calls) (id : TypeId) (l : ℕ) (r : Row) (x z : RunState) (tree : CodeTree) → FindsAndCarriesOut pure_tree (calls (initializer id l) r) x z (Ok tree)
    → FindsAndCarriesOut no_value (initializer_run calls id l r) x z (Ok tt)
run_ends calls id l r x z tree first w ready = ap (λ o. bind o (λ _. done)) (first w ready)

pub run_stops : (calls : Calls) (id : TypeId) (l : ℕ) (r : Row) (x y z : RunState) (why : Stop) → FindsAndCarriesOut {B = CodeTree} pure_tree (calls (initializer id l) r) x y (Err why)
    → FindsAndCarriesOut {B = Unit {0}} no_value (initializer_run calls id l r) x z (Err why)
run_stops calls id l r x y z why first w ready = stops_on (calls (initializer id l) r (state_over w x)) (λ _. done) why (first w ready)

written_cases : (calls : Calls) (id : TypeId) (l : ℕ) (r : Row) (o : Option FunctionBody) (s : State) → is_some o ≡ true → initialized calls id l r o s ≡ initializer_run calls id l r s
written_cases calls id l r (Some body) s is = refl
written_cases calls id l r None s is = absurd (no_some is)
  where
    truth : Bool → Type 0
    truth true = Unit {0}
    truth false = ⊥

    no_some : false ≡ true → ⊥
    no_some e = subst truth (sym e) tt

unwritten_cases : (calls : Calls) (id : TypeId) (l : ℕ) (r : Row) (o : Option FunctionBody) (s : State) → is_some o ≡ false → initialized calls id l r o s ≡ done s
unwritten_cases calls id l r None s is = refl
unwritten_cases calls id l r (Some body) s is = absurd (no_none is)
  where
    truth : Bool → Type 0
    truth true = Unit {0}
    truth false = ⊥

    no_none : true ≡ false → ⊥
    no_none e = subst truth e tt

-- one is written, and runs
pub written : (calls : Calls) (id : TypeId) (l : ℕ) (r : Row) (x z : RunState) (q : Result (Unit {0}) Stop) → ((w : List Account) → is_some (initializer_of (bodies_of (state_over w x) id)) ≡ true)
    → FindsAndCarriesOut no_value (initializer_run calls id l r) x z q → FindsAndCarriesOut no_value (initialize_contract calls id r l) x z q
written calls id l r x z q is h = alike no_value (initialize_contract calls id r l) (initializer_run calls id l r) x z q
    (λ w. written_cases calls id l r (initializer_of (bodies_of (state_over w x) id)) (state_over w x) (is w)) h

-- none is written
pub unwritten : (calls : Calls) (id : TypeId) (l : ℕ) (r : Row) (x : RunState) → ((w : List Account) → is_some (initializer_of (bodies_of (state_over w x) id)) ≡ false)
    → FindsAndCarriesOut no_value (initialize_contract calls id r l) x x (Ok tt)
unwritten calls id l r x is w ready = unwritten_cases calls id l r (initializer_of (bodies_of (state_over w x) id)) (state_over w x) (is w)

-- ---- the installation

pub runs_behind : (calls : Calls) (c : Contract) (id : TypeId) (r : Row) (l : ℕ) (x y z : RunState) (q : Result (Unit {0}) Stop) → id ≡ c.id
    → CarriesOut (λ (label : ℕ). label) (begin_contract c) x y (Ok l) → FindsAndCarriesOut no_value (initialize_contract calls id r l) y z q
    → FindsAndCarriesOut no_value (begun_and_run calls c r) x z q
runs_behind calls c id r l x y z q is first second =
    find_then AnyOne (begin_contract c) (begin_keeps c) (λ (label : ℕ). label) no_value (initialize_contract calls c.id r) l x y z q
    (find_any (λ (label : ℕ). label) (begin_contract c) x y (Ok l) first)
    (λ h. subst (λ (i : TypeId). FindsAndCarriesOut no_value (initialize_contract calls i r l) y z q) is second)

pub begin_stops : (calls : Calls) (c : Contract) (r : Row) (x y z : RunState) (why : Stop) → CarriesOut {B = ℕ} (λ (label : ℕ). label) (begin_contract c) x y (Err why)
    → FindsAndCarriesOut {B = Unit {0}} no_value (begun_and_run calls c r) x z (Err why)
begin_stops calls c r x y z why first =
    find_stopped {D = Unit {0}} (λ (label : ℕ). label) no_value (begin_contract c) (initialize_contract calls c.id r) x y z why
    (find_any {B = ℕ} (λ (label : ℕ). label) (begin_contract c) x y (Err why) first)

pub finishes_behind : (calls : Calls) (c : Contract) (id : TypeId) (r : Row) (x y z : RunState) (q : Result CodeTree Stop) → id ≡ c.id
    → FindsAndCarriesOut no_value (begun_and_run calls c r) x y (Ok tt) → CarriesOut pure_tree (finish_contract id) y z q → FindsAndCarriesOut pure_tree (install calls c r) x z q
finishes_behind calls c id r x y z q is first second =
    both_any (begun_and_run calls c r) (λ _. finish_contract c.id) no_value pure_tree tt x y z q first
    (subst (λ (i : TypeId). CarriesOut pure_tree (finish_contract i) y z q) is second)

pub install_stops : (calls : Calls) (c : Contract) (r : Row) (x y z : RunState) (why : Stop) → FindsAndCarriesOut {B = Unit {0}} no_value (begun_and_run calls c r) x y (Err why)
    → FindsAndCarriesOut {B = CodeTree} pure_tree (install calls c r) x z (Err why)
install_stops calls c r x y z why first = find_stopped {D = CodeTree} no_value pure_tree (begun_and_run calls c r) (λ _. finish_contract c.id) x y z why first
