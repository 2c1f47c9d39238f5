-- What is added, test by test.
use Rattle.std.proofs.Common.{◌≡◌, ℕ, true, false, refl, sym, ap, subst, ◌∙◌}
use Rattle.std.specs.Prelude.{List, not, map, Option, Some, None, option_and_then, option_map, Result, Ok, Err}
use Rattle.std.specs.Option.{is_some}
use Rattle.std.specs.declared.alloc.Global.{Global}
use Rattle.std.specs.declared.rc.Rc.{Rc}
use Rattle.std.specs.declared.vec.Vec.{Vec}
use Rattle.cad_evaluation.specs.Adding.{contract_named, is_taken, is_contract_of, new_contract, standing, declarations_with, initializer_types, fitted, install, install_program, add_contract, add}
use Rattle.cad_evaluation.specs.Arguments.{argument}
use Rattle.cad_evaluation.specs.Callees.{Calls, Front}
use Rattle.cad_evaluation.specs.Texts.{text_in, bytes_in}
use Rattle.cad_installations.specs.Code.Steps.{installed, InstallsOn, code_installed, named_added, there_added}
use Rattle.cad_installations.specs.Views.{items_row}
use Rattle.cad_installations.proofs.Alike.{alike, stops_so, required, refused, guarded, unguarded, with_it, without_it, judged_well, judged_ill}
use Rattle.cad_installations.proofs.Coming.{fitted_stay}
use Rattle.cad_labels.specs.Laws.{AnyOne}
use Rattle.cad_world.specs.Marks.{AreGivenOnce}
use Rattle.cad_outcomes.specs.Outcomes.{Does, Stops}
use Rattle.cad_outcomes.specs.declared.stop.Stop.{Stop}
use Rattle.cad_outcomes.specs.declared.stop.Stop.TheVariants.{Failed, IllTyped, Memory}
use Rattle.cad_outcomes.specs.declared.error.RunError.TheVariants.{ContractExists, ContractRejected, ContractName}
use Rattle.cad_rows.specs.Views.{pure_tree}
use Rattle.cad_rows.specs.declared.tree.Place.{Place}
use Rattle.cad_rows.specs.declared.tree.Tree.{Tree as CodeTree}
use Rattle.cad_state.proofs.Finding.{find_stopped, find_then}
use Rattle.cad_declarations.specs.declared.program.Checked.{Checked}
use Rattle.cad_state.specs.Views.{state_over, contract_of, program_of, FindsAndCarriesOut}
use Rattle.cad_state.specs.declared.state.Contract.{Contract as CodeContract}
use Rattle.cad_state.specs.declared.state.RunState.{RunState}
use Rattle.cad_syntax.specs.declared.address.Address.{Address}
use Rattle.cad_syntax.specs.declared.type_id.TypeId.{TypeId}
use Rattle.cad_types.specs.Declarations.{Declaration}
use Rattle.cad_world.specs.Fronts as fronts
use Rattle.cad_world.specs.Fronts.{said, judged}
use Rattle.cad_world.specs.Labels.{account_at}
use Rattle.cad_world.specs.Rows.{Row, Tree, back}
use Rattle.cad_world.specs.State.{Contract, Program, State, Account, failed, ill, Action, ◌>>=◌, with_some}

-- ---- arguments that fit

-- from a state that is the same
moved : {A B : Type 0} (view : B → A) (p : Action A) (x y z : RunState) (q : Result B Stop) → ((w : List Account) → state_over w y ≡ state_over w x)
    → FindsAndCarriesOut view p y z q → FindsAndCarriesOut view p x z q
moved view p x y z q same h w ready =
    subst (λ (s : State). Does view p s (state_over w z) q) (same w) (h w (record { unnamed = ready.unnamed; once = subst AreGivenOnce (sym (same w)) ready.once }))

fitted_then : (calls : Calls) (d : Contract) (k : List Declaration) (r : Row) (y v z : RunState) (args : Result (Vec Place Global) Stop) (q : Result CodeTree Stop)
    → FindsAndCarriesOut items_row (fitted k (initializer_types d.id d.program) r) y v args → InstallsOn calls d args v z q
    → FindsAndCarriesOut pure_tree (fitted k (initializer_types d.id d.program) r >>= install calls d) y z q
fitted_then calls d k r y v z (Ok row) q first second =
    find_then AnyOne (fitted k (initializer_types d.id d.program) r) (fitted_stay k (initializer_types d.id d.program) r) items_row pure_tree (install calls d) row y v z q first (λ h. second)
fitted_then calls d k r y v z (Err why) q first is =
    subst (λ (e : Result CodeTree Stop). FindsAndCarriesOut pure_tree (fitted k (initializer_types d.id d.program) r >>= install calls d) y z e) (sym is)
    (find_stopped {D = CodeTree} items_row pure_tree (fitted k (initializer_types d.id d.program) r) (install calls d) y v z why first)

-- the state before and behind the look at what is declared is one
pub installs : (calls : Calls) (c d : Contract) (k : List Declaration) (r : Row) (x y v z : RunState) (args : Result (Vec Place Global) Stop) (q : Result CodeTree Stop)
    → d ≡ c → k ≡ declarations_with c (map contract_of x.contracts.items) → ((w : List Account) → state_over w y ≡ state_over w x)
    → FindsAndCarriesOut items_row (fitted k (initializer_types d.id d.program) r) y v args → InstallsOn calls d args v z q
    → FindsAndCarriesOut pure_tree (installed calls c r) x z q
installs calls c d k r x y v z args q is kinds same first second =
    subst (λ (j : List Declaration). FindsAndCarriesOut pure_tree (fitted j (initializer_types c.id c.program) r >>= install calls c) x z q) kinds
    (moved pure_tree (fitted k (initializer_types c.id c.program) r >>= install calls c) x y z q same
    (subst (λ (e : Contract). FindsAndCarriesOut pure_tree (fitted k (initializer_types e.id e.program) r >>= install calls e) y z q) is
    (fitted_then calls d k r y v z args q first second)))

-- want of memory is free
pub memory_told : (p : Action Tree) (x z : RunState) (why : Stop) → why ≡ Memory → FindsAndCarriesOut {B = CodeTree} pure_tree p x z (Err why)
memory_told p x z why is w ready = subst (λ (k : Stop). Stops (p (state_over w x)) k) (sym is) tt

-- ---- the program

pub program_fits : (calls : Calls) (id : TypeId) (code : List ℕ) (r : Row) (p : Program) (x z : RunState) (q : Result CodeTree Stop) → is_contract_of id p ≡ true
    → FindsAndCarriesOut pure_tree (installed calls (new_contract id code p) r) x z q → FindsAndCarriesOut pure_tree (install_program calls id code r p) x z q
program_fits calls id code r p x z q is h = alike pure_tree (install_program calls id code r p) (installed calls (new_contract id code p) r) x z q
    (λ w. required 120 (is_contract_of id p) (fitted (declarations_with (new_contract id code p) (map contract_of x.contracts.items)) (initializer_types id p) r >>= install calls (new_contract id code p)) (state_over w x) is) h

pub program_differs : (calls : Calls) (id : TypeId) (code : List ℕ) (r : Row) (p : Program) (x z : RunState) → is_contract_of id p ≡ false
    → FindsAndCarriesOut {B = CodeTree} pure_tree (install_program calls id code r p) x z (Err (Failed ContractName))
program_differs calls id code r p x z is = stops_so pure_tree (install_program calls id code r p) (failed 120) x z (Failed ContractName)
    (λ w. refused 120 (is_contract_of id p) (fitted (declarations_with (new_contract id code p) (map contract_of x.contracts.items)) (initializer_types id p) r >>= install calls (new_contract id code p)) (state_over w x) is) refl

-- ---- the code

abbrev shared_program : Rc Checked Global → Program
shared_program c = program_of c.value

-- what the front end answered, of the contracts of the state
pub accepted : (front : Front) (id : TypeId) (all slice : List CodeContract) (code bytes : List ℕ) (o p : Option (Rc Checked Global)) → o ≡ p → slice ≡ all → bytes ≡ code
    → said (option_map shared_program o) ≡ front (standing (map contract_of slice)) id.address bytes → front (standing (map contract_of all)) id.address code ≡ said (option_map shared_program p)
accepted front id all slice code bytes o p is same read told =
    ap (λ l. front (standing (map contract_of l)) id.address code) (sym same) ∙ ap (λ b. front (standing (map contract_of slice)) id.address b) (sym read)
    ∙ sym told ∙ ap (λ (q : Option (Rc Checked Global)). said (option_map shared_program q)) is

pub code_passes : (front : Front) (calls : Calls) (id : TypeId) (code : List ℕ) (r : Row) (p : Program) (x z : RunState) (q : Result CodeTree Stop)
    → front (standing (map contract_of x.contracts.items)) id.address code ≡ fronts.accepted p
    → FindsAndCarriesOut pure_tree (install_program calls id code r p) x z q → FindsAndCarriesOut pure_tree (code_installed front calls id code r) x z q
code_passes front calls id code r p x z q is h = alike pure_tree (code_installed front calls id code r) (install_program calls id code r p) x z q
    (λ w. judged_well 119 (front (standing (map contract_of x.contracts.items)) id.address code) p (install_program calls id code r) (state_over w x) is) h

pub code_fails : (front : Front) (calls : Calls) (id : TypeId) (code : List ℕ) (r : Row) (x z : RunState) → front (standing (map contract_of x.contracts.items)) id.address code ≡ fronts.refused
    → FindsAndCarriesOut {B = CodeTree} pure_tree (code_installed front calls id code r) x z (Err (Failed ContractRejected))
code_fails front calls id code r x z is = stops_so pure_tree (code_installed front calls id code r) (failed 119) x z (Failed ContractRejected)
    (λ w. judged_ill 119 (front (standing (map contract_of x.contracts.items)) id.address code) (install_program calls id code r) (state_over w x) is) refl

-- ---- the name

pub name_free : (front : Front) (calls : Calls) (id : TypeId) (code : List ℕ) (r : Row) (x z : RunState) (q : Result CodeTree Stop) → is_taken (map contract_of x.contracts.items) id ≡ false
    → FindsAndCarriesOut pure_tree (code_installed front calls id code r) x z q → FindsAndCarriesOut pure_tree (add_contract front calls id code r) x z q
name_free front calls id code r x z q is h = alike pure_tree (add_contract front calls id code r) (code_installed front calls id code r) x z q
    (λ w. required 118 (not (is_taken (map contract_of x.contracts.items) id)) (judged 119 (front (standing (map contract_of x.contracts.items)) id.address code) (install_program calls id code r)) (state_over w x) (ap not is)) h

pub name_taken : (front : Front) (calls : Calls) (id : TypeId) (code : List ℕ) (r : Row) (x z : RunState) → is_taken (map contract_of x.contracts.items) id ≡ true
    → FindsAndCarriesOut {B = CodeTree} pure_tree (add_contract front calls id code r) x z (Err (Failed ContractExists))
name_taken front calls id code r x z is = stops_so pure_tree (add_contract front calls id code r) (failed 118) x z (Failed ContractExists)
    (λ w. refused 118 (not (is_taken (map contract_of x.contracts.items) id)) (judged 119 (front (standing (map contract_of x.contracts.items)) id.address code) (install_program calls id code r)) (state_over w x) (ap not is)) refl

-- ---- the first two arguments, and the account

pub with_code : (front : Front) (calls : Calls) (id : TypeId) (r : Row) (code : List ℕ) (x z : RunState) (q : Result CodeTree Stop) → Some code ≡ option_and_then bytes_in (argument 1 r)
    → FindsAndCarriesOut pure_tree (add_contract front calls id code (back 2 r)) x z q → FindsAndCarriesOut pure_tree (named_added front calls id r) x z q
with_code front calls id r code x z q is h = alike pure_tree (named_added front calls id r) (add_contract front calls id code (back 2 r)) x z q
    (λ w. with_it (option_and_then bytes_in (argument 1 r)) code (λ own. add_contract front calls id own (back 2 r)) (state_over w x) (sym is)) h

pub without_code : (front : Front) (calls : Calls) (id : TypeId) (r : Row) (x z : RunState) → None ≡ option_and_then bytes_in (argument 1 r)
    → FindsAndCarriesOut {B = CodeTree} pure_tree (named_added front calls id r) x z (Err IllTyped)
without_code front calls id r x z is = stops_so pure_tree (named_added front calls id r) ill x z IllTyped
    (λ w. without_it (option_and_then bytes_in (argument 1 r)) (λ own. add_contract front calls id own (back 2 r)) (state_over w x) (sym is)) refl

mapped_some : {A B : Type 0} (o : Option A) (f : A → B) (b : B) (g : B → Action Tree) (s : State) → Some b ≡ option_map f o → with_some o (λ a. g (f a)) s ≡ g b s
mapped_some None f b g s is = absurd (none_is (sym is))
  where
    there_is : {B : Type 0} → Option B → Type 0
    there_is None = Unit {0}
    there_is (Some b) = ⊥

    none_is : {B : Type 0} {b : B} → None ≡ Some b → ⊥
    none_is e = subst there_is e tt
mapped_some {B = B} (Some a) f b g s is = ap (λ c. g c s) (sym (inside b is))
  where
    content : B → Option B → B
    content d None = d
    content d (Some c) = c

    inside : (d : B) → Some b ≡ Some (f a) → b ≡ f a
    inside d e = ap (content d) e

mapped_none : {A B : Type 0} (o : Option A) (f : A → B) (g : B → Action Tree) (s : State) → None ≡ option_map f o → with_some o (λ a. g (f a)) s ≡ ill
mapped_none None f g s is = refl
mapped_none (Some a) f g s is = absurd (none_is is)
  where
    there_is : {B : Type 0} → Option B → Type 0
    there_is None = Unit {0}
    there_is (Some b) = ⊥

    none_is : {B : Type 0} {b : B} → None ≡ Some b → ⊥
    none_is e = subst there_is e tt

pub with_name : (front : Front) (calls : Calls) (a : Address) (r : Row) (id : TypeId) (x z : RunState) (q : Result CodeTree Stop)
    → Some id ≡ option_map (contract_named a) (option_and_then text_in (argument 0 r))
    → FindsAndCarriesOut pure_tree (named_added front calls id r) x z q → FindsAndCarriesOut pure_tree (there_added front calls r a) x z q
with_name front calls a r id x z q is h = alike pure_tree (there_added front calls r a) (named_added front calls id r) x z q
    (λ w. mapped_some (option_and_then text_in (argument 0 r)) (contract_named a) id (λ i. named_added front calls i r) (state_over w x) is) h

pub without_name : (front : Front) (calls : Calls) (a : Address) (r : Row) (x z : RunState) → None ≡ option_map (contract_named a) (option_and_then text_in (argument 0 r))
    → FindsAndCarriesOut {B = CodeTree} pure_tree (there_added front calls r a) x z (Err IllTyped)
without_name front calls a r x z is = stops_so pure_tree (there_added front calls r a) ill x z IllTyped
    (λ w. mapped_none (option_and_then text_in (argument 0 r)) (contract_named a) (λ i. named_added front calls i r) (state_over w x) is) refl

pub account_there : (front : Front) (calls : Calls) (a : Address) (r : Row) (x z : RunState) (q : Result CodeTree Stop) → ((w : List Account) → is_some (account_at (state_over w x).accounts a.0) ≡ true)
    → FindsAndCarriesOut pure_tree (there_added front calls r a) x z q → FindsAndCarriesOut pure_tree (add front calls r a) x z q
account_there front calls a r x z q is h = alike pure_tree (add front calls r a) (there_added front calls r a) x z q
    (λ w. guarded (is_some (account_at (state_over w x).accounts a.0)) (there_added front calls r a) (state_over w x) (is w)) h

pub account_nowhere : (front : Front) (calls : Calls) (a : Address) (r : Row) (x z : RunState) → ((w : List Account) → is_some (account_at (state_over w x).accounts a.0) ≡ false)
    → FindsAndCarriesOut {B = CodeTree} pure_tree (add front calls r a) x z (Err IllTyped)
account_nowhere front calls a r x z is = stops_so pure_tree (add front calls r a) ill x z IllTyped
    (λ w. unguarded (is_some (account_at (state_over w x).accounts a.0)) (there_added front calls r a) (state_over w x) (is w)) refl
