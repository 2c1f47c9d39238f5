-- Contracts that are added: what default arguments of events change of it, and where the account is.
use Rattle.std.proofs.Common.{◌≡◌, ℕ, Bool, true, false, Option, Some, None, refl, ap}
use Rattle.std.specs.Prelude.{List, Result, Ok, Err, not, option_and_then}
use Rattle.std.specs.Option.{is_some}
use Rattle.cad_declarations.specs.Typed.{FunctionBody}
use Rattle.cad_evaluation.specs.Accounts.{account_in_value, on_account}
use Rattle.cad_evaluation.specs.Adding.{is_taken, is_contract_of, standing, new_contract, declarations_with, initializer_types, fitted, begin_contract, initialize_contract, finish_contract, install, install_program, add_contract, contract_named, add}
use Rattle.cad_evaluation.specs.Arguments.{argument}
use Rattle.cad_evaluation.specs.Callees.{Calls, Front}
use Rattle.cad_evaluation.specs.Evaluation.{destroying_nothing}
use Rattle.cad_evaluation.specs.Making.{initialized, initializer_of}
use Rattle.cad_evaluation.specs.Texts.{in_tree, text_in, bytes_in}
use Rattle.cad_labels.specs.Laws.{AnyOne, Keeps}
use Rattle.cad_labels.proofs.Forms.{keeps_give, keeps_some}
use Rattle.cad_labels.proofs.Keeping.{keeps_bind}
use Rattle.cad_labels.proofs.Places.{looks_keep}
use Rattle.cad_outcomes.specs.declared.stop.Stop.{Stop}
use Rattle.cad_receivers.specs.Views.{at_spot}
use Rattle.cad_rows.specs.declared.tree.Tree.{Tree as CodeTree}
use Rattle.cad_state.proofs.Finding.{find_same, find_stopped, find_then}
use Rattle.cad_state.specs.Views.{state_over, FindsAndCarriesOut}
use Rattle.cad_state.specs.declared.state.RunState.{RunState}
use Rattle.cad_syntax.specs.declared.address.Address.{Address}
use Rattle.cad_syntax.specs.declared.type_id.TypeId.{TypeId}
use Rattle.cad_syntax.specs.declared.types.Basic.{Basic}
use Rattle.cad_world.specs.Declared.{bodies_of}
use Rattle.cad_world.specs.Fronts.{Verdict, accepted, refused, unknown, judged}
use Rattle.cad_world.specs.Labels.{account_at}
use Rattle.cad_world.specs.Receivers.{Receiver, look_at}
use Rattle.cad_world.specs.Rows.{Row, Tree, back}
use Rattle.cad_world.specs.State.{Contract, Program, State, Outcome, ok, failed, limit, ill, bind, Action, ◌>>=◌, give, guard, require, with_some}
use Rattle.cad_expression_leaves.specs.Views.{tree_in}
use Rattle.std.specs.Global.{Box}

-- ---- steps that come to the same

outcome_alike : {A B : Type 0} (o : Outcome A) (f g : A → Action B) → ((a : A) (s : State) → f a s ≡ g a s) → bind o (λ a. f a) ≡ bind o (λ a. g a)
outcome_alike (ok a s) f g h = h a s
outcome_alike (failed e) f g h = refl
outcome_alike limit f g h = refl
outcome_alike ill f g h = refl

guard_alike : {A : Type 0} (b : Bool) (p q : Action A) (s : State) → p s ≡ q s → guard b p s ≡ guard b q s
guard_alike true p q s h = h
guard_alike false p q s h = refl

require_alike : {A : Type 0} (e : ℕ) (b : Bool) (p q : Action A) (s : State) → p s ≡ q s → require e b p s ≡ require e b q s
require_alike e true p q s h = h
require_alike e false p q s h = refl

some_alike : {A B : Type 0} (o : Option A) (f g : A → Action B) (s : State) → ((a : A) → f a s ≡ g a s) → with_some o f s ≡ with_some o g s
some_alike (Some a) f g s h = h a
some_alike None f g s h = refl

judged_alike : {A : Type 0} (e : ℕ) (v : Verdict) (f g : Program → Action A) (s : State) → ((p : Program) → f p s ≡ g p s) → judged e v f s ≡ judged e v g s
judged_alike e (accepted p) f g s h = h p
judged_alike e refused f g s h = refl
judged_alike e unknown f g s h = refl

-- ---- initializers run from default arguments of events as from anywhere else

initialized_alike : (calls : Calls) (id : TypeId) (l : ℕ) (r : Row) (o : Option FunctionBody) (s : State) → initialized (destroying_nothing calls) id l r o s ≡ initialized calls id l r o s
initialized_alike calls id l r None s = refl
initialized_alike calls id l r (Some body) s = refl

install_alike : (calls : Calls) (c : Contract) (r : Row) (s : State) → install (destroying_nothing calls) c r s ≡ install calls c r s
install_alike calls c r s = ap (λ o. bind o (λ _. finish_contract c.id))
    (outcome_alike (begin_contract c s) (initialize_contract (destroying_nothing calls) c.id r) (initialize_contract calls c.id r)
    (λ l t. initialized_alike calls c.id l r (initializer_of (bodies_of t c.id)) t))

program_alike : (calls : Calls) (id : TypeId) (code : List ℕ) (r : Row) (p : Program) (s : State) → install_program (destroying_nothing calls) id code r p s ≡ install_program calls id code r p s
program_alike calls id code r p s =
    require_alike 120 (is_contract_of id p)
    (fitted (declarations_with (new_contract id code p) s.contracts) (initializer_types id p) r >>= install (destroying_nothing calls) (new_contract id code p))
    (fitted (declarations_with (new_contract id code p) s.contracts) (initializer_types id p) r >>= install calls (new_contract id code p)) s
    (outcome_alike (fitted (declarations_with (new_contract id code p) s.contracts) (initializer_types id p) r s) (install (destroying_nothing calls) (new_contract id code p)) (install calls (new_contract id code p))
    (λ row t. install_alike calls (new_contract id code p) row t))

contract_alike : (front : Front) (calls : Calls) (id : TypeId) (code : List ℕ) (r : Row) (s : State) → add_contract front (destroying_nothing calls) id code r s ≡ add_contract front calls id code r s
contract_alike front calls id code r s =
    require_alike 118 (not (is_taken s.contracts id)) (judged 119 (front (standing s.contracts) id.address code) (install_program (destroying_nothing calls) id code r))
    (judged 119 (front (standing s.contracts) id.address code) (install_program calls id code r)) s
    (judged_alike 119 (front (standing s.contracts) id.address code) (install_program (destroying_nothing calls) id code r) (install_program calls id code r) s (λ p. program_alike calls id code r p s))

add_alike : (front : Front) (calls : Calls) (r : Row) (a : Address) (s : State) → add front (destroying_nothing calls) r a s ≡ add front calls r a s
add_alike front calls r a s =
    guard_alike (is_some (account_at s.accounts a.0)) _ _ s
    (some_alike (option_and_then text_in (argument 0 r)) _ _ s (λ name.
    some_alike (option_and_then bytes_in (argument 1 r)) _ _ s (λ code. contract_alike front calls (contract_named a name) code (back 2 r) s)))

pub quiet_adds : (front : Front) (calls : Calls) (r : Row) (a : Address) (x z : RunState) (q : Result (Box CodeTree) Stop)
    → FindsAndCarriesOut tree_in (add front calls r a) x z q → FindsAndCarriesOut tree_in (add front (destroying_nothing calls) r a) x z q
quiet_adds front calls r a x z q h =
    find_same tree_in (add front (destroying_nothing calls) r a) (add front calls r a) x z q (λ w ready. add_alike front calls r a (state_over w x)) h

-- ---- the account of whose contracts a receiver is the part

-- its address
abbrev pub contracts_told : Basic → Receiver → Action Address
contracts_told part r = at_spot r (λ spot. with_some (in_tree (account_in_value part) spot.tree) give)

told_keeps : (part : Basic) (r : Receiver) → Keeps AnyOne (contracts_told part r)
told_keeps part r = keeps_bind AnyOne AnyOne (look_at r) (λ spot. with_some (in_tree (account_in_value part) spot.tree) give) (looks_keep r)
    (λ spot h. keeps_some AnyOne (in_tree (account_in_value part) spot.tree) give (λ a. keeps_give {A = Address} AnyOne a tt))

given_cases : {A B : Type 0} (o : Option A) (f : A → Action B) (s : State) → with_some o f s ≡ bind (with_some o give s) f
given_cases (Some a) f s = refl
given_cases None f s = refl

told_cases : {A B : Type 0} (o : Outcome A) (tell : A → Option Address) (f : Address → Action B) → bind o (λ a. with_some (tell a) f) ≡ bind (bind o (λ a. with_some (tell a) give)) f
told_cases (ok a s) tell f = given_cases (tell a) f s
told_cases (failed e) tell f = refl
told_cases limit tell f = refl
told_cases ill tell f = refl

pub adds_there : (part : Basic) (r : Receiver) (f : Address → Action Tree) (a : Address) (x y z : RunState) (q : Result (Box CodeTree) Stop)
    → FindsAndCarriesOut (λ (own : Address). own) (contracts_told part r) x y (Ok a) → FindsAndCarriesOut tree_in (f a) y z q
    → FindsAndCarriesOut tree_in (at_spot r (λ spot. on_account part spot f)) x z q
adds_there part r f a x y z q first second =
    find_same tree_in (at_spot r (λ spot. on_account part spot f)) (contracts_told part r >>= f) x z q
    (λ w ready. told_cases (look_at r (state_over w x)) (λ spot. in_tree (account_in_value part) spot.tree) f)
    (find_then AnyOne (contracts_told part r) (told_keeps part r) (λ (own : Address). own) tree_in f a x y z q first (λ h. second))

pub adds_nowhere : (part : Basic) (r : Receiver) (f : Address → Action Tree) (x y z : RunState) (why : Stop)
    → FindsAndCarriesOut {B = Address} (λ (own : Address). own) (contracts_told part r) x y (Err why)
    → FindsAndCarriesOut {B = Box CodeTree} tree_in (at_spot r (λ spot. on_account part spot f)) x z (Err why)
adds_nowhere part r f x y z why first =
    find_same {B = Box CodeTree} tree_in (at_spot r (λ spot. on_account part spot f)) (contracts_told part r >>= f) x z (Err why)
    (λ w ready. told_cases (look_at r (state_over w x)) (λ spot. in_tree (account_in_value part) spot.tree) f)
    (find_stopped {D = Box CodeTree} (λ (own : Address). own) tree_in (contracts_told part r) f x y z why first)
