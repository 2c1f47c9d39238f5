-- The node with a label is changed where a way leads to it: so the state is changed as the definition changes it by the label.
use Rattle.std.proofs.Common.{◌≡◌, ℕ, zero, suc, ◌+◌, ◌≤◌, List, [], ◌∷◌, map, reverse, Option, Some, None, refl, sym, ap, ◌∙◌, true, true≢false, arith, option_map}
use Rattle.std.specs.Prelude.{slice_get}
use Rattle.std.proofs.lemmas.Option.{slice_get-map}
use mathlib.Core.List.{reverse_aux}
use Rattle.cad_world.specs.Labels.{on_frame, on_account, on_contract, with_node}
use Rattle.cad_world.specs.Rows.{NodeShape, Row, Found, changed, is_one_of}
use Rattle.cad_world.specs.State.{Account, Contract, Frame}
use Rattle.cad_labels.proofs.Marks.{mark, marks_mark}
use Rattle.cad_labels.proofs.States.{frame_rows, account_rows, contract_rows, total, whole}
use Rattle.cad_rows.specs.Views.{pure_row}
use Rattle.cad_state.specs.Views.{state_over, account_of, accounts_over, frame_of, contract_of, IsReady}
use Rattle.cad_state.specs.Ways.{is_there, account_in, if_held, at_index, in_variables, in_before, in_result, in_stored, in_value, with_row}
use Rattle.cad_state.specs.declared.hints.Root.TheVariants as root
use Rattle.cad_state.specs.declared.state.Account.{Account as AccountCode}
use Rattle.cad_state.specs.declared.state.Accounts.{Accounts}
use Rattle.cad_state.specs.declared.state.Call.{Call}
use Rattle.cad_state.specs.declared.state.Contract.{Contract as ContractCode}
use Rattle.cad_state.specs.declared.state.RunState.{RunState}
use Rattle.cad_rows.specs.Exchanges.{exchanged}
use Rattle.cad_rows.specs.Laws.{IsTheNode}
use Rattle.cad_rows.specs.Ways.{node_at}
use Rattle.cad_state.proofs.Holding.{held_get}
use Rattle.cad_state.proofs.Nodes.{some_marked, unchanged}
use Rattle.cad_state.proofs.Standing.{once_whole, row_mark}

-- ---- where the label doesn't stand

frames_same : (p : ℕ) (sh : NodeShape) (k : Row) (fs : List Frame) → total p (frame_rows fs) ≡ 0 → map (on_frame (changed p sh k)) fs ≡ fs
frames_same p sh k [] h = refl
frames_same p sh k (f ∷ fs) h =
    let v : changed p sh k f.variables ≡ f.variables = unchanged p sh k f.variables (omega (arith, h)) in
    let b : changed p sh k f.before ≡ f.before = unchanged p sh k f.before (omega (arith, h)) in
    let r : changed p sh k f.result ≡ f.result = unchanged p sh k f.result (omega (arith, h)) in
    let rest : map (on_frame (changed p sh k)) fs ≡ fs = frames_same p sh k fs (omega (arith, h)) in
    λ i. record f { variables = v i; before = b i; result = r i } ∷ rest i

accounts_same : (p : ℕ) (sh : NodeShape) (k : Row) (all : List Account) → total p (account_rows all) ≡ 0 → map (on_account (changed p sh k)) all ≡ all
accounts_same p sh k [] h = refl
accounts_same p sh k (a ∷ all) h =
    let v : changed p sh k a.stored ≡ a.stored = unchanged p sh k a.stored (omega (arith, h)) in
    let rest : map (on_account (changed p sh k)) all ≡ all = accounts_same p sh k all (omega (arith, h)) in
    λ i. record a { stored = v i } ∷ rest i

contracts_same : (p : ℕ) (sh : NodeShape) (k : Row) (all : List Contract) → total p (contract_rows all) ≡ 0 → map (on_contract (changed p sh k)) all ≡ all
contracts_same p sh k [] h = refl
contracts_same p sh k (c ∷ all) h =
    let v : changed p sh k c.value ≡ c.value = unchanged p sh k c.value (omega (arith, h)) in
    let rest : map (on_contract (changed p sh k)) all ≡ all = contracts_same p sh k all (omega (arith, h)) in
    λ i. record c { value = v i } ∷ rest i

-- ---- in one of a list

abbrev or_else : {A : Type 0} → A → Option A → A
or_else a None = a
or_else a (Some b) = b

frame_within : (q : ℕ) (gs : List Frame) (n : ℕ) (x : Frame) → slice_get gs n ≡ Some x → total q (frame_rows (x ∷ [])) ≤ total q (frame_rows gs)
frame_within q [] n x r = absurd (true≢false (ap is_there (sym r)))
frame_within q (y ∷ gs) zero x r = omega (arith, ap (λ z. total q (frame_rows (z ∷ []))) (ap (or_else x) r))
frame_within q (y ∷ gs) (suc n) x r = omega (arith, frame_within q gs n x r)

frames_one : (p : ℕ) (sh : NodeShape) (k : Row) (h : Frame → Frame) (fs : List Frame) (i : ℕ) (f : Frame) → slice_get fs i ≡ Some f → on_frame (changed p sh k) f ≡ h f → 1 ≤ total p (frame_rows (f ∷ [])) → total p (frame_rows fs) ≤ 1
    → map (on_frame (changed p sh k)) fs ≡ at_index i h fs
frames_one p sh k h [] i f e d one most = refl
frames_one p sh k h (g ∷ fs) zero f e d one most =
    let same : g ≡ f = ap (or_else f) e in
    let rest : map (on_frame (changed p sh k)) fs ≡ fs = frames_same p sh k fs (omega (arith, most, one, ap (λ x. total p (frame_rows (x ∷ []))) same)) in
    let here : on_frame (changed p sh k) g ≡ h g = ap (on_frame (changed p sh k)) same ∙ d ∙ ap h (sym same) in
    λ i. here i ∷ rest i
frames_one p sh k h (g ∷ fs) (suc i) f e d one most =
    let inner : total p (frame_rows (f ∷ [])) ≤ total p (frame_rows fs) = frame_within p fs i f e in
    let first : map (on_frame (changed p sh k)) (g ∷ []) ≡ g ∷ [] = frames_same p sh k (g ∷ []) (omega (arith, most, one, inner)) in
    let rest : map (on_frame (changed p sh k)) fs ≡ at_index i h fs = frames_one p sh k h fs i f e d one (omega (arith, most)) in
    λ j. head_of g (first j) ∷ rest j
  where
    head_of : Frame → List Frame → Frame
    head_of x [] = x
    head_of x (y ∷ ys) = y

pub account_marked : (q : ℕ) (gs : List Account) (n : ℕ) (x : Account) → slice_get gs n ≡ Some x → mark q x.stored ≤ total q (account_rows gs)
account_marked q [] n x r = absurd (true≢false (ap is_there (sym r)))
account_marked q (y ∷ gs) zero x r = omega (arith, ap (λ (z : Account). mark q z.stored) (ap (or_else x) r))
account_marked q (y ∷ gs) (suc n) x r = omega (arith, account_marked q gs n x r)

accounts_one : (p : ℕ) (sh : NodeShape) (k : Row) (h : Account → Account) (all : List Account) (i : ℕ) (c : Account) → slice_get all i ≡ Some c → on_account (changed p sh k) c ≡ h c → 1 ≤ mark p c.stored → total p (account_rows all) ≤ 1
    → map (on_account (changed p sh k)) all ≡ at_index i h all
accounts_one p sh k h [] i c e d one most = refl
accounts_one p sh k h (b ∷ all) zero c e d one most =
    let same : b ≡ c = ap (or_else c) e in
    let rest : map (on_account (changed p sh k)) all ≡ all = accounts_same p sh k all (omega (arith, most, one, ap (λ (x : Account). mark p x.stored) same)) in
    let here : on_account (changed p sh k) b ≡ h b = ap (on_account (changed p sh k)) same ∙ d ∙ ap h (sym same) in
    λ i. here i ∷ rest i
accounts_one p sh k h (b ∷ all) (suc i) c e d one most =
    let inner : mark p c.stored ≤ total p (account_rows all) = account_marked p all i c e in
    let v : changed p sh k b.stored ≡ b.stored = unchanged p sh k b.stored (omega (arith, most, one, inner)) in
    let rest : map (on_account (changed p sh k)) all ≡ at_index i h all = accounts_one p sh k h all i c e d one (omega (arith, most)) in
    λ j. record b { stored = v j } ∷ rest j

-- in one that the run has
held_marked : (q : ℕ) (w : List Account) (all : Accounts) (i : ℕ) (c : AccountCode) → account_in all i ≡ Some c → mark q (pure_row c.stored.items) ≤ total q (account_rows (accounts_over w all))
held_marked q w all i c e = account_marked q (accounts_over w all) i (account_of c) (held_get w all i c e)

held_one : (p : ℕ) (sh : NodeShape) (k : Row) (h : Account → Account) (w : List Account) (all : Accounts) (i : ℕ) (c : AccountCode) → account_in all i ≡ Some c
    → on_account (changed p sh k) (account_of c) ≡ h (account_of c) → 1 ≤ mark p (pure_row c.stored.items) → total p (account_rows (accounts_over w all)) ≤ 1
    → map (on_account (changed p sh k)) (accounts_over w all) ≡ if_held (account_in all i) (at_index i h) (accounts_over w all)
held_one p sh k h w all i c e d one most =
    accounts_one p sh k h (accounts_over w all) i (account_of c) (held_get w all i c e) d one most
    ∙ ap (λ o. if_held o (at_index i h) (accounts_over w all)) (sym e)

contract_marked : (q : ℕ) (gs : List Contract) (n : ℕ) (x : Contract) → slice_get gs n ≡ Some x → mark q x.value ≤ total q (contract_rows gs)
contract_marked q [] n x r = absurd (true≢false (ap is_there (sym r)))
contract_marked q (y ∷ gs) zero x r = omega (arith, ap (λ (z : Contract). mark q z.value) (ap (or_else x) r))
contract_marked q (y ∷ gs) (suc n) x r = omega (arith, contract_marked q gs n x r)

contracts_one : (p : ℕ) (sh : NodeShape) (k : Row) (h : Contract → Contract) (all : List Contract) (i : ℕ) (c : Contract) → slice_get all i ≡ Some c → on_contract (changed p sh k) c ≡ h c → 1 ≤ mark p c.value → total p (contract_rows all) ≤ 1
    → map (on_contract (changed p sh k)) all ≡ at_index i h all
contracts_one p sh k h [] i c e d one most = refl
contracts_one p sh k h (b ∷ all) zero c e d one most =
    let same : b ≡ c = ap (or_else c) e in
    let rest : map (on_contract (changed p sh k)) all ≡ all = contracts_same p sh k all (omega (arith, most, one, ap (λ (x : Contract). mark p x.value) same)) in
    let here : on_contract (changed p sh k) b ≡ h b = ap (on_contract (changed p sh k)) same ∙ d ∙ ap h (sym same) in
    λ i. here i ∷ rest i
contracts_one p sh k h (b ∷ all) (suc i) c e d one most =
    let inner : mark p c.value ≤ total p (contract_rows all) = contract_marked p all i c e in
    let v : changed p sh k b.value ≡ b.value = unchanged p sh k b.value (omega (arith, most, one, inner)) in
    let rest : map (on_contract (changed p sh k)) all ≡ at_index i h all = contracts_one p sh k h all i c e d one (omega (arith, most)) in
    λ j. record b { value = v j } ∷ rest j

-- ---- calls stand the other way round

map_turned : (g : Frame → Frame) (fs acc : List Frame) → map g (reverse_aux fs acc) ≡ reverse_aux (map g fs) (map g acc)
map_turned g [] acc = refl
map_turned g (f ∷ fs) acc = map_turned g fs (f ∷ acc)

total_turned : (p : ℕ) (fs acc : List Frame) → total p (frame_rows (reverse_aux fs acc)) ≡ total p (frame_rows fs) + total p (frame_rows acc)
total_turned p [] acc = omega arith
total_turned p (f ∷ fs) acc = omega (arith, total_turned p fs (f ∷ acc))

frames_changed : (p : ℕ) (sh : NodeShape) (k : Row) (h : Frame → Frame) (fs : List Frame) (i : ℕ) (f : Frame) → slice_get fs i ≡ Some f → on_frame (changed p sh k) f ≡ h f → 1 ≤ total p (frame_rows (f ∷ []))
    → total p (frame_rows (reverse fs)) ≤ 1 → reverse (at_index i h fs) ≡ map (on_frame (changed p sh k)) (reverse fs)
frames_changed p sh k h fs i f e d one most =
    ap reverse (sym (frames_one p sh k h fs i f e d one (omega (arith, most, total_turned p fs [])))) ∙ sym (map_turned (on_frame (changed p sh k)) fs [])

frame_marked : (p : ℕ) (fs : List Frame) (i : ℕ) (f : Frame) → slice_get fs i ≡ Some f → total p (frame_rows (f ∷ [])) ≤ total p (frame_rows (reverse fs))
frame_marked p fs i f e = omega (arith, total_turned p fs [], frame_within p fs i f e)

-- a change in one of the calls
call_changed : (w : List Account) (x : RunState) (p : ℕ) (sh : NodeShape) (k : Row) (h : Frame → Frame) (i : ℕ) (f : Frame) → IsReady w x → slice_get (map frame_of x.calls.items) i ≡ Some f
    → (total p (frame_rows (f ∷ [])) ≤ 1 → on_frame (changed p sh k) f ≡ h f) → 1 ≤ total p (frame_rows (f ∷ []))
    → record (state_over w x) { frames = reverse (at_index i h (map frame_of x.calls.items)) } ≡ with_node p sh k (state_over w x)
call_changed w x p sh k h i f ready e d one =
    let all : whole p (state_over w x) ≤ 1 = once_whole p (state_over w x) ready.once in
    let least : total p (frame_rows (f ∷ [])) ≤ total p (frame_rows (reverse (map frame_of x.calls.items))) = frame_marked p (map frame_of x.calls.items) i f e in
    let a = frames_changed p sh k h (map frame_of x.calls.items) i f e (d (omega (arith, all, least))) one (omega (arith, all)) in
    let b : changed p sh k (pure_row x.making.items) ≡ pure_row x.making.items = unchanged p sh k (pure_row x.making.items) (omega (arith, all, least, one)) in
    let c : map (on_account (changed p sh k)) (state_over w x).accounts ≡ (state_over w x).accounts = accounts_same p sh k (state_over w x).accounts (omega (arith, all, least, one)) in
    let v : map (on_contract (changed p sh k)) (map contract_of x.contracts.items) ≡ map contract_of x.contracts.items = contracts_same p sh k (map contract_of x.contracts.items) (omega (arith, all, least, one)) in
    λ j. record (state_over w x) { frames = a j; making = sym b j; accounts = sym c j; contracts = sym v j }

-- ---- at each root

by_way : IsTheNode → (p : ℕ) (ds : List ℕ) (sh : NodeShape) (k r : Row) (f : Found) → node_at ds r ≡ Some f → is_one_of p f.labels ≡ true → mark p r ≤ 1 → exchanged ds sh k r ≡ changed p sh k r
by_way only p ds sh k r f e d h = sym ((only p ds r f (omega (arith, marks_mark p r, h)) e d).1 sh k)

marked_by_way : IsTheNode → (p : ℕ) (ds : List ℕ) (r : Row) (f : Found) → node_at ds r ≡ Some f → is_one_of p f.labels ≡ true → mark p r ≤ 1 → 1 ≤ mark p r
marked_by_way only p ds r f e d h = some_marked p r f (only p ds r f (omega (arith, marks_mark p r, h)) e d).0

pub variables_changed : IsTheNode → (w : List Account) (x : RunState) (p : ℕ) (sh : NodeShape) (k : Row) (ds : List ℕ) (i : ℕ) (c : Call) (f : Found) → IsReady w x → slice_get x.calls.items i ≡ Some c
    → node_at ds (pure_row c.variables.items) ≡ Some f → is_one_of p f.labels ≡ true → with_row (root.Variables i) (exchanged ds sh k) w x ≡ with_node p sh k (state_over w x)
variables_changed only w x p sh k ds i c f ready q e d =
    let most : mark p (pure_row c.variables.items) ≤ 1 = row_mark w x (root.Variables i) p c.variables.items ready (ap (option_map (λ y. y.variables.items)) q) in
    let one : 1 ≤ mark p (pure_row c.variables.items) = marked_by_way only p ds (pure_row c.variables.items) f e d most in
    call_changed w x p sh k (in_variables (exchanged ds sh k)) i (frame_of c) ready (slice_get-map frame_of x.calls.items i ∙ ap (option_map frame_of) q)
    (λ all.
    let v : exchanged ds sh k (pure_row c.variables.items) ≡ changed p sh k (pure_row c.variables.items) = by_way only p ds sh k (pure_row c.variables.items) f e d most in
    let b : changed p sh k (pure_row c.before.items) ≡ pure_row c.before.items = unchanged p sh k (pure_row c.before.items) (omega (arith, all, one)) in
    let r : changed p sh k (pure_row c.result.items) ≡ pure_row c.result.items = unchanged p sh k (pure_row c.result.items) (omega (arith, all, one)) in
    (λ j. record (frame_of c) { variables = sym v j; before = b j; result = r j }))
    (omega (arith, one))

pub before_changed : IsTheNode → (w : List Account) (x : RunState) (p : ℕ) (sh : NodeShape) (k : Row) (ds : List ℕ) (i : ℕ) (c : Call) (f : Found) → IsReady w x → slice_get x.calls.items i ≡ Some c
    → node_at ds (pure_row c.before.items) ≡ Some f → is_one_of p f.labels ≡ true → with_row (root.Before i) (exchanged ds sh k) w x ≡ with_node p sh k (state_over w x)
before_changed only w x p sh k ds i c f ready q e d =
    let most : mark p (pure_row c.before.items) ≤ 1 = row_mark w x (root.Before i) p c.before.items ready (ap (option_map (λ y. y.before.items)) q) in
    let one : 1 ≤ mark p (pure_row c.before.items) = marked_by_way only p ds (pure_row c.before.items) f e d most in
    call_changed w x p sh k (in_before (exchanged ds sh k)) i (frame_of c) ready (slice_get-map frame_of x.calls.items i ∙ ap (option_map frame_of) q)
    (λ all.
    let v : changed p sh k (pure_row c.variables.items) ≡ pure_row c.variables.items = unchanged p sh k (pure_row c.variables.items) (omega (arith, all, one)) in
    let b : exchanged ds sh k (pure_row c.before.items) ≡ changed p sh k (pure_row c.before.items) = by_way only p ds sh k (pure_row c.before.items) f e d most in
    let r : changed p sh k (pure_row c.result.items) ≡ pure_row c.result.items = unchanged p sh k (pure_row c.result.items) (omega (arith, all, one)) in
    (λ j. record (frame_of c) { variables = v j; before = sym b j; result = r j }))
    (omega (arith, one))

pub result_changed : IsTheNode → (w : List Account) (x : RunState) (p : ℕ) (sh : NodeShape) (k : Row) (ds : List ℕ) (i : ℕ) (c : Call) (f : Found) → IsReady w x → slice_get x.calls.items i ≡ Some c
    → node_at ds (pure_row c.result.items) ≡ Some f → is_one_of p f.labels ≡ true → with_row (root.Result i) (exchanged ds sh k) w x ≡ with_node p sh k (state_over w x)
result_changed only w x p sh k ds i c f ready q e d =
    let most : mark p (pure_row c.result.items) ≤ 1 = row_mark w x (root.Result i) p c.result.items ready (ap (option_map (λ y. y.result.items)) q) in
    let one : 1 ≤ mark p (pure_row c.result.items) = marked_by_way only p ds (pure_row c.result.items) f e d most in
    call_changed w x p sh k (in_result (exchanged ds sh k)) i (frame_of c) ready (slice_get-map frame_of x.calls.items i ∙ ap (option_map frame_of) q)
    (λ all.
    let v : changed p sh k (pure_row c.variables.items) ≡ pure_row c.variables.items = unchanged p sh k (pure_row c.variables.items) (omega (arith, all, one)) in
    let b : changed p sh k (pure_row c.before.items) ≡ pure_row c.before.items = unchanged p sh k (pure_row c.before.items) (omega (arith, all, one)) in
    let r : exchanged ds sh k (pure_row c.result.items) ≡ changed p sh k (pure_row c.result.items) = by_way only p ds sh k (pure_row c.result.items) f e d most in
    (λ j. record (frame_of c) { variables = v j; before = b j; result = sym r j }))
    (omega (arith, one))

pub making_changed : IsTheNode → (w : List Account) (x : RunState) (p : ℕ) (sh : NodeShape) (k : Row) (ds : List ℕ) (f : Found) → IsReady w x
    → node_at ds (pure_row x.making.items) ≡ Some f → is_one_of p f.labels ≡ true → with_row root.Making (exchanged ds sh k) w x ≡ with_node p sh k (state_over w x)
making_changed only w x p sh k ds f ready e d =
    let all : whole p (state_over w x) ≤ 1 = once_whole p (state_over w x) ready.once in
    let most : mark p (pure_row x.making.items) ≤ 1 = omega (arith, all) in
    let one : 1 ≤ mark p (pure_row x.making.items) = marked_by_way only p ds (pure_row x.making.items) f e d most in
    let a : map (on_frame (changed p sh k)) (reverse (map frame_of x.calls.items)) ≡ reverse (map frame_of x.calls.items) = frames_same p sh k (reverse (map frame_of x.calls.items)) (omega (arith, all, one)) in
    let b : exchanged ds sh k (pure_row x.making.items) ≡ changed p sh k (pure_row x.making.items) = by_way only p ds sh k (pure_row x.making.items) f e d most in
    let c : map (on_account (changed p sh k)) (state_over w x).accounts ≡ (state_over w x).accounts = accounts_same p sh k (state_over w x).accounts (omega (arith, all, one)) in
    let v : map (on_contract (changed p sh k)) (map contract_of x.contracts.items) ≡ map contract_of x.contracts.items = contracts_same p sh k (map contract_of x.contracts.items) (omega (arith, all, one)) in
    λ j. record (state_over w x) { frames = sym a j; making = b j; accounts = sym c j; contracts = sym v j }

pub stored_changed : IsTheNode → (w : List Account) (x : RunState) (p : ℕ) (sh : NodeShape) (k : Row) (ds : List ℕ) (i : ℕ) (c : AccountCode) (f : Found) → IsReady w x → account_in x.accounts i ≡ Some c
    → node_at ds (pure_row c.stored.items) ≡ Some f → is_one_of p f.labels ≡ true → with_row (root.Stored i) (exchanged ds sh k) w x ≡ with_node p sh k (state_over w x)
stored_changed only w x p sh k ds i c f ready q e d =
    let all : whole p (state_over w x) ≤ 1 = once_whole p (state_over w x) ready.once in
    let most : mark p (pure_row c.stored.items) ≤ 1 = row_mark w x (root.Stored i) p c.stored.items ready (ap (option_map (λ y. y.stored.items)) q) in
    let one : 1 ≤ mark p (pure_row c.stored.items) = marked_by_way only p ds (pure_row c.stored.items) f e d most in
    let inner : mark p (pure_row c.stored.items) ≤ total p (account_rows (state_over w x).accounts) = held_marked p w x.accounts i c q in
    let by : exchanged ds sh k (pure_row c.stored.items) ≡ changed p sh k (pure_row c.stored.items) = by_way only p ds sh k (pure_row c.stored.items) f e d most in
    let a : map (on_frame (changed p sh k)) (reverse (map frame_of x.calls.items)) ≡ reverse (map frame_of x.calls.items) = frames_same p sh k (reverse (map frame_of x.calls.items)) (omega (arith, all, one, inner)) in
    let b : changed p sh k (pure_row x.making.items) ≡ pure_row x.making.items = unchanged p sh k (pure_row x.making.items) (omega (arith, all, one, inner)) in
    let u : map (on_account (changed p sh k)) (state_over w x).accounts ≡ if_held (account_in x.accounts i) (at_index i (in_stored (exchanged ds sh k))) (accounts_over w x.accounts) =
    held_one p sh k (in_stored (exchanged ds sh k)) w x.accounts i c q (λ j. record (account_of c) { stored = sym by j }) one (omega (arith, all)) in
    let v : map (on_contract (changed p sh k)) (map contract_of x.contracts.items) ≡ map contract_of x.contracts.items = contracts_same p sh k (map contract_of x.contracts.items) (omega (arith, all, one, inner)) in
    λ j. record (state_over w x) { frames = sym a j; making = sym b j; accounts = sym u j; contracts = sym v j }

pub value_changed : IsTheNode → (w : List Account) (x : RunState) (p : ℕ) (sh : NodeShape) (k : Row) (ds : List ℕ) (i : ℕ) (c : ContractCode) (f : Found) → IsReady w x → slice_get x.contracts.items i ≡ Some c
    → node_at ds (pure_row c.value.items) ≡ Some f → is_one_of p f.labels ≡ true → with_row (root.Contract i) (exchanged ds sh k) w x ≡ with_node p sh k (state_over w x)
value_changed only w x p sh k ds i c f ready q e d =
    let all : whole p (state_over w x) ≤ 1 = once_whole p (state_over w x) ready.once in
    let most : mark p (pure_row c.value.items) ≤ 1 = row_mark w x (root.Contract i) p c.value.items ready (ap (option_map (λ y. y.value.items)) q) in
    let one : 1 ≤ mark p (pure_row c.value.items) = marked_by_way only p ds (pure_row c.value.items) f e d most in
    let there : slice_get (map contract_of x.contracts.items) i ≡ Some (contract_of c) = slice_get-map contract_of x.contracts.items i ∙ ap (option_map contract_of) q in
    let inner : mark p (pure_row c.value.items) ≤ total p (contract_rows (map contract_of x.contracts.items)) = contract_marked p (map contract_of x.contracts.items) i (contract_of c) there in
    let by : exchanged ds sh k (pure_row c.value.items) ≡ changed p sh k (pure_row c.value.items) = by_way only p ds sh k (pure_row c.value.items) f e d most in
    let a : map (on_frame (changed p sh k)) (reverse (map frame_of x.calls.items)) ≡ reverse (map frame_of x.calls.items) = frames_same p sh k (reverse (map frame_of x.calls.items)) (omega (arith, all, one, inner)) in
    let b : changed p sh k (pure_row x.making.items) ≡ pure_row x.making.items = unchanged p sh k (pure_row x.making.items) (omega (arith, all, one, inner)) in
    let u : map (on_account (changed p sh k)) (state_over w x).accounts ≡ (state_over w x).accounts = accounts_same p sh k (state_over w x).accounts (omega (arith, all, one, inner)) in
    let v : map (on_contract (changed p sh k)) (map contract_of x.contracts.items) ≡ at_index i (in_value (exchanged ds sh k)) (map contract_of x.contracts.items) =
    contracts_one p sh k (in_value (exchanged ds sh k)) (map contract_of x.contracts.items) i (contract_of c) there (λ j. record (contract_of c) { value = sym by j }) one (omega (arith, all)) in
    λ j. record (state_over w x) { frames = sym a j; making = sym b j; accounts = sym u j; contracts = sym v j }
