-- The rows of a state in which each label stands once: what is found in one of them, and what changes there.
use Rattle.std.proofs.Common.{◌≡◌, ◌⊎◌, inl, inr, ℕ, zero, suc, ◌+◌, ◌≤◌, ◌<◌, Bool, true, false, if◌then◌else◌, List, [], ◌∷◌, ◌++◌, map, reverse, Option, Some, None, refl, sym, ap, subst, ◌∙◌, true≢false, arith, option_map, length, drop}
use Rattle.std.specs.Prelude.{slice_get, nat_lt, IfSome}
use mathlib.Core.List.{reverse-cons}
use Rattle.cad_world.specs.Labels.{at, found_in_frames, found_in_accounts, found_in_contracts}
use Rattle.cad_world.specs.Marks.{AreGivenOnce}
use Rattle.cad_world.specs.Rows.{Row, Found, found, either, is_one_of}
use Rattle.cad_world.specs.State.{Account, Contract, Frame, State}
use Rattle.cad_labels.proofs.Marks.{mark, nothing_found}
use Rattle.cad_labels.proofs.States.{frame_rows, account_rows, contract_rows, total, whole, labels_whole}
use Rattle.cad_rows.specs.Views.{pure_row}
use Rattle.cad_rows.specs.Ways.{pure_node}
use Rattle.cad_rows.specs.declared.found.Node.{Node}
use Rattle.cad_rows.specs.declared.tree.Place.{Place}
use Rattle.cad_state.specs.Views.{state_over, account_of, accounts_over, frame_of, contract_of, IsReady}
use Rattle.cad_state.specs.Ways.{is_there, account_in, count_in, index_in, row_at, reached, found_in, if_labelled, Stands, NotIn, NotStored}
use Rattle.cad_state.specs.declared.hints.Way.{Way}
use Rattle.cad_state.specs.declared.hints.Root.{Root}
use Rattle.cad_state.specs.declared.hints.Root.TheVariants as root
use Rattle.cad_state.specs.declared.state.Account.{Account as AccountCode}
use Rattle.cad_state.specs.declared.state.Accounts.{Accounts}
use Rattle.cad_state.specs.declared.state.Call.{Call}
use Rattle.cad_state.specs.declared.state.Contract.{Contract as ContractCode}
use Rattle.cad_state.specs.declared.state.RunState.{RunState}
use Rattle.cad_rows.specs.Laws.{IsTheNode}
use Rattle.cad_labels.proofs.Marks.{marks_mark}
use Rattle.cad_state.proofs.Holding.{held_get, each_held, one_more, not_held}
use Rattle.cad_state.proofs.Nodes.{either_assoc, some_marked}

-- ---- a list of rows

abbrev pub Within : Row → List Row → Type 0
Within r [] = ⊥
Within r (q ∷ rs) = (q ≡ r) ⊎ Within r rs

abbrev pub rows_found : ℕ → List Row → Option Found
rows_found p [] = None
rows_found p (r ∷ rs) = either (found p r) (rows_found p rs)

pub found_append : (p : ℕ) (rs qs : List Row) → rows_found p (rs ++ qs) ≡ either (rows_found p rs) (rows_found p qs)
found_append p [] qs = refl
found_append p (r ∷ rs) qs = ap (either (found p r)) (found_append p rs qs) ∙ sym (either_assoc (found p r) (rows_found p rs) (rows_found p qs))

total_append : (p : ℕ) (rs qs : List Row) → total p (rs ++ qs) ≡ total p rs + total p qs
total_append p [] qs = omega arith
total_append p (r ∷ rs) qs = omega (arith, total_append p rs qs)

in_first : (r : Row) (rs qs : List Row) → Within r rs → Within r (rs ++ qs)
in_first r [] qs w = absurd w
in_first r (q ∷ rs) qs (inl e) = inl e
in_first r (q ∷ rs) qs (inr w) = inr (in_first r rs qs w)

in_second : (r : Row) (rs qs : List Row) → Within r qs → Within r (rs ++ qs)
in_second r [] qs w = w
in_second r (q ∷ rs) qs w = inr (in_second r rs qs w)

within_total : (p : ℕ) (r : Row) (rs : List Row) → Within r rs → mark p r ≤ total p rs
within_total p r [] w = absurd w
within_total p r (q ∷ rs) (inl e) = omega (arith, ap (mark p) e)
within_total p r (q ∷ rs) (inr w) = omega (arith, within_total p r rs w)

one_row : (p : ℕ) (r : Row) (f : Found) (rs : List Row) → Within r rs → found p r ≡ Some f → total p rs ≤ 1 → rows_found p rs ≡ Some f
one_row p r f [] w e h = absurd w
one_row p r f (q ∷ rs) (inl d) e h = ap (λ o. either o (rows_found p rs)) (ap (found p) d ∙ e)
one_row p r f (q ∷ rs) (inr w) e h =
    ap (λ o. either o (rows_found p rs)) (nothing_found p q (omega (arith, h, some_marked p r f e, within_total p r rs w)))
    ∙ one_row p r f rs w e (omega (arith, h))

-- ---- the rows of a state

abbrev pub all_rows : State → List Row
all_rows s = frame_rows s.frames ++ (s.making ∷ (account_rows s.accounts ++ contract_rows s.contracts))

frames_found : (p : ℕ) (fs : List Frame) → found_in_frames p fs ≡ rows_found p (frame_rows fs)
frames_found p [] = refl
frames_found p (f ∷ fs) = ap (λ o. either (found p f.variables) (either (found p f.before) (either (found p f.result) o))) (frames_found p fs)

accounts_found : (p : ℕ) (all : List Account) → found_in_accounts p all ≡ rows_found p (account_rows all)
accounts_found p [] = refl
accounts_found p (a ∷ all) = ap (either (found p a.stored)) (accounts_found p all)

contracts_found : (p : ℕ) (all : List Contract) → found_in_contracts p all ≡ rows_found p (contract_rows all)
contracts_found p [] = refl
contracts_found p (c ∷ all) = ap (either (found p c.value)) (contracts_found p all)

at_rows : (p : ℕ) (s : State) → at p s ≡ rows_found p (all_rows s)
at_rows p s =
    (λ i. either (frames_found p s.frames i) (either (found p s.making) (either (accounts_found p s.accounts i) (contracts_found p s.contracts i))))
    ∙ ap (λ o. either (rows_found p (frame_rows s.frames)) (either (found p s.making) o)) (sym (found_append p (account_rows s.accounts) (contract_rows s.contracts)))
    ∙ sym (found_append p (frame_rows s.frames) (s.making ∷ (account_rows s.accounts ++ contract_rows s.contracts)))

rows_total : (p : ℕ) (s : State) → total p (all_rows s) ≡ whole p s
rows_total p s = omega (
  arith,
  total_append p (frame_rows s.frames) (s.making ∷ (account_rows s.accounts ++ contract_rows s.contracts)),
  total_append p (account_rows s.accounts) (contract_rows s.contracts),
)

bit : (b : Bool) → (if b then 1 else 0) ≤ 1
bit true = omega arith
bit false = omega arith

pub once_whole : (p : ℕ) (s : State) → AreGivenOnce s → whole p s ≤ 1
once_whole p s once = omega (arith, labels_whole p s, once p, bit (nat_lt p s.next_label))

at_found : (p : ℕ) (r : Row) (f : Found) (s : State) → AreGivenOnce s → Within r (all_rows s) → found p r ≡ Some f → at p s ≡ Some f
at_found p r f s once w e = at_rows p s ∙ one_row p r f (all_rows s) w e (omega (arith, rows_total p s, once_whole p s once))

-- ---- which of them a root is

frames_append : (fs gs : List Frame) → frame_rows (fs ++ gs) ≡ frame_rows fs ++ frame_rows gs
frames_append [] gs = refl
frames_append (f ∷ fs) gs = ap (λ rs. f.variables ∷ f.before ∷ f.result ∷ rs) (frames_append fs gs)

turned_rows : (f : Frame) (fs : List Frame) → frame_rows (reverse (f ∷ fs)) ≡ frame_rows (reverse fs) ++ frame_rows (f ∷ [])
turned_rows f fs = ap frame_rows (reverse-cons f fs) ∙ frames_append (reverse fs) (f ∷ [])

in_call : (r : Row) (cs : List Call) (i : ℕ) (c : Call) → slice_get cs i ≡ Some c → Within r (frame_rows (frame_of c ∷ [])) → Within r (frame_rows (reverse (map frame_of cs)))
in_call r [] i c e w = absurd (true≢false (ap is_there (sym e)))
in_call r (d ∷ cs) zero c e w = subst (Within r) (sym (turned_rows (frame_of d) (map frame_of cs)))
    (in_second r (frame_rows (reverse (map frame_of cs))) (frame_rows (frame_of d ∷ [])) (subst (λ o. Within r (rows_of o)) (sym e) w))
  where
    rows_of : Option Call → List Row
    rows_of None = []
    rows_of (Some x) = frame_rows (frame_of x ∷ [])
in_call r (d ∷ cs) (suc i) c e w = subst (Within r) (sym (turned_rows (frame_of d) (map frame_of cs)))
    (in_first r (frame_rows (reverse (map frame_of cs))) (frame_rows (frame_of d ∷ [])) (in_call r cs i c e w))

in_accounts : (r : Row) (all : List Account) (i : ℕ) (a : Account) → slice_get all i ≡ Some a → a.stored ≡ r → Within r (account_rows all)
in_accounts r [] i a e w = absurd (true≢false (ap is_there (sym e)))
in_accounts r (b ∷ all) zero a e w = inl (ap row_of e ∙ w)
  where
    row_of : Option Account → Row
    row_of None = r
    row_of (Some x) = x.stored
in_accounts r (b ∷ all) (suc i) a e w = inr (in_accounts r all i a e w)

-- in one that the run has
in_held : (w : List Account) (r : Row) (all : Accounts) (i : ℕ) (c : AccountCode) → account_in all i ≡ Some c → pure_row c.stored.items ≡ r → Within r (account_rows (accounts_over w all))
in_held w r all i c e d = in_accounts r (accounts_over w all) i (account_of c) (held_get w all i c e) d

in_contract : (r : Row) (cs : List ContractCode) (i : ℕ) (c : ContractCode) → slice_get cs i ≡ Some c → pure_row c.value.items ≡ r → Within r (contract_rows (map contract_of cs))
in_contract r [] i c e w = absurd (true≢false (ap is_there (sym e)))
in_contract r (d ∷ cs) zero c e w = inl (ap row_of e ∙ w)
  where
    row_of : Option ContractCode → Row
    row_of None = r
    row_of (Some x) = pure_row x.value.items
in_contract r (d ∷ cs) (suc i) c e w = inr (in_contract r cs i c e w)

abbrev or_row : List Place → Option (List Place) → List Place
or_row ps None = ps
or_row ps (Some qs) = qs

stands_in : (w : List Account) (x : RunState) (at_root : Root) (ps : List Place) → row_at at_root x ≡ Some ps → Within (pure_row ps) (all_rows (state_over w x))
stands_in w x (root.Variables i) ps e = go (slice_get x.calls.items i) refl e
  where
    go : (o : Option Call) → slice_get x.calls.items i ≡ o → option_map (λ c. c.variables.items) o ≡ Some ps → Within (pure_row ps) (all_rows (state_over w x))
    go None q e2 = absurd (true≢false (ap is_there (sym e2)))
    go (Some c) q e2 = in_first (pure_row ps) (frame_rows (reverse (map frame_of x.calls.items))) (pure_row x.making.items ∷ (account_rows (state_over w x).accounts ++ contract_rows (map contract_of x.contracts.items)))
        (in_call (pure_row ps) x.calls.items i c q (inl (ap (λ o. pure_row (or_row ps o)) e2)))
stands_in w x (root.Before i) ps e = go (slice_get x.calls.items i) refl e
  where
    go : (o : Option Call) → slice_get x.calls.items i ≡ o → option_map (λ c. c.before.items) o ≡ Some ps → Within (pure_row ps) (all_rows (state_over w x))
    go None q e2 = absurd (true≢false (ap is_there (sym e2)))
    go (Some c) q e2 = in_first (pure_row ps) (frame_rows (reverse (map frame_of x.calls.items))) (pure_row x.making.items ∷ (account_rows (state_over w x).accounts ++ contract_rows (map contract_of x.contracts.items)))
        (in_call (pure_row ps) x.calls.items i c q (inr (inl (ap (λ o. pure_row (or_row ps o)) e2))))
stands_in w x (root.Result i) ps e = go (slice_get x.calls.items i) refl e
  where
    go : (o : Option Call) → slice_get x.calls.items i ≡ o → option_map (λ c. c.result.items) o ≡ Some ps → Within (pure_row ps) (all_rows (state_over w x))
    go None q e2 = absurd (true≢false (ap is_there (sym e2)))
    go (Some c) q e2 = in_first (pure_row ps) (frame_rows (reverse (map frame_of x.calls.items))) (pure_row x.making.items ∷ (account_rows (state_over w x).accounts ++ contract_rows (map contract_of x.contracts.items)))
        (in_call (pure_row ps) x.calls.items i c q (inr (inr (inl (ap (λ o. pure_row (or_row ps o)) e2)))))
stands_in w x root.Making ps e = in_second (pure_row ps) (frame_rows (reverse (map frame_of x.calls.items))) (pure_row x.making.items ∷ (account_rows (state_over w x).accounts ++ contract_rows (map contract_of x.contracts.items)))
    (inl (ap (λ o. pure_row (or_row ps o)) e))
stands_in w x (root.Stored i) ps e = go (account_in x.accounts i) refl e
  where
    go : (o : Option AccountCode) → account_in x.accounts i ≡ o → option_map (λ a. a.stored.items) o ≡ Some ps → Within (pure_row ps) (all_rows (state_over w x))
    go None q e2 = absurd (true≢false (ap is_there (sym e2)))
    go (Some c) q e2 = in_second (pure_row ps) (frame_rows (reverse (map frame_of x.calls.items))) (pure_row x.making.items ∷ (account_rows (state_over w x).accounts ++ contract_rows (map contract_of x.contracts.items)))
        (inr (in_first (pure_row ps) (account_rows (state_over w x).accounts) (contract_rows (map contract_of x.contracts.items)) (in_held w (pure_row ps) x.accounts i c q (ap (λ o. pure_row (or_row ps o)) e2))))
stands_in w x (root.Contract i) ps e = go (slice_get x.contracts.items i) refl e
  where
    go : (o : Option ContractCode) → slice_get x.contracts.items i ≡ o → option_map (λ c. c.value.items) o ≡ Some ps → Within (pure_row ps) (all_rows (state_over w x))
    go None q e2 = absurd (true≢false (ap is_there (sym e2)))
    go (Some c) q e2 = in_second (pure_row ps) (frame_rows (reverse (map frame_of x.calls.items))) (pure_row x.making.items ∷ (account_rows (state_over w x).accounts ++ contract_rows (map contract_of x.contracts.items)))
        (inr (in_second (pure_row ps) (account_rows (state_over w x).accounts) (contract_rows (map contract_of x.contracts.items)) (in_contract (pure_row ps) x.contracts.items i c q (ap (λ o. pure_row (or_row ps o)) e2))))

-- what is found in a row of the state is found in the state
pub found_in_state : (w : List Account) (x : RunState) (at_root : Root) (p : ℕ) (ps : List Place) (f : Found) → IsReady w x → row_at at_root x ≡ Some ps → found p (pure_row ps) ≡ Some f → at p (state_over w x) ≡ Some f
found_in_state w x at_root p ps f ready e d = at_found p (pure_row ps) f (state_over w x) ready.once (stands_in w x at_root ps e) d

pub row_mark : (w : List Account) (x : RunState) (at_root : Root) (p : ℕ) (ps : List Place) → IsReady w x → row_at at_root x ≡ Some ps → mark p (pure_row ps) ≤ 1
row_mark w x at_root p ps ready e = omega (
  arith,
  within_total p (pure_row ps) (all_rows (state_over w x)) (stands_in w x at_root ps e),
  rows_total p (state_over w x),
  once_whole p (state_over w x) ready.once,
)

-- what a way leads to is the node of its labels
pub reached_in_state : IsTheNode → (w : List Account) (x : RunState) (at_root : Root) (ds : List ℕ) (p : ℕ) (f : Found) → IsReady w x → reached ds (row_at at_root x) ≡ Some f → is_one_of p f.labels ≡ true
    → at p (state_over w x) ≡ Some f
reached_in_state only w x at_root ds p f ready e d = go (row_at at_root x) refl e
  where
    go : (o : Option (List Place)) → row_at at_root x ≡ o → reached ds o ≡ Some f → at p (state_over w x) ≡ Some f
    go None q e2 = absurd (true≢false (ap is_there (sym e2)))
    go (Some ps) q e2 = found_in_state w x at_root p ps f ready q (only p ds (pure_row ps) f (omega (arith, marks_mark p (pure_row ps), row_mark w x at_root p ps ready q)) e2 d).0

-- what its hint leads to is the node with a label
pub hinted_in_state : IsTheNode → (w : List Account) (x : RunState) (at_root : Root) (ds : List ℕ) (p : ℕ) (f : Found) → IsReady w x → if_labelled p (reached ds (row_at at_root x)) ≡ Some f → at p (state_over w x) ≡ Some f
hinted_in_state only w x at_root ds p f ready e = go (reached ds (row_at at_root x)) refl e
  where
    go : (o : Option Found) → reached ds (row_at at_root x) ≡ o → if_labelled p o ≡ Some f → at p (state_over w x) ≡ Some f
    go None q e2 = absurd (true≢false (ap is_there (sym e2)))
    go (Some g) q e2 = here (is_one_of p g.labels) refl e2
      where
        here : (b : Bool) → is_one_of p g.labels ≡ b → (if b then Some g else None) ≡ Some f → at p (state_over w x) ≡ Some f
        here true d e3 = reached_in_state only w x at_root ds p g ready q d ∙ e3
        here false d e3 = absurd (true≢false (ap is_there (sym e3)))

-- where a way leads to the node with a label in its row, there is one in the state
pub standing_there : (w : List Account) (x : RunState) (way : Way) (p : ℕ) → IsReady w x → Stands p x way → is_there (at p (state_over w x)) ≡ true
standing_there w x way p ready stands = go (row_at way.root x) refl stands.1
  where
    go : (o : Option (List Place)) → row_at way.root x ≡ o → is_there (found_in p o) ≡ true → is_there (at p (state_over w x)) ≡ true
    go None q h = absurd (true≢false (sym h))
    go (Some ps) q h = here (found p (pure_row ps)) refl h
      where
        here : (o : Option Found) → found p (pure_row ps) ≡ o → is_there o ≡ true → is_there (at p (state_over w x)) ≡ true
        here None d h2 = absurd (true≢false (sym h2))
        here (Some f) d h2 = ap is_there (found_in_state w x way.root p ps f ready q d)

-- ---- a search, row by row

pub frames_end : (p : ℕ) (fs gs : List Frame) → found_in_frames p (fs ++ gs) ≡ either (found_in_frames p fs) (found_in_frames p gs)
frames_end p [] gs = refl
frames_end p (f ∷ fs) gs =
    ap (λ o. either (found p f.variables) (either (found p f.before) (either (found p f.result) o))) (frames_end p fs gs)
    ∙ ap (λ o. either (found p f.variables) (either (found p f.before) o)) (sym (either_assoc (found p f.result) (found_in_frames p fs) (found_in_frames p gs)))
    ∙ ap (either (found p f.variables)) (sym (either_assoc (found p f.before) (either (found p f.result) (found_in_frames p fs)) (found_in_frames p gs)))
    ∙ sym (either_assoc (found p f.variables) (either (found p f.before) (either (found p f.result) (found_in_frames p fs))) (found_in_frames p gs))

calls_step : (p : ℕ) (cs : List Call) (i : ℕ) → i < length cs
    → found_in p (option_map (λ c. c.variables.items) (slice_get cs i)) ≡ None → found_in p (option_map (λ c. c.before.items) (slice_get cs i)) ≡ None → found_in p (option_map (λ c. c.result.items) (slice_get cs i)) ≡ None
    → found_in_frames p (reverse (map frame_of (drop (suc i) cs))) ≡ None → found_in_frames p (reverse (map frame_of (drop i cs))) ≡ None
calls_step p [] i h v b r none = absurd (omega (arith, h))
calls_step p (c ∷ cs) zero h v b r none =
    ap (found_in_frames p) (reverse-cons (frame_of c) (map frame_of cs)) ∙ frames_end p (reverse (map frame_of cs)) (frame_of c ∷ [])
    ∙ (λ i. either (none i) (either (v i) (either (b i) (either (r i) None))))
calls_step p (c ∷ cs) (suc i) h v b r none = calls_step p cs i (omega (arith, h)) v b r none

pub calls_turn : (p : ℕ) (x : RunState) (i j : ℕ) → i < length x.calls.items → j ≡ suc i → NotIn p x i → found_in_frames p (reverse (map frame_of (drop j x.calls.items))) ≡ None
    → found_in_frames p (reverse (map frame_of (drop i x.calls.items))) ≡ None
calls_turn p x i j h e away none = calls_step p x.calls.items i h away.0 away.1 away.2 (subst (λ k. found_in_frames p (reverse (map frame_of (drop k x.calls.items))) ≡ None) e none)

pub accounts_turn : (p : ℕ) (x : RunState) (i j r : ℕ) → j ≡ suc i → r ≡ index_in x.accounts i → found_in p (row_at (root.Stored r) x) ≡ None
    → ((k : ℕ) → k < i → found_in p (row_at (root.Stored (index_in x.accounts k)) x) ≡ None)
    → (k : ℕ) → k < j → found_in p (row_at (root.Stored (index_in x.accounts k)) x) ≡ None
accounts_turn p x i j r e at none before =
    one_more {P = λ k. found_in p (row_at (root.Stored (index_in x.accounts k)) x) ≡ None} i j e (subst (λ k. found_in p (row_at (root.Stored k) x) ≡ None) at none) before

contracts_step : (p : ℕ) (cs : List ContractCode) (i : ℕ) → i < length cs → found_in p (option_map (λ c. c.value.items) (slice_get cs i)) ≡ None
    → found_in_contracts p (map contract_of (drop i cs)) ≡ found_in_contracts p (map contract_of (drop (suc i) cs))
contracts_step p [] i h v = absurd (omega (arith, h))
contracts_step p (c ∷ cs) zero h v = ap (λ o. either o (found_in_contracts p (map contract_of cs))) v
contracts_step p (c ∷ cs) (suc i) h v = contracts_step p cs i (omega (arith, h)) v

pub contracts_turn : (p : ℕ) (x : RunState) (i j : ℕ) → i < length x.contracts.items → j ≡ suc i → found_in p (row_at (root.Contract i) x) ≡ None
    → found_in_contracts p (map contract_of (drop i x.contracts.items)) ≡ found_in_contracts p (map contract_of x.contracts.items)
    → found_in_contracts p (map contract_of (drop j x.contracts.items)) ≡ found_in_contracts p (map contract_of x.contracts.items)
contracts_turn p x i j h e none is = ap (λ k. found_in_contracts p (map contract_of (drop k x.contracts.items))) e ∙ sym (contracts_step p x.contracts.items i h none) ∙ is

-- in all rows
pub nowhere : (w : List Account) (x : RunState) (p : ℕ) → found_in_accounts p w ≡ None → found_in_frames p (reverse (map frame_of x.calls.items)) ≡ None → found p (pure_row x.making.items) ≡ None
    → NotStored p x → found_in_contracts p (map contract_of x.contracts.items) ≡ None → at p (state_over w x) ≡ None
nowhere w x p a f m h c = λ i. either (f i) (either (m i) (either (not_held p w x.accounts a h i) (c i)))

all_dropped : {A : Type 0} (xs : List A) (n : ℕ) → length xs ≤ n → drop n xs ≡ []
all_dropped [] n h = drop_nil n
  where
    drop_nil : {B : Type 0} (k : ℕ) → drop {A = B} k [] ≡ []
    drop_nil zero = refl
    drop_nil (suc k) = refl
all_dropped (x ∷ xs) zero h = absurd (omega (arith, h))
all_dropped (x ∷ xs) (suc n) h = all_dropped xs n (omega (arith, h))

pub calls_begin : (p : ℕ) (cs : List Call) (n : ℕ) → length cs ≤ n → found_in_frames p (reverse (map frame_of (drop n cs))) ≡ None
calls_begin p cs n h = ap (λ xs. found_in_frames p (reverse (map frame_of xs))) (all_dropped cs n h)

pub accounts_end : (p : ℕ) (x : RunState) (n : ℕ) → count_in x.accounts ≤ n → ((k : ℕ) → k < n → found_in p (row_at (root.Stored (index_in x.accounts k)) x) ≡ None) → NotStored p x
accounts_end p x n h none = each_held p x.accounts n h none

pub contracts_end : (p : ℕ) (cs : List ContractCode) (n : ℕ) → length cs ≤ n → found_in_contracts p (map contract_of (drop n cs)) ≡ found_in_contracts p (map contract_of cs) → found_in_contracts p (map contract_of cs) ≡ None
contracts_end p cs n h is = sym is ∙ ap (λ xs. found_in_contracts p (map contract_of xs)) (all_dropped cs n h)

pub hinted_some : IsTheNode → (x : RunState) (way : Way) (p : ℕ) (r : Option Node) → option_map pure_node r ≡ if_labelled p (reached way.down.items (row_at way.root x))
    → IfSome r (λ n. (w : List Account) → IsReady w x → at p (state_over w x) ≡ Some (pure_node n))
hinted_some only x way p None e = tt
hinted_some only x way p (Some n) e = λ w ready. hinted_in_state only w x way.root way.down.items p (pure_node n) ready (sym e)
