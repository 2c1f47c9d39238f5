-- In which account a node stands.
use Rattle.std.proofs.Common.{◌≡◌, ◌<◌, ◌≤◌, ℕ, zero, suc, ◌+◌, true, false, List, [], ◌∷◌, Option, Some, None, Result, Ok, Err, IfOk, map, option_map, Bool, refl, sym, ap, ◌∙◌, true≢false, arith}
use Rattle.std.specs.Prelude.{if◌then◌else◌, slice_get}
use Rattle.cad_syntax.specs.declared.address.Address.{Address}
use Rattle.cad_world.specs.Labels.{found_in_accounts}
use Rattle.cad_world.specs.Rows.{Row, Found, found}
use Rattle.cad_world.specs.State.{Account, State}
use Rattle.cad_evaluation.specs.Builtins.{stands_in, home, home_in_accounts, home_in_contracts}
use Rattle.cad_labels.proofs.Marks.{mark, nothing_found}
use Rattle.cad_labels.proofs.States.{account_rows, total, whole}
use Rattle.cad_state.proofs.Changes.{account_marked}
use Rattle.cad_state.proofs.Holding.{held_get, either_none, not_held}
use Rattle.cad_state.proofs.Nodes.{some_marked}
use Rattle.cad_state.proofs.Standing.{once_whole, accounts_turn, accounts_end}
use Rattle.cad_rows.specs.Views.{pure_row}
use Rattle.cad_rows.specs.declared.tree.Place.{Place}
use Rattle.cad_state.specs.Views.{state_over, account_of, accounts_over, contract_of, IsReady}
use Rattle.cad_state.specs.Ways.{is_there, account_in, count_in, index_in, found_in, row_at}
use Rattle.cad_state.specs.declared.hints.Root.TheVariants as root
use Rattle.cad_state.specs.declared.state.Account.{Account as AccountCode}
use Rattle.cad_state.specs.declared.state.Contract.{Contract}
use Rattle.cad_state.specs.declared.state.RunState.{RunState}

-- ---- in a row

pub stands_there : (l : ℕ) (r : Row) (f : Option Found) → Some f ≡ option_map Some (found l r) → true ≡ stands_in l r
stands_there l r f e = go (found l r) refl e
  where
    go : (g : Option Found) → found l r ≡ g → Some f ≡ option_map Some g → true ≡ stands_in l r
    go None q h = absurd (cc h)
    go (Some a) q h = rw q refl

-- nothing is found
abbrev pub found_none : Option (Option Found)
found_none = None

pub stands_nowhere : (l : ℕ) (r : Row) → found_none ≡ option_map Some (found l r) → false ≡ stands_in l r
stands_nowhere l r e = go (found l r) refl e
  where
    go : (g : Option Found) → found l r ≡ g → found_none ≡ option_map Some g → false ≡ stands_in l r
    go None q h = rw q refl
    go (Some a) q h = absurd (cc h)

none_there : (o : Option Found) → false ≡ is_there o → o ≡ None
none_there None e = refl
none_there (Some f) e = absurd (true≢false (sym e))

stands_so : (l : ℕ) (r : Row) → is_there (found l r) ≡ true → true ≡ stands_in l r
stands_so l r e = go (found l r) refl e
  where
    go : (g : Option Found) → found l r ≡ g → is_there g ≡ true → true ≡ stands_in l r
    go None q h = absurd (true≢false (sym h))
    go (Some a) q h = rw q refl

stands_not : (l : ℕ) (r : Row) → found l r ≡ None → false ≡ stands_in l r
stands_not l r e = rw e refl

marked_so : (l : ℕ) (r : Row) → is_there (found l r) ≡ true → 1 ≤ mark l r
marked_so l r e = go (found l r) refl e
  where
    go : (g : Option Found) → found l r ≡ g → is_there g ≡ true → 1 ≤ mark l r
    go None q h = absurd (true≢false (sym h))
    go (Some a) q h = some_marked l r a q

pub stands_as : (l : ℕ) (r : Row) → stands_in l r ≡ is_there (found l r)
stands_as l r = go (found l r) refl
  where
    go : (g : Option Found) → found l r ≡ g → stands_in l r ≡ is_there (found l r)
    go None q = rw q refl
    go (Some a) q = rw q refl

-- nowhere
abbrev pub no_address : Option Address
no_address = None

abbrev pub no_account : Option AccountCode
no_account = None

-- ---- in the accounts

abbrev or_account : Account → Option Account → Account
or_account a None = a
or_account a (Some b) = b

abbrev pub some_address : ℕ → Option Address
some_address n = Some (record { 0 = n })

-- a node that is found in one of them is in no other
home_at : (l : ℕ) (all : List Account) (i n : ℕ) (a : Account) → slice_get all i ≡ Some a → is_there (found l a.stored) ≡ true → total l (account_rows all) ≤ 1 → some_address (n + i) ≡ home_in_accounts l n all
home_at l [] i n a e there once = absurd (true≢false (ap is_there (sym e)))
home_at l (b ∷ all) zero n a e there once =
    let same : b ≡ a = ap (or_account a) e in
    let here : true ≡ stands_in l b.stored = stands_so l b.stored (ap (λ (x : Account). is_there (found l x.stored)) same ∙ there) in
    let at : n + 0 ≡ n = omega arith in
    ap some_address at ∙ ap (λ t. if t then some_address n else home_in_accounts l (suc n) all) here
home_at l (b ∷ all) (suc i) n a e there once =
    let inner : mark l a.stored ≤ total l (account_rows all) = account_marked l all i a e in
    let one : 1 ≤ mark l a.stored = marked_so l a.stored there in
    let other : false ≡ stands_in l b.stored = stands_not l b.stored (nothing_found l b.stored (omega (arith, once, inner, one))) in
    let at : n + suc i ≡ suc n + i = omega arith in
    ap some_address at ∙ home_at l all i (suc n) a e there (omega (arith, once)) ∙ ap (λ t. if t then some_address n else home_in_accounts l (suc n) all) other

pub home_there : (l : ℕ) (w : List Account) (x : RunState) (i n : ℕ) → IsReady w x → true ≡ is_there (found_in l (row_at (root.Stored i) x)) → n ≡ suc i → some_address n ≡ home_in_accounts l 1 (accounts_over w x.accounts)
home_there l w x i n ready there e = go (account_in x.accounts i) refl (sym there)
  where
    go : (o : Option AccountCode) → account_in x.accounts i ≡ o → is_there (found_in l (option_map (λ a. a.stored.items) o)) ≡ true → some_address n ≡ home_in_accounts l 1 (accounts_over w x.accounts)
    go None q h = absurd (true≢false (sym h))
    go (Some c) q h =
        let whole_once : whole l (state_over w x) ≤ 1 = once_whole l (state_over w x) ready.once in
        let at : n ≡ 1 + i = omega (arith, e) in
        ap some_address at ∙ home_at l (accounts_over w x.accounts) i 1 (account_of c) (held_get w x.accounts i c q) h (omega (arith, whole_once))

home_none : (l n : ℕ) (all : List Account) → found_in_accounts l all ≡ None → no_address ≡ home_in_accounts l n all
home_none l n [] e = refl
home_none l n (a ∷ all) e =
    let parts = either_none (found l a.stored) (found_in_accounts l all) e in
    home_none l (suc n) all parts.1 ∙ ap (λ t. if t then some_address n else home_in_accounts l (suc n) all) (stands_not l a.stored parts.0)

-- not in the first so many of those that the run has
abbrev pub NotBefore : ℕ → RunState → ℕ → Type 0
NotBefore l x n = (k : ℕ) → k < n → found_in l (row_at (root.Stored (index_in x.accounts k)) x) ≡ None

pub turn_in_accounts : (l : ℕ) (x : RunState) (n m i : ℕ) → m ≡ suc n → i ≡ index_in x.accounts n → false ≡ is_there (found_in l (row_at (root.Stored i) x)) → NotBefore l x n → NotBefore l x m
turn_in_accounts l x n m i e at other before = accounts_turn l x n m i e at (none_there (found_in l (row_at (root.Stored i) x)) other) before

pub home_nowhere : (l : ℕ) (x : RunState) (n : ℕ) → count_in x.accounts ≤ n → NotBefore l x n → (w : List Account) → IsReady w x → no_address ≡ home_in_accounts l 1 (accounts_over w x.accounts)
home_nowhere l x n h before w ready = home_none l 1 (accounts_over w x.accounts) (not_held l w x.accounts (ready.unnamed l) (accounts_end l x n h before))

-- in one of those that the run has
pub stored_there : {E : Type 0} (r : Result Bool E) (l i : ℕ) (x : RunState) (a : AccountCode) (row : List Place) → Some a ≡ account_in x.accounts i → row ≡ a.stored.items
    → IfOk r (λ b. b ≡ stands_in l (pure_row row)) → IfOk r (λ b. b ≡ is_there (found_in l (row_at (root.Stored i) x)))
stored_there (Ok b) l i x a row e at h =
    h ∙ stands_as l (pure_row row) ∙ ap (λ ps. is_there (found l (pure_row ps))) at ∙ ap (λ o. is_there (found_in l (option_map (λ (y : AccountCode). y.stored.items) o))) e
stored_there (Err error) l i x a row e at h = tt

pub stored_nowhere : (l i : ℕ) (x : RunState) → no_account ≡ account_in x.accounts i → false ≡ is_there (found_in l (row_at (root.Stored i) x))
stored_nowhere l i x e = ap (λ o. is_there (found_in l (option_map (λ (y : AccountCode). y.stored.items) o))) e

-- ---- in a state

pub home_by_storage : (l : ℕ) (s : State) (a : Address) → Some a ≡ home_in_accounts l 1 s.accounts → Some a ≡ home s l
home_by_storage l s a e = rw (← e) refl

pub home_by_contract : (l : ℕ) (s : State) → None ≡ home_in_accounts l 1 s.accounts → home_in_contracts l s.contracts ≡ home s l
home_by_contract l s e = rw (← e) refl

pub home_by_contracts : {E : Type 0} (r : Result (Option Address) E) (l : ℕ) (x : RunState) (cs : List Contract) → cs ≡ x.contracts.items
    → ((w : List Account) → IsReady w x → no_address ≡ home_in_accounts l 1 (accounts_over w x.accounts)) → IfOk r (λ o. o ≡ home_in_contracts l (map contract_of cs))
    → IfOk r (λ o. (w : List Account) → IsReady w x → o ≡ home (state_over w x) l)
home_by_contracts (Ok o) l x cs at none h = λ w ready. h ∙ ap (λ all. home_in_contracts l (map contract_of all)) at ∙ home_by_contract l (state_over w x) (none w ready)
home_by_contracts (Err error) l x cs at none h = tt
