-- Accounts by their addresses: what is found, and what changes there.
use Rattle.std.proofs.Common.{◌≡◌, ◌<◌, ◌≤◌, ℕ, zero, suc, ◌+◌, true, List, [], ◌∷◌, Option, Some, None, Result, Ok, Err, OnOk, IfOk, map, option_map, length, get_or, refl, sym, ap, ◌∙◌, arith}
use Rattle.std.specs.Option.{is_some}
use Rattle.std.specs.Prelude.{slice_get, slice_set}
use Rattle.std.specs.declared.alloc.AllocError.{AllocError}
use Rattle.std.specs.declared.alloc.Global.{Global}
use Rattle.std.specs.declared.vec.Vec.{Vec}
use Rattle.std.proofs.lemmas.List.{length-map}
use Rattle.std.proofs.lemmas.Option.{slice_get_past}
use Rattle.cad_rows.specs.Views.{pure_tree}
use Rattle.cad_rows.specs.declared.tree.Tree.{Tree}
use Rattle.cad_world.specs.Labels.{account_at, change_account}
use Rattle.cad_world.specs.State as s
use Rattle.cad_state.proofs.Holding.{code_known, from_get, held_get, place_code, known_written}
use Rattle.cad_state.specs.Parts.{known_in, known_or, among, accounts_from, with_known}
use Rattle.cad_state.specs.Views.{account_of, accounts_over}
use Rattle.cad_state.specs.Ways.{is_there, account_in, place_in, at_index}
use Rattle.cad_state.specs.declared.state.Account.{Account}
use Rattle.cad_state.specs.declared.state.Accounts.{Accounts}
use Rattle.cad_state.specs.declared.state.Accounts.TheVariants as v
use Rattle.cad_state.specs.declared.state.Known.{Known}
use Rattle.cad_run_accounts.specs.Code.Changing.{left_by}
use Rattle.cad_run_accounts.specs.declared.changes.Change.{Change}
use Rattle.cad_run_accounts.specs.declared.changes.Change.TheVariants as c

pub account_there : (all : List Account) (n i : ℕ) (a : Account) → n ≡ suc i → i < length all → a ≡ get_or all i a → Some (account_of a) ≡ account_at (map account_of all) n
account_there all n i a e h is = go all i h is ∙ ap (account_at (map account_of all)) (sym e)
  where
    go : (bs : List Account) (k : ℕ) → k < length bs → a ≡ get_or bs k a → Some (account_of a) ≡ account_at (map account_of bs) (suc k)
    go [] k h is = absurd (omega (arith, h))
    go (b ∷ bs) zero h is = ap (λ (x : Account). Some (account_of x)) is
    go (b ∷ bs) (suc k) h is = go bs k (omega (arith, h)) is

pub account_nowhere : (all : List Account) (n : ℕ) → ((i : ℕ) → n ≡ suc i → length all ≤ i) → None ≡ account_at (map account_of all) n
account_nowhere all zero h = none all
  where
    none : (bs : List Account) → None ≡ account_at (map account_of bs) zero
    none [] = refl
    none (b ∷ bs) = refl
account_nowhere all (suc i) h = go all i (h i refl)
  where
    go : (bs : List Account) (k : ℕ) → length bs ≤ k → None ≡ account_at (map account_of bs) (suc k)
    go [] k h = refl
    go (b ∷ bs) zero h = absurd (omega (arith, h))
    go (b ∷ bs) (suc k) h = go bs k (omega (arith, h))

pub changed_there : (g : s.Account → s.Account) (all : List Account) (n i : ℕ) (old new : Account) → n ≡ suc i → i < length all → old ≡ get_or all i old → account_of new ≡ g (account_of old)
    → map account_of (slice_set all i new) ≡ change_account n g (map account_of all)
changed_there g all n i old new e h is d = go all i h is ∙ ap (λ k. change_account k g (map account_of all)) (sym e)
  where
    go : (bs : List Account) (k : ℕ) → k < length bs → old ≡ get_or bs k old → map account_of (slice_set bs k new) ≡ change_account (suc k) g (map account_of bs)
    go [] k h is = absurd (omega (arith, h))
    go (b ∷ bs) zero h is = ap (λ (x : s.Account). x ∷ map account_of bs) (d ∙ ap (λ (x : Account). g (account_of x)) is)
    go (b ∷ bs) (suc k) h is = ap (λ (xs : List s.Account). account_of b ∷ xs) (go bs k (omega (arith, h)) is)

pub changed_nowhere : (g : s.Account → s.Account) (all : List Account) (n : ℕ) → ((i : ℕ) → n ≡ suc i → length all ≤ i) → map account_of all ≡ change_account n g (map account_of all)
changed_nowhere g all zero h = same all
  where
    same : (bs : List Account) → map account_of bs ≡ change_account zero g (map account_of bs)
    same bs = refl
changed_nowhere g all (suc i) h = go all i (h i refl)
  where
    go : (bs : List Account) (k : ℕ) → length bs ≤ k → map account_of bs ≡ change_account (suc k) g (map account_of bs)
    go [] k h = refl
    go (b ∷ bs) zero h = absurd (omega (arith, h))
    go (b ∷ bs) (suc k) h = ap (λ (xs : List s.Account). account_of b ∷ xs) (go bs k (omega (arith, h)))

-- ---- by index

get_at : (all : List s.Account) (i : ℕ) → account_at all (suc i) ≡ slice_get all i
get_at [] i = refl
get_at (a ∷ all) zero = refl
get_at (a ∷ all) (suc i) = get_at all i

get_none : (all : List s.Account) → None ≡ account_at all zero
get_none [] = refl
get_none (a ∷ all) = refl

nowhere_among : (all : List s.Account) (n : ℕ) → ((i : ℕ) → n ≡ suc i → length all ≤ i) → None ≡ account_at all n
nowhere_among all zero h = get_none all
nowhere_among all (suc i) h = sym (get_at all i ∙ slice_get_past all i (h i refl))

from_length : (w : List s.Account) (ks : List Known) (i n : ℕ) → length (accounts_from w ks i n) ≡ n
from_length w ks i zero = refl
from_length w ks i (suc n) = ap suc (from_length w ks (suc i) n)

pub total_all : (w : List s.Account) (x : Accounts) (all : Vec Account Global) (n : ℕ) → x ≡ v.All all → n ≡ length all.items → n ≡ length (accounts_over w x)
unfolding accounts_over
total_all w x all n is e = e ∙ sym (length-map all.items account_of) ∙ ap (λ y. length (accounts_over w y)) (sym is)

pub total_part : (w : List s.Account) (x : Accounts) (count : ℕ) (known : Vec Known Global) → x ≡ v.Part count known → count ≡ length (accounts_over w x)
unfolding accounts_over
total_part w x count known is = sym (from_length w known.items 0 count) ∙ ap (λ y. length (accounts_over w y)) (sym is)

-- in all that the state is over
pub found_there : (w : List s.Account) (all : Accounts) (n i : ℕ) (a : Account) → n ≡ suc i → account_in all i ≡ Some a → Some (account_of a) ≡ account_at (accounts_over w all) n
found_there w all n i a e is = sym (ap (account_at (accounts_over w all)) e ∙ get_at (accounts_over w all) i ∙ held_get w all i a is)

pub found_nowhere : (all : List s.Account) (n m : ℕ) → m ≡ length all → ((i : ℕ) → n ≡ suc i → m ≤ i) → None ≡ account_at all n
found_nowhere all n m total h = nowhere_among all n (λ i e. omega (arith, total, h i e))

pub is_one : (all : List s.Account) (n i m : ℕ) → n ≡ suc i → i < m → m ≡ length all → is_some (account_at all n) ≡ true
is_one all n i m e h total =
    ap (λ k. is_some (account_at all k)) e ∙ ap is_some (get_at all i) ∙ go all i (omega (arith, h, total))
  where
    go : (xs : List s.Account) (k : ℕ) → k < length xs → is_some (slice_get xs k) ≡ true
    go [] k below = absurd (omega (arith, below))
    go (x ∷ xs) zero below = refl
    go (x ∷ xs) (suc k) below = go xs k (omega (arith, below))

pub known_there : (all : Accounts) (n i : ℕ) (a : Account) → n ≡ suc i → account_in all i ≡ Some a → (j : ℕ) → n ≡ suc j → is_there (account_in all j) ≡ true
known_there all n i a e is j d = let same : j ≡ i = omega (arith, e, d) in ap (λ k. is_there (account_in all k)) same ∙ ap is_there is

-- ---- a change among those that are known

change_get : (g : s.Account → s.Account) (all : List s.Account) (i : ℕ) → change_account (suc i) g all ≡ at_index i g all
change_get g [] i = refl
change_get g (a ∷ all) zero = refl
change_get g (a ∷ all) (suc i) = ap (λ (xs : List s.Account). a ∷ xs) (change_get g all i)

index_past : (g : s.Account → s.Account) (all : List s.Account) (i : ℕ) → length all ≤ i → all ≡ at_index i g all
index_past g [] i h = refl
index_past g (a ∷ all) zero h = absurd (omega (arith, h))
index_past g (a ∷ all) (suc i) h = ap (λ (xs : List s.Account). a ∷ xs) (index_past g all i (omega (arith, h)))

change_none : (g : s.Account → s.Account) (all : List s.Account) → all ≡ change_account zero g all
change_none g all = refl

pub known_changed : {A E : Type 0} (r : Result A E) (ks : List Known) (count n i k : ℕ) (g : s.Account → s.Account) (old one : Known) → n ≡ suc i → i < count → place_in ks i ≡ Some k → old ≡ get_or ks k old → one.index ≡ old.index
    → OnOk r (account_of one.account ≡ g (account_of old.account)) → OnOk r ((w : List s.Account) → with_known w count (slice_set ks k one) ≡ change_account n g (with_known w count ks))
known_changed (Ok a) ks count n i k g old one e below at is kept change = λ w.
    known_written w ks count i k g old one at is kept change below ∙ sym (ap (λ m. change_account m g (with_known w count ks)) e ∙ change_get g (with_known w count ks) i)
known_changed (Err error) ks count n i k g old one e below at is kept change = tt

pub known_left : (r : Result (Option Tree) AllocError) (x : Change) (ks : List Known) (count n i k : ℕ) (old : Known) → n ≡ suc i → i < count → place_in ks i ≡ Some k → old ≡ get_or ks k old
    → IfOk r (λ o. option_map pure_tree o ≡ left_by x (Some (account_of old.account))) → IfOk r (λ o. (w : List s.Account) → option_map pure_tree o ≡ left_by x (account_at (with_known w count ks) n))
known_left (Ok o) x ks count n i k old e below at is h = λ w.
    let zeroed : 0 + i ≡ i = omega arith in
    let there : account_at (with_known w count ks) n ≡ Some (account_of old.account) =
    ap (account_at (with_known w count ks)) e ∙ get_at (with_known w count ks) i ∙ from_get w ks 0 count i below ∙ (λ m. Some (known_or (among w (zeroed m)) (known_in ks (zeroed m))))
    ∙ ap (λ a. Some (known_or (among w i) a)) (code_known ks i ∙ ap (option_map account_of) (place_code ks i k old at is).0) in
    h ∙ ap (left_by x) (sym there)
known_left (Err error) x ks count n i k old e below at is h = tt

pub known_nowhere : (ks : List Known) (count n : ℕ) (g : s.Account → s.Account) → ((i : ℕ) → n ≡ suc i → count ≤ i) → (w : List s.Account) → with_known w count ks ≡ change_account n g (with_known w count ks)
known_nowhere ks count zero g h w = change_none g (with_known w count ks)
known_nowhere ks count (suc i) g h w =
    let past : length (with_known w count ks) ≤ i = omega (arith, from_length w ks 0 count, h i refl) in
    index_past g (with_known w count ks) i past ∙ sym (change_get g (with_known w count ks) i)

pub no_known : (ks : List Known) (count n : ℕ) → ((i : ℕ) → n ≡ suc i → count ≤ i) → (w : List s.Account) → None ≡ account_at (with_known w count ks) n
no_known ks count n h w = nowhere_among (with_known w count ks) n (λ i e. omega (arith, from_length w ks 0 count, h i e))

-- where there is no account, nothing leaves it
pub nothing_left : (x : Change) → None ≡ left_by x None
nothing_left (c.Label name label) = refl
nothing_left (c.Store name t) = refl
nothing_left (c.Take name) = refl
nothing_left (c.Publish p) = refl
nothing_left (c.Unpublish name) = refl
nothing_left (c.Issue type target) = refl
nothing_left (c.Edit n edit) = refl
nothing_left (c.Remove n) = refl
