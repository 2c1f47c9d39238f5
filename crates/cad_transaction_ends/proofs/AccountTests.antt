-- Tests of what accounts store: of those that a run has, and of the others.
use Rattle.std.proofs.Common.{◌≡◌, ℕ, zero, suc, ◌+◌, ◌≤◌, ◌<◌, ◌==◌, ◌&&◌, Bool, true, false, if◌then◌else◌, List, [], ◌∷◌, map, length, Option, Some, None, option_map, refl, sym, ap, subst, ◌∙◌, true≢false, arith}
use Rattle.std.specs.Prelude.{slice_get, nat_le}
use Rattle.std.specs.List.{list_all}
use Rattle.std.proofs.Math.Bool.{and-false}
use Rattle.std.proofs.lemmas.Bool.{lt-leb, eqb-true}
use Rattle.std.proofs.lemmas.Option.{slice_get_within}
use Rattle.cad_state.proofs.Holding.{code_known, held_get}
use Rattle.cad_state.specs.Parts.{known_in, known_or, among, accounts_from}
use Rattle.cad_state.specs.Views.{account_of, accounts_over}
use Rattle.cad_state.specs.Ways.{is_there, code_in, account_in, count_in, index_or, index_in}
use Rattle.cad_state.specs.declared.state.Account.{Account}
use Rattle.cad_state.specs.declared.state.Accounts.{Accounts}
use Rattle.cad_state.specs.declared.state.Accounts.TheVariants as v
use Rattle.cad_state.specs.declared.state.Known.{Known}
use Rattle.cad_world.specs.Rows.{Row, stop}
use Rattle.cad_world.specs.State as s
use Rattle.cad_transaction_ends.specs.Code.AccountTests.{passes}

-- ---- all that the run has

code_place : (ks : List Known) (i : ℕ) (c : Account) → code_in ks i ≡ Some c → (n : ℕ) × (n < length ks) × ((d : ℕ) → index_or d (slice_get ks n) ≡ i)
code_place [] i c e = absurd (true≢false (ap is_there (sym e)))
code_place (k ∷ ks) i c e = go (k.index == i) refl (code_place ks i c) e
  where
    go : (b : Bool) → (k.index == i) ≡ b → (code_in ks i ≡ Some c → (n : ℕ) × (n < length ks) × ((d : ℕ) → index_or d (slice_get ks n) ≡ i)) → (if b then Some k.account else code_in ks i) ≡ Some c
        → (n : ℕ) × (n < suc (length ks)) × ((d : ℕ) → index_or d (slice_get (k ∷ ks) n) ≡ i)
    go true q rest d = (0, omega arith, λ x. eqb-true k.index i q)
    go false q rest d = let found = rest d in (suc found.0, omega (arith, found.1), found.2)

held_place : (all : Accounts) (i : ℕ) (c : Account) → account_in all i ≡ Some c → (n : ℕ) × (n < count_in all) × (index_in all n ≡ i)
held_place (v.All all) i c e = (i, slice_get_within all.items i c e, refl)
held_place (v.Part count known) i c e = go (nat_le count i) e
  where
    go : (b : Bool) → (if b then None else code_in known.items i) ≡ Some c → (n : ℕ) × (n < length known.items) × (index_in (v.Part count known) n ≡ i)
    go true d = absurd (true≢false (ap is_there (sym d)))
    go false d = let at = code_place known.items i c d in (at.0, at.1, at.2 at.0)

-- what each of them stores passes
pub each_passes : (test : Row → Bool) (all : Accounts) (n : ℕ) → count_in all ≤ n → ((j : ℕ) → j < n → passes test (account_in all (index_in all j)) ≡ true) → (i : ℕ) → passes test (account_in all i) ≡ true
each_passes test all n h each i = go (account_in all i) refl
  where
    go : (o : Option Account) → account_in all i ≡ o → passes test (account_in all i) ≡ true
    go None q = ap (passes test) q
    go (Some c) q = let at = held_place all i c q in subst (λ k. passes test (account_in all k) ≡ true) at.2 (each at.0 (omega (arith, at.1, h)))

-- ---- all accounts

both_true : (a b : Bool) → (a && b) ≡ true → (a ≡ true) × (b ≡ true)
both_true true b e = (refl, e)
both_true false b e = absurd (true≢false (sym e))

all_pass : (test : Row → Bool) (all : List Account) → ((i : ℕ) → passes test (slice_get all i) ≡ true) → list_all (λ (a : s.Account). test a.stored) (map account_of all) ≡ true
all_pass test [] each = refl
all_pass test (a ∷ all) each = λ m. each 0 m && all_pass test all (λ k. each (suc k)) m

among_passes : (test : Row → Bool) (w : List s.Account) (j : ℕ) → test stop ≡ true → list_all (λ (a : s.Account). test a.stored) w ≡ true → test (among w j).stored ≡ true
among_passes test [] j none e = none
among_passes test (a ∷ w) zero none e = (both_true (test a.stored) (list_all (λ (a : s.Account). test a.stored) w) e).0
among_passes test (a ∷ w) (suc j) none e = among_passes test w j none (both_true (test a.stored) (list_all (λ (a : s.Account). test a.stored) w) e).1

from_passes : (test : Row → Bool) (w : List s.Account) (ks : List Known) (i n : ℕ) → ((j : ℕ) → j < i + n → test (known_or (among w j) (known_in ks j)).stored ≡ true)
    → list_all (λ (a : s.Account). test a.stored) (accounts_from w ks i n) ≡ true
from_passes test w ks i zero each = refl
from_passes test w ks i (suc n) each = λ m. each i (omega arith) m && from_passes test w ks (suc i) n (λ j h. each j (omega (arith, h))) m

-- what all accounts store passes, where it does in those that the run has and in those that it doesn't have
pub pass_over : (test : Row → Bool) (w : List s.Account) (all : Accounts) → test stop ≡ true → list_all (λ (a : s.Account). test a.stored) w ≡ true → ((i : ℕ) → passes test (account_in all i) ≡ true)
    → list_all (λ (a : s.Account). test a.stored) (accounts_over w all) ≡ true
unfolding accounts_over
pass_over test w (v.All all) none e each = all_pass test all.items each
pass_over test w (v.Part count known) none e each = from_passes test w known.items 0 count (λ j h. one j (omega (arith, h)))
  where
    go : (j : ℕ) (o : Option Account) → passes test o ≡ true → test (known_or (among w j) (option_map account_of o)).stored ≡ true
    go j None p = among_passes test w j none e
    go j (Some c) p = p

    one : (j : ℕ) → j < count → test (known_or (among w j) (known_in known.items j)).stored ≡ true
    one j h =
        ap (λ o. test (known_or (among w j) o).stored) (code_known known.items j)
        ∙ go j (code_in known.items j) (ap (λ b. passes test (if b then None else code_in known.items j)) (sym (lt-leb count j h)) ∙ each j)

some_is : {A : Type 0} (a b : A) → Some a ≡ Some b → a ≡ b
some_is a b e = cc

got_fails : (test : s.Account → Bool) (xs : List s.Account) (i : ℕ) (a : s.Account) → slice_get xs i ≡ Some a → test a ≡ false → list_all test xs ≡ false
got_fails test [] i a e f = absurd (true≢false (ap is_there (sym e)))
got_fails test (x ∷ xs) zero a e f = ap (λ b. b && list_all test xs) (ap test (some_is x a e) ∙ f)
got_fails test (x ∷ xs) (suc i) a e f = ap (λ b. test x && b) (got_fails test xs i a e f) ∙ and-false (test x)

-- one that the run has doesn't pass
pub fails_over : (test : Row → Bool) (w : List s.Account) (all : Accounts) (i : ℕ) → passes test (account_in all i) ≡ false → list_all (λ (a : s.Account). test a.stored) (accounts_over w all) ≡ false
fails_over test w all i f = go (account_in all i) refl f
  where
    go : (o : Option Account) → account_in all i ≡ o → passes test o ≡ false → list_all (λ (a : s.Account). test a.stored) (accounts_over w all) ≡ false
    go None q d = absurd (true≢false d)
    go (Some c) q d = got_fails (λ a. test a.stored) (accounts_over w all) i (account_of c) (held_get w all i c q) d
