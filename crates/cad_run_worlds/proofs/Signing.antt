-- Which accounts are there, and how many.
use Rattle.std.proofs.Common.{◌≡◌, ◌⊎◌, inl, inr, ℕ, zero, suc, ◌≤◌, ◌<◌, ◌==◌, ◌&&◌, Bool, true, false, List, [], ◌∷◌, length, refl, sym, ap, ◌∙◌, arith}
use Rattle.std.proofs.lemmas.Bool.Decides.{eqb_tells, nat_tests}
use Rattle.std.proofs.lemmas.List.{length-map}
use Rattle.std.specs.Global.{Vec}
use Rattle.std.specs.Option.{is_some}
use Rattle.std.specs.Prelude.{nat_le}
use Rattle.cad_state.specs.Views.{account_of, accounts_over}
use Rattle.cad_state.specs.declared.state.Account as own
use Rattle.cad_state.specs.declared.state.Accounts.{Accounts}
use Rattle.cad_state.specs.declared.state.Accounts.TheVariants as v
use Rattle.cad_state.specs.declared.state.Known.{Known}
use Rattle.cad_world.specs.Labels.{account_at}
use Rattle.cad_world.specs.State.{Account}
use Rattle.cad_worlds.proofs.PartLaws.{length_from}

pub is_there : (all : List Account) (n : ℕ) → 1 ≤ n → n ≤ length all → is_some (account_at all n) ≡ true
is_there all zero low high = absurd (omega (arith, low))
is_there [] (suc n) low high = absurd (omega (arith, high))
is_there (a ∷ all) (suc zero) low high = refl
is_there (a ∷ all) (suc (suc n)) low high = is_there all (suc n) (omega arith) (omega (arith, high))

-- at zero the test by 1 fails, and there is none
pub is_before : (all : List Account) (n : ℕ) → n < 1 → nat_le 1 n ≡ is_some (account_at all n)
is_before all zero low = refl
is_before all (suc n) low = absurd (omega (arith, low))

pub is_behind : (all : List Account) (n : ℕ) → length all < n → is_some (account_at all n) ≡ false
is_behind all zero high = absurd (omega (arith, high))
is_behind [] (suc n) high = refl
is_behind (a ∷ all) (suc zero) high = absurd (omega (arith, high))
is_behind (a ∷ all) (suc (suc n)) high = is_behind all (suc n) (omega (arith, high))

within : (n m k : ℕ) → nat_le n m ≡ true → m ≡ k → n ≤ k
within n m k e is = grind (arith, nat_tests)

beyond : (n m k : ℕ) → nat_le n m ≡ false → m ≡ k → k < n
beyond n m k e is = grind (arith, nat_tests)

-- an address that isn't zero, tested by how many accounts there are
pub is_within : (all : List Account) (n m : ℕ) → 1 ≤ n → m ≡ length all → nat_le n m ≡ is_some (account_at all n)
is_within all n m low is = by (nat_le n m) refl
  where
    by : (b : Bool) → nat_le n m ≡ b → b ≡ is_some (account_at all n)
    by true e = sym (is_there all n low (within n m (length all) e is))
    by false e = sym (is_behind all n (beyond n m (length all) e is))

-- ---- as many signers as parameters

pub other_count : (b : Bool) (n m : ℕ) → (n ≡ m → ⊥) → false ≡ (b && (n == m))
other_count b n m differ = by b (n == m) (eqb_tells n m)
  where
    by : (x y : Bool) → (y ≡ true) × (n ≡ m) ⊎ (y ≡ false) × (n ≡ m → ⊥) → false ≡ (x && y)
    by x y (inl same) = absurd (differ same.1)
    by true y (inr other) = sym other.0
    by false y (inr other) = refl

pub same_count : (a b : Bool) (n m : ℕ) → a ≡ b → n ≡ m → a ≡ (b && (n == m))
same_count a b n m same counts = by b (n == m) (eqb_tells n m) same
  where
    by : (x y : Bool) → (y ≡ true) × (n ≡ m) ⊎ (y ≡ false) × (n ≡ m → ⊥) → a ≡ x → a ≡ (x && y)
    by true y (inl told) e = e ∙ sym told.0
    by false y (inl told) e = e
    by x y (inr told) e = absurd (told.1 counts)

-- ---- how many accounts there are

pub total_all : (base : List Account) (x : Accounts) (all : Vec own.Account) (n : ℕ) → x ≡ v.All all → n ≡ length all.items → n ≡ length (accounts_over base x)
unfolding accounts_over
total_all base x all n is e = e ∙ sym (length-map all.items account_of) ∙ ap (λ y. length (accounts_over base y)) (sym is)

pub total_part : (base : List Account) (x : Accounts) (count : ℕ) (known : Vec Known) → x ≡ v.Part count known → count ≡ length (accounts_over base x)
unfolding accounts_over
total_part base x count known is = sym (length_from base known.items 0 count) ∙ ap (λ y. length (accounts_over base y)) (sym is)
