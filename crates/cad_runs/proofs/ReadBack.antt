-- A World is read back from the state that it begins.
use Rattle.std.proofs.Common.{◌≡◌, ℕ, Bool, true, false, ◌&&◌, List, [], ◌∷◌, refl, sym, ap, ◌∙◌, true≢false, if◌then◌else◌}
use Rattle.cad_world.specs.Begin.{begun, left_world, kept_contract, IsKept, ReadsBack}
use Rattle.cad_world.specs.Orders.{rises, insert_in, sorted_in, contract_before}
use Rattle.cad_world.specs.State.{Program, World}

first_holds : (a b : Bool) → (a && b) ≡ true → a ≡ true
first_holds true b h = refl
first_holds false b h = h

second_holds : (a b : Bool) → (a && b) ≡ true → b ≡ true
second_holds true b h = h
second_holds false b h = absurd (true≢false (sym h))

chosen : {A : Type 0} (t : Bool) (a b : A) → t ≡ true → (if t then a else b) ≡ a
chosen true a b h = refl
chosen false a b h = absurd (true≢false (sym h))

module _ {A : Type 0} (before : A → A → Bool) where
  stays_first : (x : A) (xs : List A) → rises before (x ∷ xs) ≡ true → insert_in before x xs ≡ x ∷ xs
  stays_first x [] h = refl
  stays_first x (y ∷ ys) h = chosen (before x y) (x ∷ y ∷ ys) (y ∷ insert_in before x ys) (first_holds (before x y) (rises before (y ∷ ys)) h)

  -- what rises is sorted
  pub stays_sorted : (xs : List A) → rises before xs ≡ true → sorted_in before xs ≡ xs
  stays_sorted [] h = refl
  stays_sorted (x ∷ []) h = refl
  stays_sorted (x ∷ y ∷ ys) h =
      ap (insert_in before x) (stays_sorted (y ∷ ys) (second_holds (before x y) (rises before (y ∷ ys)) h)) ∙ stays_first x (y ∷ ys) h

pub read_back : ReadsBack
read_back program units w kept = λ i. record {
  accounts = kept.accounts i;
  contracts = (ap (sorted_in contract_before) kept.contracts ∙ stays_sorted contract_before w.contracts kept.rising) i;
  next_identity = w.next_identity;
}
