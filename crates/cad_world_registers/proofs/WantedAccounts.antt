-- Accounts that are wanted follow all accounts, as these get more.
use Rattle.std.proofs.Common.{◌≡◌, ◌-◌, ℕ, zero, suc, Bool, true, false, cond, List, [], ◌∷◌, ◌++◌, length, Option, Some, None, refl, sym, ap, ◌∙◌, arith, inl, inr}
use Rattle.std.proofs.lemmas.Bool.{false≢true, cases_eq, eqb-true, eq-eqb, ne_eqb}
use Rattle.std.specs.Prelude.{◌==◌, option_map}
use Rattle.std.specs.Option.{option_or}
use Rattle.cad_world.specs.Labels.{account_at, change_account}
use Rattle.cad_world.specs.State.{Account}
use Rattle.cad_world_registers.specs.Code.PartDrafts.{KnownAccount, add_known, change_known, changed_one, has_address, known_at}
use Rattle.cad_world_registers.specs.Code.Selection.{is_address_wanted}
use Rattle.cad_world_registers.specs.Wanted.{is_wanted, wanted_account}

-- ---- an account changes

here_of_all : (g : Account → Account) (all : List Account) (i : ℕ) → account_at (change_account (suc i) g all) (suc i) ≡ option_map g (account_at all (suc i))
here_of_all g [] i = refl
here_of_all g (a ∷ all) zero = refl
here_of_all g (a ∷ all) (suc i) = here_of_all g all i

elsewhere_of_all : (g : Account → Account) (all : List Account) (i n : ℕ) → (suc i ≡ n → ⊥) → account_at (change_account n g all) (suc i) ≡ account_at all (suc i)
elsewhere_of_all g all i zero h = refl
elsewhere_of_all g [] i (suc n) h = refl
elsewhere_of_all g (a ∷ all) zero (suc zero) h = absurd (h refl)
elsewhere_of_all g (a ∷ all) zero (suc (suc n)) h = refl
elsewhere_of_all g (a ∷ all) (suc i) (suc zero) h = refl
elsewhere_of_all g (a ∷ all) (suc i) (suc (suc n)) h = elsewhere_of_all g all i (suc n) (λ e. h (ap suc e))

-- whether an index is that of an address
index_of : (n i j : ℕ) → suc i ≡ n → has_address n j ≡ (j == i)
index_of n i j e =
    ap (λ b. cond b false (j == n - 1)) (ne_eqb n 0 (λ z. omega (arith, e, z)))
    ∙ ap (λ (k : ℕ). j == k) (let is : n - 1 ≡ i = omega (arith, e) in is)

no_index_of : (n i j : ℕ) → (suc i ≡ n → ⊥) → (j == i) ≡ true → has_address n j ≡ false
no_index_of n i j h t =
    elim (cases_eq n 0) [
      | inl z ↦ ap (λ b. cond b false (j == n - 1)) (eq-eqb n 0 z)
      | inr s ↦ ap (λ b. cond b false (j == n - 1)) (ne_eqb n 0 s) ∙ ne_eqb j (n - 1) (λ e. h (let is = eqb-true j i t in later n i j s e is))
    ]
  where
    later : (n i j : ℕ) → (n ≡ 0 → ⊥) → j ≡ n - 1 → j ≡ i → suc i ≡ n
    later zero i j s e is = absurd (s refl)
    later (suc n) i j s e is = omega (arith, e, is)

-- by the test on the first of them
step_known : (n : ℕ) (g : Account → Account) (k : KnownAccount) (all : List KnownAccount) (i : ℕ) (b : Bool) → has_address n k.0 ≡ b
    → known_at (change_known n g (k ∷ all)) i ≡ cond b (cond (k.0 == i) (Some (g k.1)) (known_at all i)) (cond (k.0 == i) (Some k.1) (known_at (change_known n g all) i))
step_known n g k all i true e = ap (λ b. known_at (cond b (changed_one g k ∷ all) (k ∷ change_known n g all)) i) e
step_known n g k all i false e = ap (λ b. known_at (cond b (changed_one g k ∷ all) (k ∷ change_known n g all)) i) e

mapped : (g : Account → Account) (b : Bool) (a : Account) (o p : Option Account) → p ≡ option_map g o → cond b (cond b (Some (g a)) o) (cond b (Some a) p) ≡ option_map g (cond b (Some a) o)
mapped g true a o p e = refl
mapped g false a o p e = e

here_of_known : (g : Account → Account) (all : List KnownAccount) (i n : ℕ) → suc i ≡ n → known_at (change_known n g all) i ≡ option_map g (known_at all i)
here_of_known g [] i n e = refl
here_of_known g (k ∷ all) i n e =
    step_known n g k all i (k.0 == i) (index_of n i k.0 e)
    ∙ mapped g (k.0 == i) k.1 (known_at all i) (known_at (change_known n g all) i) (here_of_known g all i n e)

elsewhere : (t b : Bool) (x y : Option Account) (o p : Option Account) → (t ≡ true → b ≡ false) → p ≡ o → cond b (cond t x o) (cond t y p) ≡ cond t y o
elsewhere true true x y o p h e = absurd (false≢true (sym (h refl)))
elsewhere true false x y o p h e = refl
elsewhere false true x y o p h e = refl
elsewhere false false x y o p h e = e

elsewhere_of_known : (g : Account → Account) (all : List KnownAccount) (i n : ℕ) → (suc i ≡ n → ⊥) → known_at (change_known n g all) i ≡ known_at all i
elsewhere_of_known g [] i n h = refl
elsewhere_of_known g (k ∷ all) i n h =
    step_known n g k all i (has_address n k.0) refl
    ∙ elsewhere (k.0 == i) (has_address n k.0) (Some (g k.1)) (Some k.1) (known_at all i) (known_at (change_known n g all) i) (λ t. no_index_of n i k.0 h t) (elsewhere_of_known g all i n h)

-- ---- an account more

more_of_all : (all : List Account) (a : Account) (i : ℕ) → account_at (all ++ a ∷ []) (suc i) ≡ option_or (account_at all (suc i)) (cond (length all == i) (Some a) None)
more_of_all [] a zero = refl
more_of_all [] a (suc i) = ap (λ t. cond t (Some a) None) (sym (ne_eqb 0 (suc i) (λ e. omega (arith, e))))
more_of_all (b ∷ all) a zero = refl
more_of_all (b ∷ all) a (suc i) = more_of_all all a i ∙ ap (λ t. option_or (account_at all (suc i)) (cond t (Some a) None)) (same_test (length all) i)
  where
    same_test : (x y : ℕ) → (x == y) ≡ (suc x == suc y)
    same_test x y =
        elim (cases_eq x y) [
          | inl e ↦ eq-eqb x y e ∙ sym (eq-eqb (suc x) (suc y) (ap suc e))
          | inr d ↦ ne_eqb x y d ∙ sym (ne_eqb (suc x) (suc y) (λ e. d (omega (arith, e))))
        ]

more_of_known : (all : List KnownAccount) (k : KnownAccount) (i : ℕ) → known_at (all ++ k ∷ []) i ≡ option_or (known_at all i) (cond (k.0 == i) (Some k.1) None)
more_of_known [] k i = refl
more_of_known (x ∷ all) k i = ap (cond (x.0 == i) (Some x.1)) (more_of_known all k i) ∙ by (x.0 == i) x.1 (known_at all i) (cond (k.0 == i) (Some k.1) None)
  where
    by : (b : Bool) (a : Account) (o p : Option Account) → cond b (Some a) (option_or o p) ≡ option_or (cond b (Some a) o) p
    by true a o p = refl
    by false a o p = refl

-- ---- what is known of those that are wanted

-- what is known is what is wanted of these
abbrev pub AreKnown : List ℕ → List KnownAccount → List Account → Type 0
AreKnown wanted known all = (i : ℕ) → known_at known i ≡ wanted_account wanted all i

abbrev wanted_one : Bool → Option Account → Option Account
wanted_one b o = cond b o None

wanted_mapped : (g : Account → Account) (b : Bool) (o : Option Account) → option_map g (wanted_one b o) ≡ wanted_one b (option_map g o)
wanted_mapped g true o = refl
wanted_mapped g false o = refl

at_address : (wanted : List ℕ) (n i : ℕ) → suc i ≡ n → is_address_wanted wanted n ≡ is_wanted wanted i
at_address wanted n i e =
    ap (λ b. cond b false (is_wanted wanted (n - 1))) (ne_eqb n 0 (λ z. omega (arith, e, z)))
    ∙ ap (is_wanted wanted) (let is : n - 1 ≡ i = omega (arith, e) in is)

module _ (wanted : List ℕ) (known : List KnownAccount) (all : List Account) (are : AreKnown wanted known all) where
  pub change_selected : (n : ℕ) (g : Account → Account) → AreKnown wanted (change_known n g known) (change_account n g all)
  change_selected n g i =
      elim (cases_eq (suc i) n) [
        | inl e ↦
            here_of_known g known i n e ∙ ap (option_map g) (are i) ∙ wanted_mapped g (is_wanted wanted i) (account_at all (suc i))
            ∙ ap (wanted_one (is_wanted wanted i)) (sym (here_of_all g all i) ∙ ap (λ (m : ℕ). account_at (change_account m g all) (suc i)) e)
        | inr d ↦ elsewhere_of_known g known i n d ∙ are i ∙ ap (wanted_one (is_wanted wanted i)) (sym (elsewhere_of_all g all i n d))
      ]

  pub change_passed : (n : ℕ) (g : Account → Account) → is_address_wanted wanted n ≡ false → AreKnown wanted known (change_account n g all)
  change_passed n g f i =
      elim (cases_eq (suc i) n) [
        | inl e ↦
            let unwanted = sym (at_address wanted n i e) ∙ f in
            are i ∙ ap (λ b. wanted_one b (account_at all (suc i))) unwanted ∙ ap (λ b. wanted_one b (account_at (change_account n g all) (suc i))) (sym unwanted)
        | inr d ↦ are i ∙ ap (wanted_one (is_wanted wanted i)) (sym (elsewhere_of_all g all i n d))
      ]

  pub add_selected : (n : ℕ) (a : Account) → n ≡ suc (length all) → is_address_wanted wanted n ≡ true → AreKnown wanted (add_known n a known) (all ++ a ∷ [])
  add_selected n a e t i =
      let last : Option Account = cond (length all == i) (Some a) None in
      more_of_known known (n - 1, a) i
      ∙ ap (λ (k : ℕ). option_or (known_at known i) (cond (k == i) (Some a) None)) (let is : n - 1 ≡ length all = omega (arith, e) in is)
      ∙ ap (λ o. option_or o last) (are i)
      ∙ both (is_wanted wanted i) (length all == i) (account_at all (suc i)) (λ same. ap (is_wanted wanted) (sym (eqb-true (length all) i same)) ∙ sym (at_address wanted n (length all) (sym e)) ∙ t)
      ∙ ap (wanted_one (is_wanted wanted i)) (sym (more_of_all all a i))
    where
      both : (w b : Bool) (o : Option Account) → (b ≡ true → w ≡ true) → option_or (wanted_one w o) (cond b (Some a) None) ≡ wanted_one w (option_or o (cond b (Some a) None))
      both true b o h = refl
      both false true o h = absurd (false≢true (h refl))
      both false false o h = refl

  pub add_passed : (n : ℕ) (a : Account) → n ≡ suc (length all) → is_address_wanted wanted n ≡ false → AreKnown wanted known (all ++ a ∷ [])
  add_passed n a e f i =
      are i
      ∙ both (is_wanted wanted i) (length all == i) (account_at all (suc i)) (λ same. ap (is_wanted wanted) (sym (eqb-true (length all) i same)) ∙ sym (at_address wanted n (length all) (sym e)) ∙ f)
      ∙ ap (wanted_one (is_wanted wanted i)) (sym (more_of_all all a i))
    where
      kept : (o : Option Account) → o ≡ option_or o None
      kept None = refl
      kept (Some x) = refl

      both : (w b : Bool) (o : Option Account) → (b ≡ true → w ≡ false) → wanted_one w o ≡ wanted_one w (option_or o (cond b (Some a) None))
      both true true o h = absurd (false≢true (sym (h refl)))
      both true false o h = kept o
      both false b o h = refl
