-- Lists of which each item is compared with the next.
use Rattle.std.proofs.Common.{◌≡◌, ◌<◌, ◌≤◌, ℕ, zero, suc, Bool, true, false, List, [], ◌∷◌, map, length, drop, get_or, refl, sym, ap, subst, ◌∙◌, arith}
use Rattle.std.specs.Prelude.{◌&&◌}
use Rattle.cad_state.specs.Views.{contract_of, controller_of, publication_of}
use Rattle.cad_state.specs.declared.state.Contract.{Contract}
use Rattle.cad_state.specs.declared.state.Controller.{Controller}
use Rattle.cad_state.specs.declared.state.Publication.{Publication}
use Rattle.cad_world.specs.Orders.{rises, name_before, publication_before, controller_before}
use Rattle.cad_world_checks.specs.Checks.{named_before}

-- the test is that each item stands near the next
pub record Chained {X : Type 0} (near : X → X → Bool) (test : List X → Bool) : Type 0 where
  pub none : test [] ≡ true
  pub one : (x : X) → test (x ∷ []) ≡ true
  pub more : (x y : X) (xs : List X) → test (x ∷ y ∷ xs) ≡ (near x y && test (y ∷ xs))

one_pair : {X : Type 0} (near : X → X → Bool) (test : List X → Bool) → Chained near test → (xs : List X) (k : ℕ) (a b : X) → suc k < length xs → a ≡ get_or xs k a → b ≡ get_or xs (suc k) b
    → test (drop k xs) ≡ (near a b && test (drop (suc k) xs))
one_pair near test t [] k a b lt first second = absurd (omega (arith, lt))
one_pair near test t (x ∷ []) k a b lt first second = absurd (omega (arith, lt))
one_pair near test t (x ∷ y ∷ xs) zero a b lt first second =
    t.more x y xs ∙ ap (λ u. near u y && test (y ∷ xs)) (sym first) ∙ ap (λ u. near a u && test (y ∷ xs)) (sym second)
one_pair near test t (x ∷ y ∷ xs) (suc k) a b lt first second = one_pair near test t (y ∷ xs) k a b (omega (arith, lt)) first second

pub pair_turn : {X : Type 0} (near : X → X → Bool) (test : List X → Bool) → Chained near test → (xs : List X) (k i : ℕ) (a b : X) (all : Bool) → i ≡ suc k → i < length xs → a ≡ get_or xs k a → b ≡ get_or xs i b
    → near a b ≡ true → test (drop k xs) ≡ all → test (drop i xs) ≡ all
pair_turn near test t xs k i a b all e lt first second holds so =
    let step = one_pair near test t xs k a b (subst (λ (m : ℕ). m < length xs) e lt) first (subst (λ (m : ℕ). b ≡ get_or xs m b) e second) in
    ap (λ (m : ℕ). test (drop m xs)) e ∙ sym (step ∙ ap (λ c. c && test (drop (suc k) xs)) holds) ∙ so

pub pair_break : {X : Type 0} (near : X → X → Bool) (test : List X → Bool) → Chained near test → (xs : List X) (k i : ℕ) (a b : X) (all : Bool) → i ≡ suc k → i < length xs → a ≡ get_or xs k a → b ≡ get_or xs i b
    → near a b ≡ false → test (drop k xs) ≡ all → false ≡ all
pair_break near test t xs k i a b all e lt first second fails so =
    let step = one_pair near test t xs k a b (subst (λ (m : ℕ). m < length xs) e lt) first (subst (λ (m : ℕ). b ≡ get_or xs m b) e second) in
    sym (step ∙ ap (λ c. c && test (drop (suc k) xs)) fails) ∙ so

last : {X : Type 0} (near : X → X → Bool) (test : List X → Bool) → Chained near test → (xs : List X) (k : ℕ) → length xs ≤ suc k → test (drop k xs) ≡ true
last near test t [] zero le = t.none
last near test t [] (suc k) le = t.none
last near test t (x ∷ []) zero le = t.one x
last near test t (x ∷ y ∷ xs) zero le = absurd (omega (arith, le))
last near test t (x ∷ xs) (suc k) le = last near test t xs k (omega (arith, le))

pub pair_end : {X : Type 0} (near : X → X → Bool) (test : List X → Bool) → Chained near test → (xs : List X) (k : ℕ) (all : Bool) → length xs ≤ suc k → test (drop k xs) ≡ all → true ≡ all
pair_end near test t xs k all le so = sym (last near test t xs k le) ∙ so

-- ---- names, publications, controllers and contracts

pub names_chained : Chained name_before (rises name_before)
names_chained = record { none = refl; one = λ x. refl; more = λ x y xs. refl }

abbrev pub published_near : Publication → Publication → Bool
published_near p q = publication_before (publication_of p) (publication_of q)

abbrev pub published_rise : List Publication → Bool
published_rise ps = rises publication_before (map publication_of ps)

pub published_chained : Chained published_near published_rise
published_chained = record { none = refl; one = λ x. refl; more = λ x y xs. refl }

abbrev pub controlled_near : Controller → Controller → Bool
controlled_near c d = controller_before (controller_of c) (controller_of d)

abbrev pub controlled_rise : List Controller → Bool
controlled_rise cs = rises controller_before (map controller_of cs)

pub controlled_chained : Chained controlled_near controlled_rise
controlled_chained = record { none = refl; one = λ x. refl; more = λ x y xs. refl }

abbrev pub named_near : Contract → Contract → Bool
named_near c d = named_before (contract_of c) (contract_of d)

abbrev pub named_rise : List Contract → Bool
named_rise cs = rises named_before (map contract_of cs)

pub named_chained : Chained named_near named_rise
named_chained = record { none = refl; one = λ x. refl; more = λ x y xs. refl }
