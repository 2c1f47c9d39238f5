-- What is made of a value that passes a test.
use Rattle.std.proofs.Common.{◌≡◌, ◌∙◌, Bool, true, false, refl, ap}
use Rattle.std.specs.Prelude.{Option, Some, None, option_map}
use Rattle.cad_typing.specs.Environments.{when, ◌>=>◌}

-- what is made of what was made
pub made_of : {A B C : Type 0} (m : Option A) (test : A → Bool) (f : A → B) (h : B → C)
    → option_map h (m >=> (λ t. when (test t) (Some (f t)))) ≡ (m >=> (λ t. when (test t) (Some (h (f t)))))
made_of None test f h = refl
made_of {A} {B} {C} (Some t) test f h = by_test (test t)
  where
    by_test : (b : Bool) → option_map h (when b (Some (f t))) ≡ when b (Some (h (f t)))
    by_test true = refl
    by_test false = refl

pub made_some : {A B : Type 0} (m : Option A) (test : A → Bool) (g : A → B) (t : A) (x : B)
    → Some t ≡ (m >=> (λ t. when (test t) (Some t))) → x ≡ g t → Some x ≡ (m >=> (λ t. when (test t) (Some (g t))))
made_some m test g t x is so = ap Some so ∙ ap (option_map g) is ∙ made_of m test (λ t. t) g

pub made_none : {A B : Type 0} (m : Option A) (test : A → Bool) (g : A → B)
    → None ≡ (m >=> (λ t. when (test t) (Some t))) → None ≡ (m >=> (λ t. when (test t) (Some (g t))))
made_none m test g is = ap (option_map g) is ∙ made_of m test (λ t. t) g

-- two pairs are one, part by part
pub same_pair : {A B : Type 0} (a c : A) (b d : B) → a ≡ c → b ≡ d → ◌≡◌ {A = A × B} (a, b) (c, d)
same_pair a c b d p q = λ i. (p i, q i)
