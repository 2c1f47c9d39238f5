-- Options, and chains of tails.
use Rattle.std.proofs.Common.{◌≡◌, ℕ, zero, suc, ◌<◌, ◌≤◌, length, Option, Some, None, refl, sym, ap, ◌∙◌, subst, ◌⊎◌, inl, inr, arith}
use Rattle.cad_grammar.specs.Spots.{Spot, then, either}
use Rattle.cad_parse_type.specs.Code.Reading.{Reader, climb}
use Rattle.cad_parse_type.proofs.Heads.{none_of}

pub then_is : {A B : Type 0} (o : Option A) (f : A → Option B) (x : A) → o ≡ Some x → then o f ≡ f x
then_is o f x e = ap (λ y. then y f) e

pub then_not : {A B : Type 0} (o : Option A) (f : A → Option B) → o ≡ None → then o f ≡ None
then_not o f e = ap (λ y. then y f) e

pub either_is : {A B : Type 0} (o : Option A) (f : A → B) (d : B) (x : A) → o ≡ Some x → either o f d ≡ f x
either_is o f d x e = ap (λ y. either y f d) e

pub either_not : {A B : Type 0} (o : Option A) (f : A → B) (d : B) → o ≡ None → either o f d ≡ d
either_not o f d e = ap (λ y. either y f d) e

-- the option as it is, with the equation
pub cases_of : {A : Type 0} (P : Type 0) (o : Option A) → (o ≡ None → P) → ((x : A) → o ≡ Some x → P) → P
cases_of P None h g = h refl
cases_of P (Some x) h g = g x refl

-- ---- what holds of what is found

abbrev pub IfFound : {A : Type 0} → (A → Type 0) → Option A → Type 0
IfFound P None = Unit {0}
IfFound P (Some a) = P a

pub then_found : {A B : Type 0} (P : B → Type 0) (o : Option A) (f : A → Option B) → ((x : A) → o ≡ Some x → IfFound P (f x)) → IfFound P (then o f)
then_found P None f h = tt
then_found P (Some x) f h = h x refl

pub either_found : {A B : Type 0} (P : B → Type 0) (o : Option A) (f : A → Option B) (d : Option B) → ((x : A) → o ≡ Some x → IfFound P (f x)) → (o ≡ None → IfFound P d) → IfFound P (either o f d)
either_found P None f d h g = g refl
either_found P (Some x) f d h g = h x refl

-- what holds if something is found holds of what is found
pub found_is : {A : Type 0} (P : A → Type 0) (o : Option A) (x : A) → IfFound P o → o ≡ Some x → P x
found_is P o x h e = subst (IfFound P) e h

-- and the other way round
pub if_found : {A : Type 0} (P : A → Type 0) (o : Option A) → ((x : A) → o ≡ Some x → P x) → IfFound P o
if_found P None h = tt
if_found P (Some x) h = h x refl

pub found_weaker : {A : Type 0} (P Q : A → Type 0) (o : Option A) → ((x : A) → P x → Q x) → IfFound P o → IfFound Q o
found_weaker P Q None h p = tt
found_weaker P Q (Some x) h p = h x p

-- ---- a chain of tails

-- each tail takes a token at least
abbrev pub Shrinks : {T : Type 0} → Reader T → Type 0
Shrinks {T} tail = (p : Spot) (x : T × Spot) → tail p ≡ Some x → length x.1.tokens < length p.tokens

-- the same, or what takes more tokens
abbrev Goes : {A : Type 0} → A × Spot → A × Spot → Type 0
Goes x y = (x ≡ y) ⊎ (length x.1.tokens < length y.1.tokens)

gone : {A : Type 0} (x y : A × Spot) (k : ℕ) → Goes x y → length y.1.tokens < k → length x.1.tokens < k
gone x y k (inl e) lt = omega (arith, ap (λ z. length z.1.tokens) e)
gone x y k (inr h) lt = omega arith

module _ {A T : Type 0} (grow : A → T → A) (tail : Reader T) where
  -- a chain stops where no tail follows
  pub climb_stops : (turns : ℕ) (a : A) (p : Spot) → tail p ≡ None → climb grow tail turns a p ≡ Some (a, p)
  unfolding climb
  climb_stops zero a p e = refl
  climb_stops (suc turns) a p e = either_not (tail p) _ _ e

  -- with turns for each token, more turns change nothing
  pub climb_turns : Shrinks tail → (j k : ℕ) (a : A) (p : Spot) → length p.tokens ≤ j → length p.tokens ≤ k → climb grow tail j a p ≡ climb grow tail k a p
  unfolding climb
  climb_turns h zero k a p m q = sym (climb_stops k a p (none_of (tail p) (λ x e. omega (arith, h p x e))))
  climb_turns h (suc j) zero a p m q = either_not (tail p) _ _ (none_of (tail p) (λ x e. omega (arith, h p x e)))
  climb_turns h (suc j) (suc k) a p m q =
      cases_of _ (tail p) (λ e. either_not (tail p) _ _ e ∙ sym (either_not (tail p) _ _ e)) (λ x e.
      either_is (tail p) _ _ x e ∙ climb_turns h j k (grow a x.0) x.1 (omega (arith, h p x e)) (omega (arith, h p x e)) ∙ sym (either_is (tail p) _ _ x e))

  -- no tail follows where a chain stops
  climb_stopped : Shrinks tail → (turns : ℕ) (a : A) (p : Spot) → length p.tokens ≤ turns → IfFound (λ x. tail x.1 ≡ None) (climb grow tail turns a p)
  unfolding climb
  climb_stopped h zero a p le = none_of (tail p) (λ x e. omega (arith, h p x e))
  climb_stopped h (suc turns) a p le =
      either_found (λ x. tail x.1 ≡ None) (tail p) _ _ (λ x e. climb_stopped h turns (grow a x.0) x.1 (omega (arith, h p x e))) (λ e. e)

  pub climb_over : Shrinks tail → (a : A) (p : Spot) → IfFound (λ x. tail x.1 ≡ None) (climb grow tail (length p.tokens) a p)
  climb_over h a p = climb_stopped h (length p.tokens) a p (omega arith)

  climb_further : Shrinks tail → (turns : ℕ) (a : A) (p : Spot) (x : T × Spot) → length p.tokens ≤ turns → tail p ≡ Some x
      → climb grow tail turns a p ≡ climb grow tail (length x.1.tokens) (grow a x.0) x.1
  unfolding climb
  climb_further h zero a p x le e = let never : ⊥ = omega (arith, h p x e) in absurd never
  climb_further h (suc turns) a p x le e = either_is (tail p) _ _ x e ∙ climb_turns h turns (length x.1.tokens) (grow a x.0) x.1 (omega (arith, h p x e)) (omega arith)

  -- one tail more
  pub climb_more : Shrinks tail → (a : A) (p : Spot) (x : T × Spot) → tail p ≡ Some x
      → climb grow tail (length p.tokens) a p ≡ climb grow tail (length x.1.tokens) (grow a x.0) x.1
  climb_more h a p x e = climb_further h (length p.tokens) a p x (omega arith) e

  -- a chain always gives something: what it began with, or what takes more tokens
  pub climb_gives : Shrinks tail → (turns : ℕ) (a : A) (p : Spot)
      → (x : A × Spot) × (climb grow tail turns a p ≡ Some x) × ((x ≡ (a, p)) ⊎ (length x.1.tokens < length p.tokens))
  unfolding climb
  climb_gives h zero a p = ((a, p), refl, inl refl)
  climb_gives h (suc turns) a p =
      cases_of _ (tail p) (λ e. ((a, p), either_not (tail p) _ _ e, inl refl)) (λ x e.
      let w = climb_gives h turns (grow a x.0) x.1 in
      (w.0, either_is (tail p) _ _ x e ∙ w.1, inr (gone w.0 (grow a x.0, x.1) (length p.tokens) w.2 (h p x e))))

  -- what holds at the start and is kept by each tail holds of what a chain gives
  pub climb_keeps : (P : A → Spot → Type 0) → ((a : A) (p : Spot) (x : T × Spot) → P a p → tail p ≡ Some x → P (grow a x.0) x.1)
      → (turns : ℕ) (a : A) (p : Spot) → P a p → IfFound (λ x. P x.0 x.1) (climb grow tail turns a p)
  unfolding climb
  climb_keeps P h zero a p d = d
  climb_keeps P h (suc turns) a p d =
      either_found (λ x. P x.0 x.1) (tail p) _ _ (λ x e. climb_keeps P h turns (grow a x.0) x.1 (h a p x d e)) (λ _. d)
