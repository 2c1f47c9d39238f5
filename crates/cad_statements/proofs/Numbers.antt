-- What is typed, beside the number behind it.
use Rattle.std.proofs.Common.{◌≡◌, ◌∙◌, ℕ, suc, ◌+◌, refl, ap, sym}
use Rattle.std.specs.Prelude.{Option, Some, None, option_map, Result, Ok, Err, IfOk, ok_or}
use Rattle.std.specs.declared.alloc.AllocError.{AllocError}
use Rattle.cad_typing.specs.Statements.{◌>>=◌}
use Rattle.cad_statement_parts.specs.Blocks.{numbered, first_inside, number_behind}
use Rattle.cad_statement_parts.specs.Views.{judged, judged_at}

-- ---- the two parts of an answer

abbrev value_or : {A : Type 0} → A → Result A ℕ → A
value_or d (Ok x) = x
value_or d (Err n) = d

abbrev stop_or : {A : Type 0} → ℕ → Result A ℕ → ℕ
stop_or d (Ok x) = d
stop_or d (Err n) = n

abbrev without : {A : Type 0} → Result (A × ℕ) ℕ → Result A ℕ
without r = r >>= (λ x. Ok x.0)

without_number : {A : Type 0} (n : ℕ) (r : Result A ℕ) → without (numbered n r) ≡ r
without_number n (Ok x) = refl
without_number n (Err k) = refl

-- what has a number behind it is typed, and that is the number
pub typed_at : {A : Type 0} (x : A) (m n : ℕ) (r : Result A ℕ) → Ok (x, m) ≡ numbered n r → Ok x ≡ r
typed_at x m n r is = ap without is ∙ without_number n r

pub number_at : {A : Type 0} (x : A) (m n : ℕ) (r : Result A ℕ) → Ok (x, m) ≡ numbered n r → m ≡ n
number_at x m n (Ok y) is = ap (λ z. value_or n (number_behind z)) is
number_at x m n (Err k) is = cc

pub stops_at : {A : Type 0} (k n : ℕ) (r : Result A ℕ) → Err k ≡ numbered n r → Err k ≡ r
stops_at k n r is = ap without is ∙ without_number n r

pub numbered_typed : {A : Type 0} (x : A) (m n : ℕ) (r : Result A ℕ) → Ok x ≡ r → m ≡ n → Ok (x, m) ≡ numbered n r
numbered_typed x m n r is at = ap (λ z. Ok (x, z)) at ∙ ap (numbered n) is

pub numbered_stops : {A : Type 0} (k n : ℕ) (r : Result A ℕ) → Err k ≡ r → Err k ≡ numbered n r
numbered_stops k n r is = ap (numbered n) is

-- ---- answers of functions

judged_alone : {A B : Type 0} (view : A → B) (o : Result (A × ℕ) ℕ) (n : ℕ) (r : Result B ℕ) → judged_at view o ≡ numbered n r → judged (λ x. view x.0) o ≡ r
judged_alone view (Ok x) n r is = ap without is ∙ without_number n r
judged_alone view (Err k) n r is = ap without is ∙ without_number n r

judged_number : {A B : Type 0} (view : A → B) (o : Result (A × ℕ) ℕ) (n : ℕ) (r : Result B ℕ) → judged_at view o ≡ numbered n r → IfOk o (λ x. x.1 ≡ n)
judged_number view (Ok x) n r is = number_at (view x.0) x.1 n r is
judged_number view (Err k) n r is = tt

pub answer_alone : {A B : Type 0} (view : A → B) (result : Result (Result (A × ℕ) ℕ) AllocError) (n : ℕ) (r : Result B ℕ)
    → IfOk result (λ o. judged_at view o ≡ numbered n r) → IfOk result (λ o. judged (λ x. view x.0) o ≡ r)
answer_alone view (Ok o) n r is = judged_alone view o n r is
answer_alone view (Err k) n r is = tt

pub answer_number : {A B : Type 0} (view : A → B) (result : Result (Result (A × ℕ) ℕ) AllocError) (n : ℕ) (r : Result B ℕ)
    → IfOk result (λ o. judged_at view o ≡ numbered n r) → IfOk result (λ o. IfOk o (λ x. x.1 ≡ n))
answer_number view (Ok o) n r is = judged_number view o n r is
answer_number view (Err k) n r is = tt

-- ---- parts one behind the other

pub last_inside : {A Y : Type 0} (h : A → Y) (r : Result A ℕ) (n : ℕ) → (numbered n r >>= (λ y. Ok (h y.0, y.1))) ≡ numbered n (r >>= (λ y. Ok (h y)))
last_inside h (Ok y) n = refl
last_inside h (Err k) n = refl

last_part : {A0 A Y : Type 0} (view : A0 → A) (a : Result (A0 × ℕ) ℕ) (r : Result A ℕ) (n : ℕ) (h : A → Y)
    → judged_at view a ≡ numbered n r → (judged_at view a >>= (λ y. Ok (h y.0, y.1))) ≡ numbered n (r >>= (λ y. Ok (h y)))
last_part view a r n h is = ap (λ z. z >>= (λ y. Ok (h y.0, y.1))) is ∙ last_inside h r n

-- what stands behind a part begins with the number behind that
behind_part : {A0 A B Y : Type 0} (view : A0 → A) (a : Result (A0 × ℕ) ℕ) (r : Result A ℕ) (n : ℕ) (m : Result ℕ ℕ) (g : ℕ → Result B ℕ) (k : ℕ) (h : A → B → Y) (b : Result (B × ℕ) ℕ)
    → judged_at view a ≡ numbered n r → m ≡ number_behind a → b ≡ (m >>= (λ i. numbered (i + k) (g i)))
    → (judged_at view a >>= (λ x. b >>= (λ y. Ok (h x.0 y.0, y.1)))) ≡ numbered (n + k) (r >>= (λ x. g n >>= (λ y. Ok (h x y))))
behind_part view (Err p) (Err q) n m g k h b is next then = ap (λ z. Err (stop_or 0 z)) is
behind_part view (Err p) (Ok y) n m g k h b is next then = cc
behind_part view (Ok x) (Err q) n m g k h b is next then = cc
behind_part view (Ok x) (Ok y) n m g k h b is next then =
    ap (λ z. z >>= (λ v. Ok (h (view x.0) v.0, v.1))) (then ∙ ap (λ z. z >>= (λ i. numbered (i + k) (g i))) next ∙ ap (λ i. numbered (i + k) (g i)) (ap (λ z. value_or n (number_behind z)) is))
    ∙ ap (λ u. numbered (n + k) (g n) >>= (λ v. Ok (h u v.0, v.1))) (ap (λ z. value_or y (without z)) is)
    ∙ last_inside (h y) (g n) (n + k)

-- a statement with one part inside
pub one_part : {X0 X A0 A Y : Type 0} (see : X0 → X) (x : Option X0) (t : Option X) (n : ℕ) (first : Result ℕ ℕ) (view : A0 → A) (a : Result (A0 × ℕ) ℕ)
    (f : Option X → ℕ → Result A ℕ) (k : ℕ) (h : X → A → Y) (r : Result (Y × ℕ) ℕ) (whole : ℕ)
    → option_map see x ≡ t → first ≡ first_inside n x
    → judged_at view a ≡ (first >>= (λ i. numbered (i + k) (f (option_map see x) i)))
    → r ≡ (ok_or (option_map see x) n >>= (λ v. judged_at view a >>= (λ y. Ok (h v y.0, y.1))))
    → whole ≡ suc n + k
    → r ≡ numbered whole (ok_or t n >>= (λ v. f (Some v) (suc n) >>= (λ y. Ok (h v y))))
one_part see None t n first view a f k h r whole parts begins inside then count =
    then ∙ ap (λ o. numbered whole (ok_or o n >>= (λ v. f (Some v) (suc n) >>= (λ y. Ok (h v y))))) parts
one_part see (Some x) t n first view a f k h r whole parts begins inside then count =
    then
    ∙ last_part view a (f (Some (see x)) (suc n)) (suc n + k) (h (see x)) (inside ∙ ap (λ z. z >>= (λ i. numbered (i + k) (f (Some (see x)) i))) begins)
    ∙ ap (λ w. numbered w (f (Some (see x)) (suc n) >>= (λ y. Ok (h (see x) y)))) (sym count)
    ∙ ap (λ o. numbered whole (ok_or o n >>= (λ v. f (Some v) (suc n) >>= (λ y. Ok (h v y))))) parts

-- a statement with two parts inside
pub two_parts : {X0 X A0 A B Y : Type 0} (see : X0 → X) (x : Option X0) (t : Option X) (n : ℕ) (first : Result ℕ ℕ) (view : A0 → A) (a : Result (A0 × ℕ) ℕ) (m : Result ℕ ℕ) (b : Result (B × ℕ) ℕ)
    (f : Option X → ℕ → Result A ℕ) (k : ℕ) (g : ℕ → Result B ℕ) (l : ℕ) (h : X → A → B → Y) (r : Result (Y × ℕ) ℕ) (whole : ℕ)
    → option_map see x ≡ t → first ≡ first_inside n x
    → judged_at view a ≡ (first >>= (λ i. numbered (i + k) (f (option_map see x) i)))
    → m ≡ number_behind a → b ≡ (m >>= (λ i. numbered (i + l) (g i)))
    → r ≡ (ok_or (option_map see x) n >>= (λ v. judged_at view a >>= (λ y. b >>= (λ z. Ok (h v y.0 z.0, z.1)))))
    → whole ≡ suc n + k + l
    → r ≡ numbered whole (ok_or t n >>= (λ v. f (Some v) (suc n) >>= (λ y. g (suc n + k) >>= (λ z. Ok (h v y z)))))
two_parts see None t n first view a m b f k g l h r whole parts begins inside next second then count =
    then ∙ ap (λ o. numbered whole (ok_or o n >>= (λ v. f (Some v) (suc n) >>= (λ y. g (suc n + k) >>= (λ z. Ok (h v y z)))))) parts
two_parts see (Some x) t n first view a m b f k g l h r whole parts begins inside next second then count =
    then
    ∙ behind_part view a (f (Some (see x)) (suc n)) (suc n + k) m g l (h (see x)) b (inside ∙ ap (λ z. z >>= (λ i. numbered (i + k) (f (Some (see x)) i))) begins) next second
    ∙ ap (λ w. numbered w (f (Some (see x)) (suc n) >>= (λ y. g (suc n + k) >>= (λ z. Ok (h (see x) y z))))) (sym count)
    ∙ ap (λ o. numbered whole (ok_or o n >>= (λ v. f (Some v) (suc n) >>= (λ y. g (suc n + k) >>= (λ z. Ok (h v y z)))))) parts
