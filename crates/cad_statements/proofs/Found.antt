-- What is told of an answer that is made of others.
use Rattle.std.proofs.Common.{◌≡◌}
use Rattle.std.specs.Prelude.{Result, Ok, Err, IfOk, IsOkAnd}
use Rattle.std.specs.declared.alloc.AllocError.{AllocError}

-- of one
pub on_one : {C A : Type 0} {Q : C → Type 0} {PA : A → Type 0} {R : C → A → Type 0} (r : Result C AllocError) (a : Result A AllocError)
    → IfOk r (λ o. IsOkAnd a (λ x. R o x)) → IfOk a PA → ((o : C) (x : A) → R o x → PA x → Q o) → IfOk r Q
on_one (Err k) a told first h = tt
on_one (Ok o) (Ok x) told first h = h o x told first
on_one (Ok o) (Err k) told first h = absurd told

-- of two, where something is asked of the first for the second
pub on_two : {C A B M : Type 0} {Q : C → Type 0} {PA : A → Type 0} {PB : B → Type 0} {R : C → A → B → Type 0}
    (r : Result C AllocError) (a : Result A AllocError) (b : Result B AllocError) (f : Result A AllocError → M) (m : M)
    → IfOk r (λ o. IsOkAnd a (λ x. IsOkAnd b (λ y. R o x y))) → IfOk a PA → IfOk b PB → m ≡ f a
    → ((o : C) (x : A) (y : B) → R o x y → PA x → PB y → m ≡ f (Ok x) → Q o) → IfOk r Q
on_two (Err k) a b f m told first second asked h = tt
on_two (Ok o) (Ok x) (Ok y) f m told first second asked h = h o x y told first second asked
on_two (Ok o) (Ok x) (Err k) f m told first second asked h = absurd told
on_two (Ok o) (Err k) b f m told first second asked h = absurd told
