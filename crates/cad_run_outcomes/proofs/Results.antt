-- Results of which something holds where they are one.
use Rattle.std.proofs.Common.{◌≡◌, Result, Ok, Err, IfOk, sym, subst}

pub if_ok : {A E : Type 0} {P Q : A → Type 0} (r : Result A E) → ((a : A) → P a → Q a) → IfOk r P → IfOk r Q
if_ok (Ok a) f h = f a h
if_ok (Err e) f h = tt

-- a reply without a run
pub refused_with : {A E : Type 0} (P : A → Type 0) (r : Result A E) (it : A) → r ≡ Ok it → P it → IfOk r P
refused_with {A} {E} P r it is h = subst (λ (x : Result A E). IfOk x P) (sym is) h
