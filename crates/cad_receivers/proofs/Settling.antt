-- An outcome in the state in which its action began.
use Rattle.std.proofs.Common.{◌≡◌, Option, Some, None}
use Rattle.cad_world.specs.Rows.{Found}
use Rattle.cad_world.specs.State.{State, Outcome, ok, Action, or_fail}

-- where there is a value, the state is this one
abbrev pub Stays : {A : Type 0} → State → Outcome A → Type 0
Stays s (ok a v) = v ≡ s
Stays s _ = Unit {0}

pub found_stays : {A : Type 0} (o : Option Found) (f : Found → Action A) (s : State) → ((x : Found) → Stays s (f x s)) → Stays s (or_fail 113 o f s)
found_stays None f s h = tt
found_stays (Some x) f s h = h x
