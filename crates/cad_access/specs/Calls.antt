-- What the running initializer makes.
use Rattle.std.specs.Prelude.{◌≡◌, ℕ, Bool, false, Option, Some, None, if◌then◌else◌}
use Rattle.cad_world.specs.State.{Frame, State}
use Rattle.cad_world.specs.Labels.{newest, same_node}
use Rattle.cad_evaluation.specs.Access.{is_made_by}

-- the label of what a call makes, if it is an initializer's
abbrev pub made_by : Frame → Option ℕ
made_by f = if f.initializes then f.self else None

abbrev pub made_label : Option Frame → Option ℕ
made_label None = None
made_label (Some f) = made_by f

-- whether the node with a label is the one that the initializer makes
abbrev pub is_that : State → ℕ → Option ℕ → Bool
is_that s l None = false
is_that s l (Some made) = same_node s l made

-- Law: that is what the definition of access asks.
abbrev pub MadeIsThat : Type 0
MadeIsThat = (s : State) (l : ℕ) → is_made_by s l (newest s) ≡ is_that s l (made_label (newest s))
