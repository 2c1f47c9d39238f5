-- What is in an optional, as what a call gives.
use Rattle.std.specs.Prelude.{Bool, Option, Some, None}
use Rattle.cad_evaluation.specs.Changing.{opened}
use Rattle.cad_evaluation.specs.Uses.{taken_if}
use Rattle.cad_world.specs.Rows.{Tree}
use Rattle.cad_world.specs.State.{Action, give}

-- the content; none of nil
abbrev pub content_or_none : Tree → Action (Option Tree)
content_or_none t = opened t (give None) (λ inside. give (Some inside))

-- the content, or the optional itself; none of nil
abbrev pub left_or_none : Bool → Tree → Action (Option Tree)
left_or_none takes t = opened t (give None) (λ inside. give (Some (taken_if takes t inside)))
