-- Stops of points.
use Rattle.std.specs.Prelude.{ℕ, Bool, Option, Some, None, List, if◌then◌else◌}
use Rattle.cad_syntax.specs.declared.text.Name.{Name}
use Rattle.cad_declarations.specs.Build.{stop_at}
use Rattle.cad_declarations.specs.declared.stop.Stop.{Stop}

-- the stop of a declaration that isn't right
abbrev pub unless_right : Bool → List Name → Option Stop
unless_right is_right names = if is_right then None else Some (stop_at names 0)

-- the stop at a statement, whose number is told
abbrev pub told_stop : List Name → Option ℕ → Option Stop
told_stop names None = None
told_stop names (Some at) = Some (record { inside = names; at = at })
