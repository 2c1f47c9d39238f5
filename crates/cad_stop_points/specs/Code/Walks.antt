-- A walk over the statements of a body, which ends at the first that names a type that isn't there.
use Rattle.std.specs.Prelude.{ℕ, ◌+◌, ◌-◌, ◌^◌, min, Bool, true, false, Option, Some, None, List, [], ◌∷◌}
use Rattle.cad_grammar.specs.Trees as t
use Rattle.cad_declarations.specs.Points.{types_are_there}
use Rattle.cad_declarations.specs.Scopes.{Scope}
use Rattle.cad_stop_points.specs.declared.walk.Walk.{Walk}
use Rattle.cad_stop_points.specs.declared.walk.Walk.TheVariants.{Missing, Passed}

-- the number of the next statement, 2^64-1 at most
abbrev pub next : ℕ → ℕ
next at = min (at + 1) (2 ^ 64 - 1)

-- by whether the types of the next statement are there
abbrev pub stepped : Bool → Walk → Walk
stepped is_there (Missing at) = Missing at
stepped true (Passed at) = Passed (next at)
stepped false (Passed at) = Missing at

abbrev pub walked : Scope → List (List t.TypeTree) → Walk → Walk
walked scope [] walk = walk
walked scope (row ∷ rows) walk = walked scope rows (stepped (types_are_there scope row) walk)

-- where it has ended
abbrev pub missing : Walk → Option ℕ
missing (Missing at) = Some at
missing (Passed at) = None
