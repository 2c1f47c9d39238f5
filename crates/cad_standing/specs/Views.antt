-- What the places of the program are: places as the definition has them.
use Rattle.std.specs.Prelude.{Bool, true, false}
use Rattle.cad_evaluation.specs.Standing as place
use Rattle.cad_locations.specs.Views.{location_of}
use Rattle.cad_rows.specs.Views.{pure_tree}
use Rattle.cad_standing.specs.declared.standing.Standing.{Standing}
use Rattle.cad_standing.specs.declared.standing.Standing.TheVariants as s

abbrev pub standing_of : Standing → place.Standing
standing_of (s.Here rights x n) = place.here rights (location_of x) n
standing_of (s.LedBy t) = place.led_by (pure_tree t)
standing_of s.Nowhere = place.nowhere

-- an optional on the way is nil
abbrev pub is_nowhere : place.Standing → Bool
is_nowhere place.nowhere = true
is_nowhere _ = false
