-- The first stop of points that stand one behind the other.
use Rattle.std.specs.Prelude.{ℕ, Option, Some, None, option_map, List, [], ◌∷◌, ◌++◌}
use Rattle.std.specs.Option.{option_or}
use Rattle.std.proofs.Common.{◌≡◌, ◌∙◌, refl, ap}
use Rattle.cad_syntax.specs.declared.text.Name.{Name}
use Rattle.cad_declarations.specs.Build as b
use Rattle.cad_declarations.specs.Points.{Point}
use Rattle.cad_declarations.specs.Scopes.{Scope}
use Rattle.cad_declarations.specs.declared.stop.Stop.{Stop}
use Rattle.cad_stop_points.specs.Code.Stops.{told_stop}

-- the stop at the first row with a type that isn't there
pub told_rows : (names : List Name) (o m : Option ℕ) → m ≡ option_map b.told o → told_stop names m ≡ option_map (b.stop_at names) o
told_rows names None m is = ap (told_stop names) is
told_rows names (Some at) m is = ap (told_stop names) is

pub first_of_both : (scope : Scope) (front back : List Point) → b.first_stop scope (front ++ back) ≡ option_or (b.first_stop scope front) (b.first_stop scope back)
first_of_both scope [] back = refl
first_of_both scope (p ∷ front) back =
    ap (option_or (b.point_stop scope p)) (first_of_both scope front back) ∙ again (b.point_stop scope p) (b.first_stop scope front) (b.first_stop scope back)
  where
    again : (x y z : Option Stop) → option_or x (option_or y z) ≡ option_or (option_or x y) z
    again None y z = refl
    again (Some s) y z = refl

-- the first of them stops
pub stops_there : (scope : Scope) (front back : List Point) (stop : Stop) → b.first_stop scope front ≡ Some stop → b.first_stop scope (front ++ back) ≡ Some stop
stops_there scope front back stop is = first_of_both scope front back ∙ ap (λ o. option_or o (b.first_stop scope back)) is

-- none of them stops
pub goes_on : (scope : Scope) (front back : List Point) → b.first_stop scope front ≡ None → b.first_stop scope (front ++ back) ≡ b.first_stop scope back
goes_on scope front back is = first_of_both scope front back ∙ ap (λ o. option_or o (b.first_stop scope back)) is
