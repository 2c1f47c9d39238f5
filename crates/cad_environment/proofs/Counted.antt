-- How many stand in lists.
use Rattle.std.proofs.Common.{◌≡◌, ℕ, ◌+◌, List, [], ◌∷◌, ◌++◌, length, map, append_assoc, ap, ◌∙◌}
use Rattle.std.proofs.lemmas.List.{length-append, length-map}

pub behind_these : {X Y : Type 0} (f : X → Y) (these : List X) (those : List Y) → length (map f these ++ those) ≡ length these + length those
behind_these f these those = length-append (map f these) those ∙ ap (λ n. n + length those) (length-map these f)

-- a list that was put behind another, and what comes behind it
pub goes_on : {X : Type 0} (old new these more whole : List X) → new ≡ old ++ these → old ++ (these ++ more) ≡ whole → new ++ more ≡ whole
goes_on old new these more whole is so_far = ap (λ z. z ++ more) is ∙ append_assoc old these more ∙ so_far
