-- Steps over the items of a list, over plain variables.
use Rattle.std.specs.Prelude.{ℕ, ◌+◌, ◌<◌, Option, Some, None, List, ◌∷◌, ◌++◌, drop, get_or, length}
use Rattle.std.proofs.Common.{◌≡◌, ◌∙◌, ap, sym}
use Rattle.std.proofs.lemmas.List.{drop_more}
use Rattle.cad_declarations.specs.Build as b
use Rattle.cad_declarations.specs.Points.{Point}
use Rattle.cad_declarations.specs.Scopes.{Scope}
use Rattle.cad_declarations.specs.declared.stop.Stop.{Stop}
use Rattle.cad_stop_points.proofs.Stops.{stops_there, goes_on}

-- the item that is next, before the rest
pub next_item : {X : Type 0} (all : List X) (i : ℕ) (x : X) → i < length all → x ≡ get_or all i x → drop i all ≡ x ∷ drop (i + 1) all
next_item all i x inside is = drop_more all i x inside ∙ ap (λ y. y ∷ drop (i + 1) all) (sym is)

-- the points of an item stop
pub stops_here : {X : Type 0} (scope : Scope) (points : List X → List Point) (all : List X) (i : ℕ) (x : X) (front back : List Point) (o whole : Option Stop) (stop : Stop)
    → i < length all → x ≡ get_or all i x → points (x ∷ drop (i + 1) all) ≡ front ++ back
    → o ≡ b.first_stop scope front → o ≡ Some stop → b.first_stop scope (points (drop i all)) ≡ whole → Some stop ≡ whole
stops_here scope points all i x front back o whole stop inside is split front_is some so_far =
    sym (stops_there scope front back stop (sym front_is ∙ some))
    ∙ ap (b.first_stop scope) (sym split)
    ∙ ap (λ z. b.first_stop scope (points z)) (sym (next_item all i x inside is))
    ∙ so_far

-- the points of an item don't stop
pub goes_past : {X : Type 0} (scope : Scope) (points : List X → List Point) (all : List X) (i : ℕ) (x : X) (front back after : List Point) (o whole : Option Stop)
    → i < length all → x ≡ get_or all i x → points (x ∷ drop (i + 1) all) ≡ front ++ back → after ≡ back
    → o ≡ b.first_stop scope front → o ≡ None → b.first_stop scope (points (drop i all)) ≡ whole → b.first_stop scope after ≡ whole
goes_past scope points all i x front back after o whole inside is split behind front_is none so_far =
    ap (b.first_stop scope) behind
    ∙ sym (goes_on scope front back (sym front_is ∙ none))
    ∙ ap (b.first_stop scope) (sym split)
    ∙ ap (λ z. b.first_stop scope (points z)) (sym (next_item all i x inside is))
    ∙ so_far
