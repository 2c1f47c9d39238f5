-- Tests of those that are kept in a list.
use Rattle.std.proofs.Common.{◌≡◌, Bool, true, false, ◌&&◌, ◌||◌, List, [], ◌∷◌, cond, refl, ap, ◌∙◌}
use Rattle.std.specs.List.{filter, list_any}

kept_more : {X : Type 0} (f : X → Bool) (b : Bool) (x : X) (xs : List X) → list_any f (cond b (x ∷ xs) xs) ≡ (b && f x || list_any f xs)
kept_more f true x xs = refl
kept_more f false x xs = refl

-- some item that is kept passes
pub any_kept : {X : Type 0} (f p : X → Bool) (xs : List X) → list_any f (filter p xs) ≡ list_any (λ x. p x && f x) xs
any_kept f p [] = refl
any_kept f p (x ∷ xs) = kept_more f (p x) x (filter p xs) ∙ ap (λ (b : Bool). p x && f x || b) (any_kept f p xs)

-- tests that answer alike
pub same_tests : {X : Type 0} (f g : X → Bool) → ((x : X) → f x ≡ g x) → (xs : List X) → list_any f xs ≡ list_any g xs
same_tests f g same [] = refl
same_tests f g same (x ∷ xs) = ap (λ (b : Bool). b || list_any f xs) (same x) ∙ ap (λ (b : Bool). g x || b) (same_tests f g same xs)
