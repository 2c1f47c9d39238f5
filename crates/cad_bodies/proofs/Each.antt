-- Lists that grow, turn by turn.
use Rattle.std.specs.Prelude.{Result, Ok, Err, List, ◌∷◌, ◌++◌, map, length, drop, flat_map}
use Rattle.std.specs.Result.{IfOk}
use Rattle.std.proofs.Common.{◌≡◌, ◌∙◌, ap, sym, append_assoc, ℕ, ◌+◌, ◌<◌, get_or}
use Rattle.std.proofs.lemmas.List.{drop_more}

-- one more of what each gives some of
pub one_flat : {X Y : Type 0} (f : X → List Y) (xs rest : List X) (x : X) (now next whole : List Y)
    → xs ≡ x ∷ rest → next ≡ now ++ f x → now ++ flat_map f xs ≡ whole → next ++ flat_map f rest ≡ whole
one_flat f xs rest x now next whole split more so_far =
    ap (λ ys. ys ++ flat_map f rest) more
    ∙ append_assoc now (f x) (flat_map f rest)
    ∙ ap (λ all. now ++ flat_map f all) (sym split)
    ∙ so_far

-- what is left of views, in front
pub left : {A B : Type 0} (view : A → B) (xs : List A) (i : ℕ) (x : A) → i < length xs → x ≡ get_or xs i x → map view (drop i xs) ≡ view x ∷ map view (drop (i + 1) xs)
left view xs i x h is = ap (map view) (drop_more xs i x h ∙ ap (λ y. y ∷ drop (i + 1) xs) (sym is))

-- the turn of a loop that pushes what each gives
pub turn : {A B Y : Type 0} (view : A → B) (f : B → List Y) (xs : List A) (i : ℕ) (x : A) (now next whole : List Y)
    → i < length xs → x ≡ get_or xs i x → next ≡ now ++ f (view x) → now ++ flat_map f (map view (drop i xs)) ≡ whole
    → next ++ flat_map f (map view (drop (i + 1) xs)) ≡ whole
turn view f xs i x now next whole h is more so_far =
    one_flat f (map view (drop i xs)) (map view (drop (i + 1) xs)) (view x) now next whole (left view xs i x h is) more so_far

-- what is there, if there is memory, along an equation
pub along : {A B E : Type 0} (r : Result A E) (view : A → B) (a b : B) → IfOk r (λ o. view o ≡ a) → a ≡ b → IfOk r (λ o. view o ≡ b)
along (Ok o) view a b h e = h ∙ e
along (Err x) view a b h e = tt
