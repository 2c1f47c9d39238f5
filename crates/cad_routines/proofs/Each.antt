-- Results that are collected, one after the other.
use Rattle.std.specs.Prelude.{Option, Some, None, option_map, List, [], ◌∷◌, ◌++◌, map, length, drop}
use Rattle.std.proofs.Common.{◌≡◌, ◌∙◌, refl, ap, sym, append_assoc, ℕ, ◌+◌, ◌<◌, get_or}
use Rattle.std.proofs.lemmas.List.{drop_more}
use Rattle.cad_declarations.specs.Scopes.{option_cons, each_of}
use Rattle.cad_routines.specs.Code.Parts.{behind}

pub goes_on : {Y : Type 0} (done : List Y) (y : Y) (more : Option (List Y)) → behind done (option_cons (Some y) more) ≡ behind (done ++ y ∷ []) more
goes_on done y None = refl
goes_on done y (Some ys) = ap Some (sym (append_assoc done (y ∷ []) ys))

-- one more of them
pub one_more : {X Y : Type 0} (f : X → Option Y) (xs rest : List X) (x : X) (y : Y) (done : List Y) (whole : Option (List Y))
    → xs ≡ x ∷ rest → f x ≡ Some y → behind done (each_of f xs) ≡ whole → behind (done ++ y ∷ []) (each_of f rest) ≡ whole
one_more f xs rest x y done whole split some so_far =
    sym (goes_on done y (each_of f rest))
    ∙ ap (λ o. behind done (option_cons o (each_of f rest))) (sym some)
    ∙ ap (λ all. behind done (each_of f all)) (sym split)
    ∙ so_far

-- what is left of views, in front
pub left : {A B : Type 0} (view : A → B) (xs : List A) (i : ℕ) (x : A) → i < length xs → x ≡ get_or xs i x → map view (drop i xs) ≡ view x ∷ map view (drop (i + 1) xs)
left view xs i x h is = ap (map view) (drop_more xs i x h ∙ ap (λ y. y ∷ drop (i + 1) xs) (sym is))

-- the turn of a loop that collects what each gives
pub each_turn : {A B Y : Type 0} (view : A → B) (f : B → Option Y) (xs : List A) (i : ℕ) (x : A) (y : Y) (done next : List Y) (whole : Option (List Y))
    → i < length xs → x ≡ get_or xs i x → f (view x) ≡ Some y → next ≡ done ++ y ∷ [] → behind done (each_of f (map view (drop i xs))) ≡ whole
    → behind next (each_of f (map view (drop (i + 1) xs))) ≡ whole
each_turn view f xs i x y done next whole h is some more so_far =
    ap (λ ys. behind ys (each_of f (map view (drop (i + 1) xs)))) more
    ∙ one_more f (map view (drop i xs)) (map view (drop (i + 1) xs)) (view x) y done whole (left view xs i x h is) some so_far

-- the turn at which one gives none
pub each_none : {A B Y : Type 0} (view : A → B) (f : B → Option Y) (xs : List A) (i : ℕ) (x : A) (done : List Y) (whole : Option (List Y))
    → i < length xs → x ≡ get_or xs i x → f (view x) ≡ None → behind done (each_of f (map view (drop i xs))) ≡ whole → None ≡ whole
each_none view f xs i x done whole h is none so_far =
    ap (λ o. behind done (option_cons o (each_of f (map view (drop (i + 1) xs))))) (sym none)
    ∙ ap (λ all. behind done (each_of f all)) (sym (left view xs i x h is))
    ∙ so_far
