-- Lists of JSON, and what is read from each of their items.
use Rattle.std.proofs.Common.{◌≡◌, ◌<◌, ◌≤◌, ◌+◌, ℕ, suc, List, [], ◌∷◌, ◌++◌, length, drop, map, get_or, Option, Some, None, option_map, refl, sym, ap, ◌∙◌, append_assoc, add-one}
use Rattle.std.proofs.Math.Seq.{drop-cons}
use Rattle.std.proofs.lemmas.List.{drop_all, append-nil}
use Rattle.serde_json.specs.Data.{Data}
use Rattle.serde_json.specs.View.{items_of}
use Rattle.cad_json_read.specs.Reading.{item_list, each, ◌>>=◌}

pub items_back : (xs : List Data) → item_list (items_of xs) ≡ xs
items_back [] = refl
items_back (x ∷ xs) = ap (λ (ys : List Data). x ∷ ys) (items_back xs)

-- what was read before, and the rest
abbrev pub with_front : {B : Type 0} → List B → Option (List B) → Option (List B)
with_front front None = None
with_front front (Some ys) = Some (front ++ ys)

drop_at : {X : Type 0} (xs : List X) (i : ℕ) (x : X) → i < length xs → x ≡ get_or xs i x → drop i xs ≡ x ∷ drop (i + 1) xs
drop_at xs i x lt is = rw (add-one i) (drop-cons xs i x lt ∙ ap (λ w. w ∷ drop (suc i) xs) (sym is))

one_more : {B : Type 0} (front : List B) (y : B) (o : Option (List B)) → with_front (front ++ y ∷ []) o ≡ with_front front (o >>= λ ys. Some (y ∷ ys))
one_more front y None = refl
one_more front y (Some ys) = ap (λ w. Some w) (append_assoc front (y ∷ []) ys)

-- a turn: an item that is read, as the code's item x, which is seen by f
pub goes_on : {X A B : Type 0} (f : X → A) (g : A → Option B) (front : List B) (xs : List X) (i : ℕ) (x : X) (y : B) (front1 : List B) → i < length xs → x ≡ get_or xs i x → Some y ≡ g (f x) → front1 ≡ front ++ y ∷ []
    → with_front front (each g (map f (drop i xs))) ≡ each g (map f xs) → with_front front1 (each g (map f (drop (i + 1) xs))) ≡ each g (map f xs)
goes_on {X} {A} {B} f g front xs i x y front1 lt is e pushed so =
    let rest = each g (map f (drop (i + 1) xs)) in
    ap (λ (w : List B). with_front w rest) pushed
    ∙ (one_more front y rest
    ∙ (ap (λ (o : Option B). with_front front (o >>= λ z. rest >>= λ ys. Some (z ∷ ys))) e
    ∙ (ap (λ (w : List X). with_front front (each g (map f w))) (sym (drop_at xs i x lt is)) ∙ so)))

pub ends : {X A B : Type 0} (f : X → A) (g : A → Option B) (front : List B) (xs : List X) (i : ℕ) (x : X) → i < length xs → x ≡ get_or xs i x → None ≡ g (f x)
    → with_front front (each g (map f (drop i xs))) ≡ each g (map f xs) → None ≡ each g (map f xs)
ends {X} {A} {B} f g front xs i x lt is e so =
    ap (λ (o : Option B). with_front front (o >>= λ z. each g (map f (drop (i + 1) xs)) >>= λ ys. Some (z ∷ ys))) e
    ∙ (ap (λ (w : List X). with_front front (each g (map f w))) (sym (drop_at xs i x lt is)) ∙ so)

pub is_done : {X A B : Type 0} (f : X → A) (g : A → Option B) (front : List B) (xs : List X) (i : ℕ) → length xs ≤ i
    → with_front front (each g (map f (drop i xs))) ≡ each g (map f xs) → Some front ≡ each g (map f xs)
is_done {X} {A} {B} f g front xs i end so = ap (λ w. Some w) (sym (append-nil front)) ∙ (ap (λ (w : List X). with_front front (each g (map f w))) (sym (drop_all i xs end)) ∙ so)
