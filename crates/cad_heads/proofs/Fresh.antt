-- Whether names are new, with those before in either order.
use Rattle.std.proofs.Common.{◌≡◌, refl, sym, ◌∙◌, ap, Bool, true, false, List, [], ◌∷◌, ◌++◌, ℕ, ◌+◌, ◌<◌, get_or, map, drop, length}
use Rattle.std.specs.Prelude.{not, ◌&&◌, ◌||◌}
use Rattle.std.proofs.lemmas.List.{drop_more}
use Rattle.cad_syntax.specs.declared.text.Name.{Name}
use Rattle.cad_declarations.specs.Names.{has_name, same_name}
use Rattle.cad_declarations.specs.Points.{are_new}

-- names, the last one first, before others
abbrev pub turned : List Name → List Name → List Name
turned [] done = done
turned (x ∷ xs) done = turned xs (x ∷ done)

-- one of these or of those
or_swap : (a b c : Bool) → (a || (b || c)) ≡ (b || (a || c))
or_swap true true c = refl
or_swap true false c = refl
or_swap false b c = refl

had : (xs done : List Name) (n : Name) → has_name (turned xs done) n ≡ (has_name xs n || has_name done n)
had [] done n = refl
had (x ∷ xs) done n = had xs (x ∷ done) n ∙ or_swap (has_name xs n) (same_name x n) (has_name done n) ∙ regroup (same_name x n) (has_name xs n) (has_name done n)
  where
    regroup : (a b c : Bool) → (a || (b || c)) ≡ ((a || b) || c)
    regroup true b c = refl
    regroup false b c = refl

or_false : (a : Bool) → (a || false) ≡ a
or_false true = refl
or_false false = refl

-- the names before may be looked through in their order
had_before : (xs : List Name) (n : Name) → has_name (turned xs []) n ≡ has_name xs n
had_before xs n = had xs [] n ∙ or_false (has_name xs n)

turned_more : (xs done : List Name) (x : Name) → turned (xs ++ x ∷ []) done ≡ x ∷ turned xs done
turned_more [] done x = refl
turned_more (y ∷ xs) done x = turned_more xs (y ∷ done) x

new_more : (before rest : List Name) (x : Name) → has_name before x ≡ false → are_new before (x ∷ rest) ≡ are_new (x ∷ before) rest
new_more before rest x h = ap (λ z. not z && are_new (x ∷ before) rest) h

new_not : (before rest : List Name) (x : Name) → has_name before x ≡ true → are_new before (x ∷ rest) ≡ false
new_not before rest x h = ap (λ z. not z && are_new (x ∷ before) rest) h

-- one more name that is new
one_new : (done rest : List Name) (x : Name) (whole : Bool) → has_name done x ≡ false → are_new (turned done []) (x ∷ rest) ≡ whole → are_new (turned (done ++ x ∷ []) []) rest ≡ whole
one_new done rest x whole h k =
    ap (λ z. are_new z rest) (turned_more done [] x) ∙ sym (new_more (turned done []) rest x (had_before done x ∙ h)) ∙ k

-- a name that is there before
one_known : (done rest : List Name) (x : Name) (whole : Bool) → has_name done x ≡ true → are_new (turned done []) (x ∷ rest) ≡ whole → false ≡ whole
one_known done rest x whole h k = sym (new_not (turned done []) rest x (had_before done x ∙ h)) ∙ k

-- what is left of views, in front
left : {A B : Type 0} (view : A → B) (xs : List A) (i : ℕ) (x : A) → i < length xs → x ≡ get_or xs i x → map view (drop i xs) ≡ view x ∷ map view (drop (i + 1) xs)
left view xs i x h is = ap (map view) (drop_more xs i x h ∙ ap (λ y. y ∷ drop (i + 1) xs) (sym is))

-- the turn at a name that is new
pub turn : {A : Type 0} (view : A → Name) (xs : List A) (i : ℕ) (x : A) (done next : List Name) (whole : Bool)
    → i < length xs → x ≡ get_or xs i x → has_name done (view x) ≡ false → next ≡ done ++ view x ∷ []
    → are_new (turned done []) (map view (drop i xs)) ≡ whole → are_new (turned next []) (map view (drop (i + 1) xs)) ≡ whole
turn view xs i x done next whole h is new more so_far =
    ap (λ names. are_new (turned names []) (map view (drop (i + 1) xs))) more
    ∙ one_new done (map view (drop (i + 1) xs)) (view x) whole new (ap (are_new (turned done [])) (sym (left view xs i x h is)) ∙ so_far)

-- the turn at a name that was there before
pub known : {A : Type 0} (view : A → Name) (xs : List A) (i : ℕ) (x : A) (done : List Name) (whole : Bool)
    → i < length xs → x ≡ get_or xs i x → has_name done (view x) ≡ true → are_new (turned done []) (map view (drop i xs)) ≡ whole → false ≡ whole
known view xs i x done whole h is old so_far =
    one_known done (map view (drop (i + 1) xs)) (view x) whole old (ap (are_new (turned done [])) (sym (left view xs i x h is)) ∙ so_far)
