-- The index of keys stays one of them where they change.
use Rattle.std.proofs.Common.{◌≡◌, ◌<◌, ◌≤◌, ◌+◌, ◌%◌, ℕ, zero, suc, List, [], ◌∷◌, ◌++◌, length, map, take, get_or, set, replicate, Option, Some, None, refl, ap, sym, subst, ◌∙◌, arith}
use Rattle.std.proofs.lemmas.List.{length-map, length-take-le, map-append, map_more, get_or_read}
use Rattle.std.specs.Global.{Box}
use Rattle.std.specs.List.{remove}
use Rattle.cad_values.specs.Values.{pure_value}
use Rattle.cad_values.specs.declared.value.Value.{Value}
use Rattle.cad_values.specs.declared.value.Value.TheVariants as variant
use Rattle.cad_keys.specs.Code.Hashes.{key_hash}
use Rattle.cad_keys.specs.Code.Indices.{IsIndex, AreShifted, hash_of}
use Rattle.cad_keys.specs.Code.Found.{Fits}
use Rattle.cad_keys.specs.Code.Kept.{IsKept}
use Rattle.cad_keys.specs.declared.index.Index.{Index}
use Rattle.cad_keys.proofs.Changes.{none, pushed, removed}

-- lists that are a changed index
pub of_none : (heads links : List ℕ) (n : ℕ) → 0 < n → heads ≡ replicate n 0 → links ≡ [] → IsIndex heads links []
of_none heads links n some e f = rw (e, f) (none n some)

one_more : (rows : List Value) (key : Value) → map hash_of rows ++ hash_of key ∷ [] ≡ map hash_of (rows ++ key ∷ [])
one_more rows key = sym (map-append hash_of rows (key ∷ []))

pub with_one : (heads links new_heads new_links : List ℕ) (rows : List Value) (key : Value) (h : ℕ) → IsIndex heads links (map hash_of rows) → h ≡ key_hash (pure_value key)
    → new_heads ≡ set heads (h % length heads) (suc (length links)) → new_links ≡ links ++ get_or heads (h % length heads) 0 ∷ [] → IsIndex new_heads new_links (map hash_of (rows ++ key ∷ []))
with_one heads links new_heads new_links rows key h fits e f g =
    rw (f, g, sym (one_more rows key)) (subst (λ (x : ℕ). IsIndex (set heads (h % length heads) (suc (length links))) (links ++ get_or heads (h % length heads) 0 ∷ []) (map hash_of rows ++ x ∷ [])) e (pushed heads links (map hash_of rows) h fits))

pub turns : (heads links new_heads new_links : List ℕ) (rows : List Value) (i : ℕ) (x : Value) (h : ℕ) → i < length rows → x ≡ get_or rows i x → IsIndex heads links (map hash_of (take i rows)) → h ≡ key_hash (pure_value x)
    → new_heads ≡ set heads (h % length heads) (suc (length links)) → new_links ≡ links ++ get_or heads (h % length heads) 0 ∷ [] → IsIndex new_heads new_links (map hash_of (take (i + 1) rows))
turns heads links new_heads new_links rows i x h inside is fits e f g =
    let hashed : h ≡ hash_of (get_or rows i variant.Void) = e ∙ ap hash_of (get_or_read rows i x inside is variant.Void) in
    rw (f, g, map_more hash_of rows i variant.Void inside)
    (subst (λ (y : ℕ). IsIndex (set heads (h % length heads) (suc (length links))) (links ++ get_or heads (h % length heads) 0 ∷ []) (map hash_of (take i rows) ++ y ∷ [])) hashed (pushed heads links (map hash_of (take i rows)) h fits))

pub room : (heads links : List ℕ) (rows : List Value) (i most : ℕ) → i < length rows → length rows ≤ most → IsIndex heads links (map hash_of (take i rows)) → length links < most
room heads links rows i most inside all fits =
    let many = fits.as_many in
    let long : length (map hash_of (take i rows)) ≡ length (take i rows) = length-map (take i rows) hash_of in
    let short : length (take i rows) ≡ i = length-take-le i rows (omega arith) in
    omega arith

pub all_taken : (heads links : List ℕ) (rows : List Value) (i : ℕ) → length rows ≤ i → IsIndex heads links (map hash_of (take i rows)) → IsIndex heads links (map hash_of rows)
all_taken heads links rows i outside fits = subst (λ (xs : List Value). IsIndex heads links (map hash_of xs)) (whole i rows outside) fits
  where
    whole : (i : ℕ) (xs : List Value) → length xs ≤ i → take i xs ≡ xs
    whole zero [] h = refl
    whole (suc i) [] h = refl
    whole zero (x ∷ xs) h = absurd (omega (arith, h))
    whole (suc i) (x ∷ xs) h = ap (λ ys. x ∷ ys) (whole i xs (omega (arith, h)))

hashes_without : (i : ℕ) (rows : List Value) → remove (map hash_of rows) i ≡ map hash_of (remove rows i)
hashes_without zero [] = refl
hashes_without (suc i) [] = refl
hashes_without zero (x ∷ rows) = refl
hashes_without (suc i) (x ∷ rows) = ap (λ hs. hash_of x ∷ hs) (hashes_without i rows)

pub without_one : (heads links new_heads new_links : List ℕ) (rows : List Value) (p : ℕ) → p < length rows → IsIndex heads links (map hash_of rows)
    → AreShifted p (get_or links p 0) heads new_heads → AreShifted p (get_or links p 0) (remove links p) new_links → IsIndex new_heads new_links (map hash_of (remove rows p))
without_one heads links new_heads new_links rows p inside fits shifted_heads shifted_links =
    let many : length (map hash_of rows) ≡ length rows = length-map rows hash_of in
    subst (λ (hs : List ℕ). IsIndex new_heads new_links hs) (hashes_without p rows) (removed heads links (map hash_of rows) new_heads new_links p (omega arith) fits shifted_heads shifted_links)

-- ---- what is always true

pub fits_of : (o : Option (Box Index)) (b : Box Index) (rows : List Value) → o ≡ Some b → IsKept o rows → Fits b.value rows
fits_of o b rows e h = subst (λ (x : Option (Box Index)). IsKept x rows) e h

pub fits_in : (o : Option (Box Index)) (b : Box Index) (x : Index) (rows : List Value) → o ≡ Some b → x ≡ b.value → IsKept o rows → Fits x rows
fits_in o b x rows e same h = subst (λ (y : Index). Fits y rows) (sym same) (fits_of o b rows e h)

pub kept_none : (o : Option (Box Index)) (rows : List Value) → o ≡ None → IsKept o rows
kept_none o rows e = subst (λ (x : Option (Box Index)). IsKept x rows) (sym e) tt

pub kept_as : (o p : Option (Box Index)) (rows others : List Value) → IsKept o rows → p ≡ o → others ≡ rows → IsKept p others
kept_as o p rows others h e f = subst (λ (xs : List Value). IsKept p xs) (sym f) (subst (λ (x : Option (Box Index)). IsKept x rows) (sym e) h)
