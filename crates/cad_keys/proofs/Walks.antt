-- A walk through the bucket of a key finds the first that is the same.
use Rattle.std.proofs.Common.{◌≡◌, ◌≢◌, ◌<◌, ◌≤◌, ◌-◌, ◌%◌, ℕ, zero, suc, Bool, true, false, List, [], ◌∷◌, length, map, get_or, Option, Some, None, option_map, if◌then◌else◌, refl, ap, sym, subst, ◌∙◌, ◌⊎◌, inl, inr, IfSome, arith}
use Rattle.std.proofs.lemmas.Bool.{cases_order, false≢true}
use Rattle.std.proofs.lemmas.List.{get_or-map, get_or_read, length-map}
use Rattle.cad_values.specs.Values.{PureValue, pure_value}
use Rattle.cad_values.specs.declared.value.Value.{Value}
use Rattle.cad_values.specs.declared.value.Value.TheVariants as variant
use Rattle.cad_world.specs.Locations.{key_position}
use Rattle.cad_world.specs.Same.{same_key}
use Rattle.cad_keys.specs.Code.Found.{IsFirst, IsWalk, key_at}
use Rattle.cad_keys.specs.Code.Hashes.{key_hash}
use Rattle.cad_keys.specs.Code.Indices.{IsIndex, hash_of}
use Rattle.cad_keys.proofs.Alike.{hashes_alike}

hash_there : (rows : List Value) (j : ℕ) → j < length rows → get_or (map hash_of rows) j 0 ≡ key_hash (key_at rows j)
hash_there rows j inside = get_or-map hash_of rows j variant.Void 0 inside

-- what is in another bucket isn't the same
differs : (key : PureValue) (rows : List Value) (buckets j : ℕ) → j < length rows → get_or (map hash_of rows) j 0 % buckets ≢ key_hash key % buckets → same_key key (key_at rows j) ≡ false
differs key rows buckets j inside other = by (same_key key (key_at rows j)) refl
  where
    by : (r : Bool) → same_key key (key_at rows j) ≡ r → same_key key (key_at rows j) ≡ false
    by false e = e
    by true e = absurd (other (ap (λ (h : ℕ). h % buckets) (hash_there rows j inside ∙ sym (hashes_alike key (key_at rows j) e))))

-- what holds below a place, at it and behind it holds of all
of_all : (P : ℕ → Type 0) (a i n : ℕ) → ((j : ℕ) → a ≤ j → j < i → P j) → P i → ((j : ℕ) → suc i ≤ j → j < n → P j) → (j : ℕ) → a ≤ j → j < n → P j
of_all P a i n below here above j from to = by (cases_order j i)
  where
    by : (j ≡ i) ⊎ ((j < i) ⊎ (i < j)) → P j
    by (inl e) = subst P (sym e) here
    by (inr (inl less)) = below j from less
    by (inr (inr more)) = above j (omega (arith, more)) to

pub begins : (heads links : List ℕ) (rows : List Value) (key : PureValue) (h c : ℕ) → IsIndex heads links (map hash_of rows) → h ≡ key_hash key → c ≡ get_or heads (h % length heads) 0
    → IsWalk (length heads) (key_hash key % length heads) key rows c None
begins heads links rows key h c fits e f =
    let here : c ≡ get_or heads (key_hash key % length heads) 0 = f ∙ ap (λ (x : ℕ). get_or heads (x % length heads) 0) e in
    let some = fits.buckets in
    let last = fits.of_heads (key_hash key % length heads) (omega arith) in
    let many : length (map hash_of rows) ≡ length rows = length-map rows hash_of in
    let within = last.within in
    record {
      within = rw here (omega arith);
      there = λ more. rw here (last.there (rw here at more));
      first = λ j from below. differs key rows (length heads) j below (last.none_after j (rw here at from) (omega arith));
    }

next_first : (key : PureValue) (rows : List Value) (i next : ℕ) (found : Option ℕ) (r : Bool) → i < length rows → next ≤ i → r ≡ same_key key (key_at rows i)
    → ((j : ℕ) → next ≤ j → j < i → same_key key (key_at rows j) ≡ false) → IsFirst key rows (suc i) found → IsFirst key rows next (if r then Some i else found)
next_first key rows i next found true inside less e below behind = (less, inside, sym e, below)
next_first key rows i next None false inside less e below behind = of_all (λ (j : ℕ). same_key key (key_at rows j) ≡ false) next i (length rows) below (sym e) behind
next_first key rows i next (Some k) false inside less e below behind =
    (omega (arith, behind.0), behind.1, behind.2, of_all (λ (j : ℕ). same_key key (key_at rows j) ≡ false) next i k below (sym e) behind.3)

pub turns : (heads links : List ℕ) (rows : List Value) (key : PureValue) (i c next : ℕ) (found : Option ℕ) (x : Value) (r : Bool) → IsIndex heads links (map hash_of rows)
    → IsWalk (length heads) (key_hash key % length heads) key rows c found → i ≡ c - 1 → 0 < c → x ≡ get_or rows i x → r ≡ same_key key (pure_value x) → next ≡ get_or links i 0
    → IsWalk (length heads) (key_hash key % length heads) key rows next (if r then Some i else found)
turns heads links rows key i c next found x r fits walk e some is tests f =
    let within = walk.within in
    let many : length (map hash_of rows) ≡ length rows = length-map rows hash_of in
    let inside : i < length rows = omega arith in
    let behind : c ≡ suc i = omega arith in
    let bucket : get_or (map hash_of rows) i 0 % length heads ≡ key_hash key % length heads = rw e (walk.there some) in
    let last = fits.of_links i (omega arith) in
    let tells : r ≡ same_key key (key_at rows i) = tests ∙ ap (λ (y : Value). same_key key (pure_value y)) (get_or_read rows i x inside is variant.Void) in
    let less : next ≤ i = rw f last.within in
    record {
      within = omega arith;
      there = λ more. rw f (last.there (rw f at more) ∙ bucket);
      first = next_first key rows i next found r inside less tells
          (λ j from to. differs key rows (length heads) j (omega arith) (λ same. last.none_after j (rw f at from) to (same ∙ sym bucket)))
          (subst (λ (k : ℕ). IsFirst key rows k found) behind walk.first);
    }

none_step : (r : Bool) (o : Option ℕ) → r ≡ false → None ≡ o → None ≡ (if r then Some 0 else option_map suc o)
none_step true o e f = absurd (false≢true (sym e))
none_step false o e f = ap (option_map suc) f

here_step : (r : Bool) (o : Option ℕ) → r ≡ true → Some 0 ≡ (if r then Some 0 else option_map suc o)
here_step true o e = refl
here_step false o e = absurd (false≢true e)

later_step : (r : Bool) (i : ℕ) (o : Option ℕ) → r ≡ false → Some i ≡ o → Some (suc i) ≡ (if r then Some 0 else option_map suc o)
later_step true i o e f = absurd (false≢true (sym e))
later_step false i o e f = ap (option_map suc) f

-- the first of all is where the key stands
pub is_position : (key : PureValue) (rows : List Value) (found : Option ℕ) → IsFirst key rows 0 found → found ≡ key_position key (map pure_value rows)
is_position key [] None h = refl
is_position key [] (Some i) h = absurd (omega (arith, h.1))
is_position key (x ∷ rows) None h =
    none_step (same_key key (pure_value x)) (key_position key (map pure_value rows)) (h 0 (omega arith) (omega arith)) (is_position key rows None (λ j from below. h (suc j) (omega arith) (omega (arith, below))))
is_position key (x ∷ rows) (Some zero) h = here_step (same_key key (pure_value x)) (key_position key (map pure_value rows)) h.2
is_position key (x ∷ rows) (Some (suc i)) h =
    later_step (same_key key (pure_value x)) i (key_position key (map pure_value rows)) (h.3 0 (omega arith) (omega arith))
    (is_position key rows (Some i) (omega arith, omega (arith, h.1), h.2, λ j from below. h.3 (suc j) (omega arith) (omega (arith, below))))

pub goes_down : (heads links : List ℕ) (rows : List Value) (i c next : ℕ) → IsIndex heads links (map hash_of rows) → i ≡ c - 1 → 0 < c → c ≤ length rows → next ≡ get_or links i 0 → next < c
goes_down heads links rows i c next fits e some within f =
    let many : length (map hash_of rows) ≡ length rows = length-map rows hash_of in
    let last = fits.of_links i (omega arith) in
    let less : next ≤ i = rw f last.within in
    omega arith

pub found_at_end : (buckets bucket : ℕ) (key : PureValue) (rows : List Value) (c : ℕ) (found : Option ℕ) → IsWalk buckets bucket key rows c found → c ≤ 0 → found ≡ key_position key (map pure_value rows)
found_at_end buckets bucket key rows c found walk ended =
    let zero_is : c ≡ 0 = omega arith in
    is_position key rows found (subst (λ (k : ℕ). IsFirst key rows k found) zero_is walk.first)

first_within : (key : PureValue) (rows : List Value) (c : ℕ) (found : Option ℕ) → IsFirst key rows c found → IfSome found (λ i. i < length rows)
first_within key rows c None h = tt
first_within key rows c (Some i) h = h.1

pub found_within : (buckets bucket : ℕ) (key : PureValue) (rows : List Value) (c : ℕ) (found : Option ℕ) → IsWalk buckets bucket key rows c found → IfSome found (λ i. i < length rows)
found_within buckets bucket key rows c found walk = first_within key rows c found walk.first
