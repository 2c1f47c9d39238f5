-- The test for new byte strings tells whether all differ.
use Rattle.std.proofs.Common.{◌≡◌, ◌≢◌, ℕ, Bool, true, false, not, ◌&&◌, ◌||◌, List, [], ◌∷◌, ◌++◌, map, refl, sym, ap, subst, ◌∙◌}
use Rattle.std.proofs.lemmas.List.Folds.{list_any-append}
use Rattle.std.proofs.lemmas.Slice.Eq.{bytes_eq-Decides}
use Rattle.std.specs.List.{AllByRecursion}
use Rattle.std.specs.Str.{bytes_eq}
use Rattle.cad_values.specs.Keys.{Distinct}
use Rattle.cad_codec.specs.Code.Seen.{has_bytes}
use Rattle.cad_codec.specs.Code.Values.{all_new}

both : (a b : Bool) → (a && b) ≡ true → (a ≡ true) × (b ≡ true)
both true b e = (refl, e)
both false b e = absurd cc

negated : (a : Bool) → not a ≡ true → a ≡ false
negated true e = absurd cc
negated false e = refl

neither : (a b : Bool) → (a || (b || false)) ≡ false → (a ≡ false) × (b ≡ false)
neither true b e = absurd cc
neither false true e = absurd cc
neither false false e = (refl, refl)

-- whether a byte string is one of some, or one more
one_more : (seen : List (List ℕ)) (x y : List ℕ) → has_bytes (seen ++ x ∷ []) y ≡ (has_bytes seen y || (bytes_eq x y || false))
one_more seen x y = list_any-append (λ k. bytes_eq k y) seen (x ∷ [])

others : (x y : List ℕ) → bytes_eq x y ≡ false → y ≢ x
others x y e same = let wrong : true ≡ false = sym ((bytes_eq-Decides x y).1 (sym same)) ∙ e in absurd cc

no_others : (x y : List ℕ) (b : Bool) → bytes_eq x y ≡ b → y ≢ x → bytes_eq x y ≡ false
no_others x y true e other = absurd (other (sym ((bytes_eq-Decides x y).0 e)))
no_others x y false e other = e

each : {A : Type 0} (P Q : A → Type 0) → ((a : A) → P a → Q a) → (xs : List A) → AllByRecursion P xs → AllByRecursion Q xs
each P Q step [] all = tt
each P Q step (x ∷ xs) all = (step x all.0, each P Q step xs all.1)

each_two : {A : Type 0} (P Q R : A → Type 0) → ((a : A) → P a → Q a → R a) → (xs : List A) → AllByRecursion P xs → AllByRecursion Q xs → AllByRecursion R xs
each_two P Q R step [] ps qs = tt
each_two P Q R step (x ∷ xs) ps qs = (step x ps.0 qs.0, each_two P Q R step xs ps.1 qs.1)

pub new_differ : (seen xs : List (List ℕ)) → all_new seen xs ≡ true → AllByRecursion (λ x. has_bytes seen x ≡ false) xs × Distinct xs
new_differ seen [] e = (tt, tt)
new_differ seen (x ∷ xs) e =
    let b = both (not (has_bytes seen x)) (all_new (seen ++ x ∷ []) xs) e in
    let rest = new_differ (seen ++ x ∷ []) xs b.1 in
    let apart : (y : List ℕ) → has_bytes (seen ++ x ∷ []) y ≡ false → (has_bytes seen y ≡ false) × (bytes_eq x y ≡ false) = λ y h. neither (has_bytes seen y) (bytes_eq x y) (sym (one_more seen x y) ∙ h) in (
      (negated (has_bytes seen x) b.0, each (λ y. has_bytes (seen ++ x ∷ []) y ≡ false) (λ y. has_bytes seen y ≡ false) (λ y h. (apart y h).0) xs rest.0),
      (each (λ y. has_bytes (seen ++ x ∷ []) y ≡ false) (λ y. y ≢ x) (λ y h. others x y (apart y h).1) xs rest.0, rest.1),
    )

pub differ_new : (seen xs : List (List ℕ)) → AllByRecursion (λ x. has_bytes seen x ≡ false) xs → Distinct xs → all_new seen xs ≡ true
differ_new seen [] none apart = refl
differ_new seen (x ∷ xs) none apart =
    let rest : AllByRecursion (λ y. has_bytes (seen ++ x ∷ []) y ≡ false) xs =
    each_two (λ y. has_bytes seen y ≡ false) (λ y. y ≢ x) (λ y. has_bytes (seen ++ x ∷ []) y ≡ false)
    (λ y h k. one_more seen x y ∙ (λ i. h i || (no_others x y (bytes_eq x y) refl k i || false))) xs none.1 apart.0 in
    (λ i. not (none.0 i) && all_new (seen ++ x ∷ []) xs) ∙ differ_new (seen ++ x ∷ []) xs rest apart.1

nothing_seen : (xs : List (List ℕ)) → AllByRecursion (λ x. has_bytes [] x ≡ false) xs
nothing_seen [] = tt
nothing_seen (x ∷ xs) = (refl, nothing_seen xs)

pub all_differ : (xs : List (List ℕ)) → all_new [] xs ≡ true → Distinct xs
all_differ xs e = (new_differ [] xs e).1

pub differ_all : (xs : List (List ℕ)) → Distinct xs → all_new [] xs ≡ true
differ_all xs apart = differ_new [] xs (nothing_seen xs) apart

-- what is seen by two functions that tell the same items apart
mapped : {A B C : Type 0} (f : A → B) (g : A → C) (V : A → Type 0) → ((a b : A) → V a → V b → g a ≡ g b → f a ≡ f b) → (x : A) → V x → (xs : List A) → AllByRecursion V xs
    → AllByRecursion (λ y. y ≢ f x) (map f xs) → AllByRecursion (λ y. y ≢ g x) (map g xs)
mapped f g V tells x valid [] all apart = tt
mapped f g V tells x valid (y ∷ xs) all apart = (λ e. apart.0 (tells y x all.0 valid e), mapped f g V tells x valid xs all.1 apart.1)

pub distinct_by : {A B C : Type 0} (f : A → B) (g : A → C) (V : A → Type 0) → ((a b : A) → V a → V b → g a ≡ g b → f a ≡ f b) → (xs : List A) → AllByRecursion V xs → Distinct (map f xs) → Distinct (map g xs)
distinct_by f g V tells [] all apart = tt
distinct_by f g V tells (x ∷ xs) all apart = (mapped f g V tells x all.0 xs all.1 apart.0, distinct_by f g V tells xs all.1 apart.1)
