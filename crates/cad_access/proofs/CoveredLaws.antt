-- What a mapping makes of an authorization covers a right where it makes that of each set of it.
use Rattle.std.proofs.Common.{◌≡◌, ◌↔◌, Bool, true, false, ◌&&◌, ◌||◌, IsTrue, List, [], ◌∷◌, ◌++◌, map, cond, refl, sym, ap, ◌∙◌}
use Rattle.std.specs.Prelude.{fold}
use Rattle.std.specs.List.{filter, flat_map, list_any, list_all}
use Rattle.cad_syntax.specs.TypeIds.{same_id, has}
use Rattle.cad_syntax.specs.declared.type_id.TypeId.{TypeId}
use Rattle.cad_syntax.specs.declared.types.Authorization.{Authorization}
use Rattle.cad_syntax.specs.declared.types.Authorization.TheVariants.{Unauthorized, All, Any}
use Rattle.cad_syntax.proofs.Same.{ids_tell}
use Rattle.cad_auth.specs.Grants.{sets, single, Covers}
use Rattle.cad_auth.specs.Images.{targets_of, with_once, replaced, includes, targets}
use Rattle.cad_auth.specs.Tests.{covers}
use Rattle.cad_auth.specs.declared.mapping.Mapping.{Mapping}
use Rattle.cad_auth.proofs.CoverTests.{covers_tells}
use Rattle.cad_auth.proofs.Covers.{covers_on}
use Rattle.cad_auth.proofs.Stronger.{mapped_targets}
use Rattle.cad_access.specs.Covered.{maps_to, makes_all, makes_some, makes}
use Rattle.cad_access.proofs.Kept.{any_kept, same_tests}
use Rattle.cad_access.proofs.FieldTypes.{both_tell}

or_false : (b : Bool) → (b || false) ≡ b
or_false true = refl
or_false false = refl

or_grouped : (a b c : Bool) → ((a || b) || c) ≡ (a || (b || c))
or_grouped true b c = refl
or_grouped false b c = refl

any_joined : {X : Type 0} (f : X → Bool) (xs ys : List X) → list_any f (xs ++ ys) ≡ (list_any f xs || list_any f ys)
any_joined f [] ys = refl
any_joined f (x ∷ xs) ys = ap (λ (b : Bool). f x || b) (any_joined f xs ys) ∙ sym (or_grouped (f x) (list_any f xs) (list_any f ys))

any_mapped : {X Y : Type 0} (f : Y → Bool) (g : X → Y) (xs : List X) → list_any f (map g xs) ≡ list_any (λ x. f (g x)) xs
any_mapped f g [] = refl
any_mapped f g (x ∷ xs) = ap (λ (b : Bool). f (g x) || b) (any_mapped f g xs)

all_mapped : {X Y : Type 0} (f : Y → Bool) (g : X → Y) (xs : List X) → list_all f (map g xs) ≡ list_all (λ x. f (g x)) xs
all_mapped f g [] = refl
all_mapped f g (x ∷ xs) = ap (λ (b : Bool). f (g x) && b) (all_mapped f g xs)

same_alls : {X : Type 0} (f g : X → Bool) → ((x : X) → f x ≡ g x) → (xs : List X) → list_all f xs ≡ list_all g xs
same_alls f g same [] = refl
same_alls f g same (x ∷ xs) = ap (λ (b : Bool). b && list_all f xs) (same x) ∙ ap (λ (b : Bool). g x && b) (same_alls f g same xs)

-- ---- the targets of a set

itself : (b : Bool) (e to : TypeId) → has (cond b (e ∷ []) []) to ≡ (b && same_id e to)
itself true e to = or_false (same_id e to)
itself false e to = refl

of_pairs : (pairs : List (TypeId × TypeId)) (e to : TypeId) → has (map (λ pair. pair.1) (filter (λ pair. same_id pair.0 e) pairs)) to ≡ list_any (λ pair. same_id pair.0 e && same_id pair.1 to) pairs
of_pairs pairs e to =
    any_mapped (λ (other : TypeId). same_id other to) (λ (pair : TypeId × TypeId). pair.1) (filter (λ pair. same_id pair.0 e) pairs)
    ∙ any_kept (λ (pair : TypeId × TypeId). same_id pair.1 to) (λ pair. same_id pair.0 e) pairs

of_one : (m : Mapping) (e to : TypeId) → has (targets_of m e) to ≡ maps_to m to e
of_one m e to =
    any_joined (λ (other : TypeId). same_id other to) (cond m.identity (e ∷ []) []) (map (λ pair. pair.1) (filter (λ pair. same_id pair.0 e) m.pairs))
    ∙ ap (λ (b : Bool). b || has (map (λ pair. pair.1) (filter (λ pair. same_id pair.0 e) m.pairs)) to) (itself m.identity e to)
    ∙ ap (λ (b : Bool). m.identity && same_id e to || b) (of_pairs m.pairs e to)

-- an entitlement that is there stays the only one
once_more : (seen : List TypeId) (x to : TypeId) (b q : Bool) → has seen x ≡ b → same_id x to ≡ q → has (cond b seen (seen ++ x ∷ [])) to ≡ (has seen to || q)
once_more seen x to true true there same = sym (or_true (has seen to) (ap (has seen) (sym ((ids_tell x to).0 same)) ∙ there))
  where
    or_true : (b : Bool) → b ≡ true → (b || true) ≡ b
    or_true true e = refl
    or_true false e = sym e
once_more seen x to true false there same = sym (or_false (has seen to))
once_more seen x to false q there same = any_joined (λ (other : TypeId). same_id other to) seen (x ∷ []) ∙ ap (λ (b : Bool). has seen to || b) (or_false (same_id x to) ∙ same)

of_once : (xs seen : List TypeId) (to : TypeId) → has (fold with_once seen xs) to ≡ (has seen to || has xs to)
of_once [] seen to = sym (or_false (has seen to))
of_once (x ∷ xs) seen to =
    of_once xs (with_once seen x) to
    ∙ ap (λ (b : Bool). b || has xs to) (once_more seen x to (has seen x) (same_id x to) refl refl)
    ∙ or_grouped (has seen to) (same_id x to) (has xs to)

of_each : (g : TypeId → List TypeId) (set : List TypeId) (to : TypeId) → has (flat_map g set) to ≡ list_any (λ e. has (g e) to) set
of_each g [] to = refl
of_each g (e ∷ set) to = any_joined (λ (other : TypeId). same_id other to) (g e) (flat_map g set) ∙ ap (λ (b : Bool). has (g e) to || b) (of_each g set to)

of_set : (m : Mapping) (set : List TypeId) (to : TypeId) → has (replaced m set) to ≡ list_any (maps_to m to) set
of_set m set to = of_once (flat_map (targets_of m) set) [] to ∙ of_each (targets_of m) set to ∙ same_tests _ _ (λ e. of_one m e to) set

includes_made : (m : Mapping) (set part : List TypeId) → includes (replaced m set) part ≡ makes_all m set part
includes_made m set part = same_alls _ _ (λ to. of_set m set to) part

covers_made : (m : Mapping) (own right : Authorization) → covers (map (replaced m) (sets own)) (sets right) ≡ makes m own right
covers_made m own right =
    all_mapped (λ (set : List TypeId). list_any (includes set) (sets right)) (replaced m) (sets own)
    ∙ same_alls _ _ (λ set. same_tests _ _ (λ part. includes_made m set part) (sets right)) (sets own)

-- the targets cover what the replaced sets cover
covers_targets : (m : Mapping) (own right : Authorization) → covers (targets m own) (sets right) ≡ covers (map (replaced m) (sets own)) (sets right)
covers_targets m own right =
    let made = map (replaced m) (sets own) in
    let alike = mapped_targets m own in
    both_tell (Covers made (sets right)) (covers (targets m own) (sets right)) (covers made (sets right)) (
      λ e. covers_on made (targets m own) (sets right) alike.0 ((covers_tells (targets m own) (sets right)).0 e),
      λ h. (covers_tells (targets m own) (sets right)).1 (covers_on (targets m own) made (sets right) alike.1 h),
    )
    (covers_tells made (sets right))

pub covered_is : (m : Mapping) (own right : Authorization) → makes m own right ≡ covers (targets m own) (sets right)
covered_is m own right = sym (covers_targets m own right ∙ covers_made m own right)

-- ---- by the form of an authorization

and_true : (b : Bool) → (b && true) ≡ b
and_true true = refl
and_true false = refl

pub some_of_all : (m : Mapping) (set ids : List TypeId) → makes_some m (All ids) set ≡ makes_all m set ids
some_of_all m set ids = or_false (makes_all m set ids)

pub some_of_any : (m : Mapping) (set : List TypeId) (first : TypeId) (others : List TypeId) → makes_some m (Any (first ∷ others)) set ≡ list_any (λ to. list_any (maps_to m to) set) (first ∷ others)
some_of_any m set first others = any_mapped (makes_all m set) single (first ∷ others) ∙ same_tests _ _ (λ to. and_true (list_any (maps_to m to) set)) (first ∷ others)

pub each_of_all : (m : Mapping) (right : Authorization) (ids : List TypeId) → makes m (All ids) right ≡ makes_some m right ids
each_of_all m right ids = and_true (makes_some m right ids)

pub each_of_none : (m : Mapping) (right : Authorization) → makes m Unauthorized right ≡ makes_some m right []
each_of_none m right = and_true (makes_some m right [])

pub each_of_no_choice : (m : Mapping) (right : Authorization) → makes m (Any []) right ≡ makes_some m right []
each_of_no_choice m right = and_true (makes_some m right [])

pub each_of_any : (m : Mapping) (right : Authorization) (first : TypeId) (others : List TypeId) → makes m (Any (first ∷ others)) right ≡ list_all (λ from. makes_some m right (from ∷ [])) (first ∷ others)
each_of_any m right first others = all_mapped (makes_some m right) single (first ∷ others)
