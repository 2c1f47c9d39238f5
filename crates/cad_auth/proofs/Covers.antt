-- What the tests of grants say.
use Rattle.std.proofs.Common.{◌≡◌, Bool, true, ◌↔◌, IsTrue, List, [], ◌∷◌, Contains, refl, sym, ◌∙◌, subst, inl, inr}
use Rattle.cad_syntax.specs.TypeIds.{has}
use Rattle.cad_syntax.specs.declared.type_id.TypeId.{TypeId}
use Rattle.cad_syntax.specs.declared.types.Authorization.{Authorization}
use Rattle.cad_syntax.specs.declared.types.Authorization.TheVariants.{Unauthorized, All, Any}
use Rattle.cad_syntax.proofs.Members.{contains_nothing, contains_first, some_passes, passes_some, each_passes, passes_each, contains_map, map_contains, contains_cases}
use Rattle.cad_syntax.proofs.Same.{has_tells}
use Rattle.cad_auth.specs.Grants.{single, sets, Includes, Covers, Grants}
use Rattle.cad_auth.specs.Code.Tests.{is_enough, grants}
use Rattle.cad_auth.specs.Images.{includes}

pub has_to : (set : List TypeId) (e : TypeId) → has set e ≡ true → Contains set e
has_to set e h = (has_tells (has set e) set e refl).0 h

pub to_has : (set : List TypeId) (e : TypeId) → Contains set e → has set e ≡ true
to_has set e c = (has_tells (has set e) set e refl).1 c

pub includes_to : (set part : List TypeId) → includes set part ≡ true → Includes set part
includes_to set part h e c = has_to set e (each_passes (has set) part h e c)

pub to_includes : (set part : List TypeId) → Includes set part → includes set part ≡ true
to_includes set part h = passes_each (has set) part (λ e c. to_has set e (h e c))

-- the set contains one of those
abbrev pub Enough : List TypeId → List (List TypeId) → Type 0
Enough set those = (part : List TypeId) × Contains those part × Includes set part

empty_enough : (set : List TypeId) → Enough set ([] ∷ [])
empty_enough set = ([], contains_first [] [], λ e c. absurd (contains_nothing e c))

pub only_one : {A : Type 0} (x y : A) → Contains (x ∷ []) y → x ≡ y
only_one x y c = elim (contains_cases x [] y c) [ inl e ↦ e | inr n ↦ absurd (contains_nothing y n) ]

pub only_first : (e x : TypeId) → Contains (single e) x → e ≡ x
only_first e x c = only_one e x c

enough_to : (set : List TypeId) (need : Authorization) → is_enough set need ≡ true → Enough set (sets need)
enough_to set Unauthorized h = empty_enough set
enough_to set (All l) h = (l, contains_first l [], includes_to set l h)
enough_to set (Any []) h = empty_enough set
enough_to set (Any (first ∷ others)) h =
    let found = some_passes (has set) (first ∷ others) h in
    (single found.0, contains_map single (first ∷ others) found.0 found.1, λ e c. rw (← only_first found.0 e c) (has_to set found.0 found.2))

to_enough : (set : List TypeId) (need : Authorization) → Enough set (sets need) → is_enough set need ≡ true
to_enough set Unauthorized e = refl
to_enough set (All l) e = to_includes set l (subst (λ (p : List TypeId). Includes set p) (sym (only_one l e.0 e.1)) e.2)
to_enough set (Any []) e = refl
to_enough set (Any (first ∷ others)) e =
    let found = map_contains single (first ∷ others) e.0 e.1 in
    let inside = subst (λ (p : List TypeId). Includes set p) (sym found.2) e.2 in
    passes_some (has set) (first ∷ others) found.0 found.1 (to_has set found.0 (inside found.0 (contains_first found.0 [])))

grants_to : (holder need : Authorization) → grants holder need ≡ true → Grants holder need
grants_to Unauthorized need h set c = rw (← only_one [] set c) (enough_to [] need h)
grants_to (All l) need h set c = rw (← only_one l set c) (enough_to l need h)
grants_to (Any []) need h set c = rw (← only_one [] set c) (enough_to [] need h)
grants_to (Any (first ∷ others)) need h set c =
    let found = map_contains single (first ∷ others) set c in
    rw (← found.2) (enough_to (single found.0) need (each_passes (λ e. is_enough (single e) need) (first ∷ others) h found.0 found.1))

to_grants : (holder need : Authorization) → Grants holder need → grants holder need ≡ true
to_grants Unauthorized need g = to_enough [] need (g [] (contains_first [] []))
to_grants (All l) need g = to_enough l need (g l (contains_first l []))
to_grants (Any []) need g = to_enough [] need (g [] (contains_first [] []))
to_grants (Any (first ∷ others)) need g =
    passes_each (λ e. is_enough (single e) need) (first ∷ others) (λ e c. to_enough (single e) need (g (single e) (contains_map single (first ∷ others) e c)))

-- the test of grants tells whether the holder's authorization grants what is needed
pub grants_tells : (r : Bool) (holder need : Authorization) → r ≡ grants holder need → (IsTrue r ↔ Grants holder need)
grants_tells r holder need e = (λ yes. grants_to holder need (sym e ∙ yes), λ g. e ∙ to_grants holder need g)

pub covers_itself : (these : List (List TypeId)) → Covers these these
covers_itself these set c = (set, c, λ e h. h)

pub covers_on : (a b c : List (List TypeId)) → Covers a b → Covers b c → Covers a c
covers_on a b c ab bc set there =
    let middle = ab set there in
    let last = bc middle.0 middle.1 in
    (last.0, last.1, λ e h. middle.2 e (last.2 e h))
