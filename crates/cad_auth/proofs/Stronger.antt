-- The image of a stronger authorization is stronger.
use Rattle.std.proofs.Common.{◌≡◌, ℕ, zero, suc, ◌+◌, ◌<◌, ◌≤◌, Bool, true, false, not, cond, ◌&&◌, ◌||◌, ◌==◌, Some, None, List, [], ◌∷◌, ◌++◌, length, map, filter, fold, Contains, refl, ap, sym, ◌∙◌, subst, ◌⊎◌, inl, inr, arith}
use Rattle.std.proofs.lemmas.Bool.{false≢true, eqb-true}
use Rattle.std.proofs.lemmas.List.Elements.{Contains-append_cases, Contains-append_left, Contains-append_right, Contains-push}
use Rattle.std.specs.List.{list_any, list_all, flat_map}
use Rattle.cad_syntax.specs.TypeIds.{has}
use Rattle.cad_syntax.specs.declared.type_id.TypeId.{TypeId}
use Rattle.cad_syntax.specs.declared.types.Authorization.{Authorization}
use Rattle.cad_syntax.specs.declared.types.Authorization.TheVariants.{Unauthorized, All, Any}
use Rattle.cad_syntax.proofs.Members.{contains_nothing, contains_first, contains_later, contains_cases, some_passes, passes_some, each_passes, contains_map, map_contains, and_both}
use Rattle.cad_auth.specs.declared.mapping.Mapping.{Mapping}
use Rattle.cad_auth.specs.Grants.{single, sets, Includes, Covers, Grants}
use Rattle.cad_auth.specs.Images.{includes, targets_of, with_once, replaced, same_set, with_set, distinct, is_least, least, targets, members, is_named, among, conjunction, read, image}
use Rattle.cad_auth.proofs.Covers.{has_to, to_has, includes_to, to_includes, covers_on, only_one, only_first}

pub none_some : {A : Type 0} {x : A} → None ≡ Some x → ⊥
none_some e = cc

-- Lists with each member once.

once_here : (xs : List TypeId) (x : TypeId) (b : Bool) → has xs x ≡ b → Contains (cond b xs (xs ++ x ∷ [])) x
once_here xs x true e = has_to xs x e
once_here xs x false e = Contains-push xs x

once_left : (xs : List TypeId) (x y : TypeId) (b : Bool) → Contains xs y → Contains (cond b xs (xs ++ x ∷ [])) y
once_left xs x y true c = c
once_left xs x y false c = Contains-append_left xs (x ∷ []) y c

once_cases : {A : Type 0} (xs : List A) (x y : A) (b : Bool) → Contains (cond b xs (xs ++ x ∷ [])) y → Contains xs y ⊎ (x ≡ y)
once_cases xs x y true c = inl c
once_cases xs x y false c = elim (Contains-append_cases xs (x ∷ []) y c) [ inl l ↦ inl l | inr r ↦ inr (only_one x y r) ]

kept_once : (xs acc : List TypeId) (e : TypeId) → Contains acc e → Contains (fold with_once acc xs) e
kept_once [] acc e c = c
kept_once (x ∷ xs) acc e c = kept_once xs (with_once acc x) e (once_left acc x e (has acc x) c)

added_once : (xs acc : List TypeId) (e : TypeId) → Contains xs e → Contains (fold with_once acc xs) e
added_once [] acc e c = absurd (contains_nothing e c)
added_once (x ∷ xs) acc e c = elim (contains_cases x xs e c) [
  | inl same ↦ kept_once xs (with_once acc x) e (rw (← same) (once_here acc x (has acc x) refl))
  | inr rest ↦ added_once xs (with_once acc x) e rest
]

from_once : (xs acc : List TypeId) (e : TypeId) → Contains (fold with_once acc xs) e → Contains acc e ⊎ Contains xs e
from_once [] acc e c = inl c
from_once (x ∷ xs) acc e c = elim (from_once xs (with_once acc x) e c) [
  | inl early ↦ elim (once_cases acc x e (has acc x) early) [ inl l ↦ inl l | inr same ↦ inr (rw (← same) (contains_first x xs)) ]
  | inr late ↦ inr (contains_later x xs e late)
]

-- The targets of a set.

flat_map_contains : {A B : Type 0} (f : A → List B) (xs : List A) (y : B) → Contains (flat_map f xs) y → (x : A) × Contains xs x × Contains (f x) y
flat_map_contains f [] y c = absurd (contains_nothing y c)
flat_map_contains f (x ∷ xs) y c = elim (Contains-append_cases (f x) (flat_map f xs) y c) [
  | inl l ↦ (x, contains_first x xs, l)
  | inr r ↦ let rest = flat_map_contains f xs y r in (rest.0, contains_later x xs rest.0 rest.1, rest.2)
]

contains_flat_map : {A B : Type 0} (f : A → List B) (xs : List A) (x : A) (y : B) → Contains xs x → Contains (f x) y → Contains (flat_map f xs) y
contains_flat_map f [] x y c d = absurd (contains_nothing x c)
contains_flat_map f (z ∷ zs) x y c d = elim (contains_cases z zs x c) [
  | inl same ↦ Contains-append_left (f z) (flat_map f zs) y (subst (λ w. Contains (f w) y) (sym same) d)
  | inr rest ↦ Contains-append_right (f z) (flat_map f zs) y (contains_flat_map f zs x y rest d)
]

-- more members have more targets
replaced_grows : (m : Mapping) (set part : List TypeId) → Includes set part → Includes (replaced m set) (replaced m part)
replaced_grows m set part inside e c = elim (from_once (flat_map (targets_of m) part) [] e c) [
  | inl none ↦ absurd (contains_nothing e none)
  | inr there ↦
      let from = flat_map_contains (targets_of m) part e there in
      added_once (flat_map (targets_of m) set) [] e (contains_flat_map (targets_of m) set from.0 e (inside from.0 from.1) from.2)
]

pub replaced_covers : (m : Mapping) (a b : List (List TypeId)) → Covers a b → Covers (map (replaced m) a) (map (replaced m) b)
replaced_covers m a b h set c =
    let from = map_contains (replaced m) a set c in
    let to = h from.0 from.1 in
    (replaced m to.0, contains_map (replaced m) b to.0 to.1, subst (λ s. Includes s (replaced m to.0)) from.2 (replaced_grows m from.0 to.0 to.2))

-- One of several equal sets.

same_to : (a b : List TypeId) → same_set a b ≡ true → Includes a b
same_to a b e = includes_to a b (and_both (includes a b) (includes b a) e).0

set_here : (these : List (List TypeId)) (set : List TypeId) (b : Bool) → list_any (same_set set) these ≡ b → (part : List TypeId) × Contains (cond b these (these ++ set ∷ [])) part × Includes set part
set_here these set true e =
    let found = some_passes (same_set set) these e in
    (found.0, found.1, same_to set found.0 found.2)
set_here these set false e = (set, Contains-push these set, λ x h. h)

set_left : (these : List (List TypeId)) (set other : List TypeId) (b : Bool) → Contains these other → Contains (cond b these (these ++ set ∷ [])) other
set_left these set other true c = c
set_left these set other false c = Contains-append_left these (set ∷ []) other c

sets_kept : (more these : List (List TypeId)) (set : List TypeId) → Contains these set → Contains (fold with_set these more) set
sets_kept [] these set c = c
sets_kept (x ∷ more) these set c = sets_kept more (with_set these x) set (set_left these x set (list_any (same_set x) these) c)

sets_added : (more these : List (List TypeId)) (set : List TypeId) → Contains more set → (part : List TypeId) × Contains (fold with_set these more) part × Includes set part
sets_added [] these set c = absurd (contains_nothing set c)
sets_added (x ∷ more) these set c = elim (contains_cases x more set c) [
  | inl same ↦
      let found = set_here these x (list_any (same_set x) these) refl in
      (found.0, sets_kept more (with_set these x) found.0 found.1, subst (λ s. Includes s found.0) same found.2)
  | inr rest ↦ sets_added more (with_set these x) set rest
]

sets_from : (more these : List (List TypeId)) (set : List TypeId) → Contains (fold with_set these more) set → Contains these set ⊎ Contains more set
sets_from [] these set c = inl c
sets_from (x ∷ more) these set c = elim (sets_from more (with_set these x) set c) [
  | inl early ↦ elim (once_cases these x set (list_any (same_set x) these) early) [ inl l ↦ inl l | inr same ↦ inr (rw (← same) (contains_first x more)) ]
  | inr late ↦ inr (contains_later x more set late)
]

covers_distinct : (these : List (List TypeId)) → Covers these (distinct these)
covers_distinct these set c = sets_added these [] set c

distinct_from : (these : List (List TypeId)) (set : List TypeId) → Contains (distinct these) set → Contains these set
distinct_from these set c = elim (sets_from these [] set c) [ inl none ↦ absurd (contains_nothing set none) | inr there ↦ there ]

-- Sets that contain no other.

filter_step : {A : Type 0} (p : A → Bool) (y : A) (ys : List A) (x : A) → (Contains (filter p ys) x → Contains ys x × (p x ≡ true)) → (b : Bool) → p y ≡ b → Contains (cond b (y ∷ filter p ys) (filter p ys)) x → Contains (y ∷ ys) x × (p x ≡ true)
filter_step p y ys x rest true e c = elim (contains_cases y (filter p ys) x c) [
  | inl same ↦ (subst (λ z. Contains (y ∷ ys) z) same (contains_first y ys), subst (λ z. p z ≡ true) same e)
  | inr later ↦ let r = rest later in (contains_later y ys x r.0, r.1)
]
filter_step p y ys x rest false e c = let r = rest c in (contains_later y ys x r.0, r.1)

pub filter_contains : {A : Type 0} (p : A → Bool) (xs : List A) (x : A) → Contains (filter p xs) x → Contains xs x × (p x ≡ true)
filter_contains p [] x c = absurd (contains_nothing x c)
filter_contains p (y ∷ ys) x c = filter_step p y ys x (filter_contains p ys x) (p y) refl c

filter_later : {A : Type 0} (p : A → Bool) (y : A) (ys : List A) (x : A) (b : Bool) → Contains (filter p ys) x → Contains (cond b (y ∷ filter p ys) (filter p ys)) x
filter_later p y ys x true c = contains_later y (filter p ys) x c
filter_later p y ys x false c = c

contains_filter : {A : Type 0} (p : A → Bool) (xs : List A) (x : A) → Contains xs x → p x ≡ true → Contains (filter p xs) x
contains_filter p [] x c e = absurd (contains_nothing x c)
contains_filter p (y ∷ ys) x c e = elim (contains_cases y ys x c) [
  | inl same ↦ let yes : p y ≡ true = subst (λ z. p z ≡ true) (sym same) e in rw yes (subst (λ z. Contains (y ∷ filter p ys) z) same (contains_first y (filter p ys)))
  | inr rest ↦ filter_later p y ys x (p y) (contains_filter p ys x rest e)
]

-- how many of these sets are smaller parts of this one
abbrev smaller : List TypeId → List TypeId → Bool
smaller set other = includes set other && not (includes other set)

how_many : {A : Type 0} → (A → Bool) → List A → ℕ
how_many p [] = 0
how_many p (x ∷ xs) = cond (p x) 1 0 + how_many p xs

one_le : (a b : Bool) → (a ≡ true → b ≡ true) → cond a 1 0 ≤ cond b 1 0
one_le true b h = rw (h refl) (omega arith)
one_le false true h = omega arith
one_le false false h = omega arith

many_le : {A : Type 0} (p q : A → Bool) (xs : List A) → ((x : A) → p x ≡ true → q x ≡ true) → how_many p xs ≤ how_many q xs
unfolding how_many
many_le p q [] h = omega arith
many_le p q (x ∷ xs) h = omega (arith, one_le (p x) (q x) (h x), many_le p q xs h)

many_lt : {A : Type 0} (p q : A → Bool) (xs : List A) (x : A) → ((x : A) → p x ≡ true → q x ≡ true) → Contains xs x → p x ≡ false → q x ≡ true → how_many p xs < how_many q xs
unfolding how_many
many_lt p q [] x h c out in_q = absurd (contains_nothing x c)
many_lt p q (y ∷ ys) x h c out in_q = elim (contains_cases y ys x c) [
  | inl same ↦
      let out' : p y ≡ false = subst (λ z. p z ≡ false) (sym same) out in
      let in' : q y ≡ true = subst (λ z. q z ≡ true) (sym same) in_q in
      rw (out', in') (omega (arith, many_le p q ys h))
  | inr rest ↦ omega (arith, one_le (p y) (q y) (h y), many_lt p q ys x h rest out in_q)
]

some_fails : {A : Type 0} (test : A → Bool) (xs : List A) → list_all test xs ≡ false → (x : A) × Contains xs x × (test x ≡ false)
some_fails {A = A} test [] e = absurd (false≢true (sym e))
some_fails {A = A} test (x ∷ xs) e = go (test x) refl e (some_fails test xs)
  where
    go : (b : Bool) → test x ≡ b → (b && list_all test xs) ≡ false → (list_all test xs ≡ false → (y : A) × Contains xs y × (test y ≡ false)) → (y : A) × Contains (x ∷ xs) y × (test y ≡ false)
    go true t e rest = let r = rest e in (r.0, contains_later x xs r.0 r.1, r.2)
    go false t e rest = (x, contains_first x xs, t)

smaller_from : (a b : Bool) → (not a || b) ≡ false → (a && not b) ≡ true
smaller_from true true e = absurd (false≢true (sym e))
smaller_from true false e = refl
smaller_from false b e = absurd (false≢true (sym e))

not_least : (these : List (List TypeId)) (set : List TypeId) → is_least these set ≡ false → (other : List TypeId) × Contains these other × (smaller set other ≡ true)
not_least these set e =
    let found = some_fails (λ other. not (includes set other) || includes other set) these e in
    (found.0, found.1, smaller_from (includes set found.0) (includes found.0 set) found.2)

not_false : (b : Bool) → not b ≡ true → b ≡ false
not_false true e = absurd (false≢true e)
not_false false e = refl

false_not : (b : Bool) → b ≡ false → not b ≡ true
false_not b e = rw e refl

smaller_parts : (set other : List TypeId) → smaller set other ≡ true → (includes set other ≡ true) × (includes other set ≡ false)
smaller_parts set other e =
    let both = and_both (includes set other) (not (includes other set)) e in
    (both.0, not_false (includes other set) both.1)

and_true : (a b : Bool) → a ≡ true → b ≡ true → (a && b) ≡ true
and_true a b p q = rw (p, q) refl

not_true : (b : Bool) → (b ≡ true → ⊥) → b ≡ false
not_true true h = absurd (h refl)
not_true false h = refl

smaller_on : (set other third : List TypeId) → smaller set other ≡ true → smaller other third ≡ true → smaller set third ≡ true
smaller_on set other third a b =
    let first = smaller_parts set other a in
    let second = smaller_parts other third b in
    let inside = includes_to set other first.0 in
    let inside' = includes_to other third second.0 in
    and_true (includes set third) (not (includes third set))
    (to_includes set third (λ x h. inside x (inside' x h)))
    (false_not (includes third set) (not_true (includes third set) (λ h.
    let back = includes_to third set h in
    false≢true (sym second.1 ∙ to_includes third other (λ x k. back x (inside x k))))))

not_smaller_itself : (set : List TypeId) → smaller set set ≡ false
not_smaller_itself set = not_true (smaller set set) (λ h. let parts = smaller_parts set set h in false≢true (sym parts.1 ∙ parts.0))

-- each set contains one that contains no other
reaches_least : (n : ℕ) (these : List (List TypeId)) (set : List TypeId) → how_many (smaller set) these < n → Contains these set → (b : Bool) → is_least these set ≡ b → (part : List TypeId) × Contains (least these) part × Includes set part
reaches_least zero these set few c b e = absurd (omega arith)
reaches_least (suc n) these set few c true e = (set, contains_filter (is_least these) these set c e, λ x h. h)
reaches_least (suc n) these set few c false e =
    let other = not_least these set e in
    let parts = smaller_parts set other.0 other.2 in
    let fewer : how_many (smaller other.0) these < how_many (smaller set) these = many_lt (smaller other.0) (smaller set) these other.0 (λ x h. smaller_on set other.0 x other.2 h) other.1 (not_smaller_itself other.0) other.2 in
    let found = reaches_least n these other.0 (omega arith) other.1 (is_least these other.0) refl in
    (found.0, found.1, λ x h. includes_to set other.0 parts.0 x (found.2 x h))

covers_least : (these : List (List TypeId)) → Covers these (least these)
covers_least these set c = reaches_least (suc (how_many (smaller set) these)) these set (omega arith) c (is_least these set) refl

least_from : (these : List (List TypeId)) (set : List TypeId) → Contains (least these) set → Contains these set
least_from these set c = (filter_contains (is_least these) these set c).0

-- Reading.

among_to : (these : List (List TypeId)) (order : List TypeId) (e : TypeId) → Contains (among these order) e → (set : List TypeId) × Contains these set × Contains set e
among_to these order e c =
    let found = some_passes (λ set. has set e) these (filter_contains (is_named these) order e c).1 in
    (found.0, found.1, has_to found.0 e found.2)

to_among : (these : List (List TypeId)) (order set : List TypeId) (e : TypeId) → Contains these set → Contains set e → Contains order e → Contains (among these order) e
to_among these order set e there inside ordered =
    contains_filter (is_named these) order e ordered (passes_some (λ set. has set e) these set there (to_has set e inside))

sets_conjunction : (l : List TypeId) → sets (conjunction l) ≡ l ∷ []
sets_conjunction [] = refl
sets_conjunction (e ∷ es) = refl

one_member : {A : Type 0} (xs : List A) → (length xs == 1) ≡ true → (x : A) × (xs ≡ x ∷ [])
one_member [] e = absurd (false≢true e)
one_member (x ∷ []) e = (x, refl)
one_member (x ∷ y ∷ xs) e = let h = eqb-true (length (x ∷ y ∷ xs)) 1 e in absurd (omega arith)

-- these sets and those contain each other's
abbrev Alike : List (List TypeId) → List (List TypeId) → Type 0
Alike these those = Covers these those × Covers those these

reads_one : (these : List (List TypeId)) (order : List TypeId) → ((set : List TypeId) → Contains these set → Includes order set) → (length these == 1) ≡ true → Alike (sets (conjunction (among these order))) these
reads_one these order ordered one =
    let only = one_member these one in
    let there : Contains these only.0 = subst (λ l. Contains l only.0) (sym only.1) (contains_first only.0 []) in
    let same : (set : List TypeId) → Contains these set → only.0 ≡ set = λ set c. only_one only.0 set (subst (λ l. Contains l set) only.1 c) in
    let down : Covers (among these order ∷ []) these = λ set c. (only.0, there, λ e h. subst (λ l. Contains l e) (only_one (among these order) set c) (to_among these order only.0 e there h (ordered only.0 there e h))) in
    let up : Covers these (among these order ∷ []) = λ set c. (among these order, contains_first (among these order) [], λ e h. let found = among_to these order e h in subst (λ s. Contains s e) (sym (same found.0 found.1) ∙ same set c) found.2) in
    rw (sets_conjunction (among these order)) (down, up)

choice : (l : List TypeId) (e : TypeId) → Contains l e → sets (Any l) ≡ map single l
choice [] e c = absurd (contains_nothing e c)
choice (x ∷ xs) e c = refl

reads_many : (these : List (List TypeId)) (order : List TypeId) (some : List TypeId) → Contains these some → ((set : List TypeId) → Contains these set → Includes order set) → list_all (λ set. length set == 1) these ≡ true → Alike (sets (Any (among these order))) these
reads_many these order some there ordered ones =
    let one : (set : List TypeId) → Contains these set → (x : TypeId) × (set ≡ x ∷ []) = λ set c. one_member set (each_passes (λ set. length set == 1) these ones set c) in
    let member : (set : List TypeId) (c : Contains these set) → Contains (among these order) (one set c).0 = λ set c.
    let inside : Contains set (one set c).0 = subst (λ l. Contains l (one set c).0) (sym (one set c).1) (contains_first (one set c).0 []) in
    to_among these order set (one set c).0 c inside (ordered set c (one set c).0 inside) in
    let down : Covers (map single (among these order)) these = λ set c.
    let from = map_contains single (among these order) set c in
    let found = among_to these order from.0 from.1 in
    let only = one found.0 found.1 in
    let same : only.0 ≡ from.0 = only_one only.0 from.0 (subst (λ s. Contains s from.0) only.1 found.2) in
    (found.0, found.1, λ e h. subst (λ s. Contains s e) (only.1 ∙ ap single same ∙ from.2) h) in
    let up : Covers these (map single (among these order)) = λ set c.
    (single (one set c).0, contains_map single (among these order) (one set c).0 (member set c), λ e h. subst (λ s. Contains s e) (sym (one set c).1) h) in
    rw (choice (among these order) (one some there).0 (member some there)) (down, up)

reads : (these : List (List TypeId)) (order : List TypeId) (some : List TypeId) (y : Authorization) → Contains these some → ((set : List TypeId) → Contains these set → Includes order set) → read these order ≡ Some y → Alike (sets y) these
reads these order some y there ordered e = go (length these == 1) refl (list_all (λ set. length set == 1) these) refl e
  where
    go : (a : Bool) → (length these == 1) ≡ a → (b : Bool) → list_all (λ set. length set == 1) these ≡ b → cond a (Some (conjunction (among these order))) (cond b (Some (Any (among these order))) None) ≡ Some y → Alike (sets y) these
    go true one b all e = let same : conjunction (among these order) ≡ y = cc in subst (λ z. Alike (sets z) these) same (reads_one these order ordered one)
    go false one true all e = let same : Any (among these order) ≡ y = cc in subst (λ z. Alike (sets z) these) same (reads_many these order some there ordered all)
    go false one false all e = absurd (none_some e)

-- The image.

members_include : (a : Authorization) (set : List TypeId) → Contains (sets a) set → Includes (members a) set
members_include Unauthorized set c e h = absurd (contains_nothing e (subst (λ s. Contains s e) (sym (only_one [] set c)) h))
members_include (All l) set c e h = subst (λ s. Contains s e) (sym (only_one l set c)) h
members_include (Any []) set c e h = absurd (contains_nothing e (subst (λ s. Contains s e) (sym (only_one [] set c)) h))
members_include (Any (first ∷ others)) set c e h =
    let from = map_contains single (first ∷ others) set c in
    let same = only_first from.0 e (subst (λ s. Contains s e) (sym from.2) h) in
    subst (λ x. Contains (first ∷ others) x) same from.1

some_set : (a : Authorization) → (set : List TypeId) × Contains (sets a) set
some_set Unauthorized = ([], contains_first [] [])
some_set (All l) = (l, contains_first l [])
some_set (Any []) = ([], contains_first [] [])
some_set (Any (first ∷ others)) = (single first, contains_first (single first) (map single others))

pub mapped_targets : (m : Mapping) (a : Authorization) → Alike (map (replaced m) (sets a)) (targets m a)
mapped_targets m a =
    let all = map (replaced m) (sets a) in (
      covers_on all (distinct all) (least (distinct all)) (covers_distinct all) (covers_least (distinct all)),
      λ set c. (set, distinct_from all set (least_from (distinct all) set c), λ e h. h),
    )

ordered_targets : (m : Mapping) (a : Authorization) (set : List TypeId) → Contains (targets m a) set → Includes (replaced m (members a)) set
ordered_targets m a set c =
    let all = map (replaced m) (sets a) in
    let from = map_contains (replaced m) (sets a) set (distinct_from all set (least_from (distinct all) set c)) in
    subst (λ s. Includes (replaced m (members a)) s) from.2 (replaced_grows m (members a) from.0 (members_include a from.0 from.1))

pub image_sets : (m : Mapping) (a y : Authorization) → image m a ≡ Some y → Alike (sets y) (map (replaced m) (sets a))
image_sets m a y e =
    let all = map (replaced m) (sets a) in
    let first = some_set a in
    let alike = mapped_targets m a in
    let there = alike.0 (replaced m first.0) (contains_map (replaced m) (sets a) first.0 first.1) in
    let read_so = reads (targets m a) (replaced m (members a)) there.0 y there.1 (ordered_targets m a) e in
    (covers_on (sets y) (targets m a) all read_so.0 alike.1, covers_on all (targets m a) (sets y) alike.0 read_so.1)

-- the image of a stronger authorization is stronger
pub image_stronger : (m : Mapping) (weak strong x y : Authorization) → Grants strong weak → image m weak ≡ Some x → image m strong ≡ Some y → Grants y x
image_stronger m weak strong x y h of_weak of_strong =
    let of_x = image_sets m weak x of_weak in
    let of_y = image_sets m strong y of_strong in
    let between = replaced_covers m (sets strong) (sets weak) h in
    covers_on (sets y) (map (replaced m) (sets strong)) (sets x) of_y.0
    (covers_on (map (replaced m) (sets strong)) (map (replaced m) (sets weak)) (sets x) between of_x.1)

-- what grants another authorization has targets that cover the other's image
pub targets_cover : (m : Mapping) (weak strong x : Authorization) → Grants strong weak → image m weak ≡ Some x → Covers (targets m strong) (sets x)
targets_cover m weak strong x h of_weak =
    covers_on (targets m strong) (map (replaced m) (sets strong)) (sets x) (mapped_targets m strong).1
    (covers_on (map (replaced m) (sets strong)) (map (replaced m) (sets weak)) (sets x) (replaced_covers m (sets strong) (sets weak) h) (image_sets m weak x of_weak).1)
