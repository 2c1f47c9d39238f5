-- What is reached holds all to which its members lead.
use Rattle.std.specs.Prelude.{ℕ, zero, suc, ◌+◌, ◌≤◌, Bool, true, false, ◌||◌, List, [], ◌∷◌, ◌++◌, length, if◌then◌else◌}
use Rattle.std.specs.List.{list_any}
use Rattle.std.proofs.Common.{◌≡◌, ◌∙◌, refl, ap, sym, subst, arith}
use Rattle.std.proofs.lemmas.List.{length-append}
use Rattle.std.proofs.lemmas.List.Folds.{list_any-append}
use Rattle.cad_syntax.specs.TypeIds.{same_id, has}
use Rattle.cad_syntax.specs.declared.type_id.TypeId.{TypeId}
use Rattle.cad_syntax.proofs.Same.{ids_tell}
use Rattle.cad_declarations.specs.Code.Visits.{unseen, left}
use Rattle.cad_declarations.specs.Reached.{linked, reached, lengths, enough, reached_from, linearised}
use Rattle.cad_declarations.specs.declared.link.Link.{Link}

has_append : (a b : List TypeId) (id : TypeId) → has (a ++ b) id ≡ (has a id || has b id)
has_append a b id = list_any-append (λ other. same_id other id) a b

-- each of these is one of those
abbrev pub Within : List TypeId → List TypeId → Type 0
Within a b = (id : TypeId) → has a id ≡ true → has b id ≡ true

-- these have all to which they lead
abbrev pub IsWhole : List Link → List TypeId → Type 0
IsWhole links all = (x y : TypeId) → has all x ≡ true → has (linked links x) y ≡ true → has all y ≡ true

split_or : (a b : Bool) → (a || b) ≡ true → (b ≡ true → a ≡ true) → a ≡ true
split_or true b h f = refl
split_or false b h f = f h

or_left : (a b : Bool) → a ≡ true → (a || b) ≡ true
or_left a b h = grind (arith, h)

or_right : (a b : Bool) → b ≡ true → (a || b) ≡ true
or_right a b h = grind (arith, h)

within_append : (a b whole : List TypeId) → Within a whole → Within b whole → Within (a ++ b) whole
within_append a b whole p q id there = by (has a id) (has b id) refl refl (sym (has_append a b id) ∙ there)
  where
    by : (x y : Bool) → has a id ≡ x → has b id ≡ y → (x || y) ≡ true → has whole id ≡ true
    by true y is_x is_y h = p id is_x
    by false y is_x is_y h = q id (is_y ∙ h)

one_within : (x : TypeId) (whole : List TypeId) → has whole x ≡ true → Within (x ∷ []) whole
one_within x whole there id is = by (same_id x id) refl is
  where
    by : (q : Bool) → same_id x id ≡ q → (q || false) ≡ true → has whole id ≡ true
    by true same h = let P : TypeId → Type 0 = λ y. has whole y ≡ true in subst P ((ids_tell x id).0 same) there
    by false same h = absurd cc

first_there : (x : TypeId) (rest : List TypeId) → has (x ∷ rest) x ≡ true
first_there x rest = or_left (same_id x x) (has rest x) ((ids_tell x x).1 refl)

-- nothing else is reached than what is in a whole that has the beginning
pub reached_within : (n : ℕ) (links : List Link) (seen ahead whole : List TypeId) → IsWhole links whole → Within seen whole → Within ahead whole
    → Within (reached n links seen ahead) whole
reached_within zero links seen ahead whole w s a = s
reached_within (suc n) links seen [] whole w s a = s
reached_within (suc n) links seen (x ∷ ahead) whole w s a =
    by (has seen x)
    (reached_within n links seen ahead whole w s rest)
    (reached_within n links (seen ++ x ∷ []) (linked links x ++ ahead) whole w
    (within_append seen (x ∷ []) whole s (one_within x whole here))
    (within_append (linked links x) ahead whole (λ y there. w x y here there) rest))
  where
    here : has whole x ≡ true
    here = a x (first_there x ahead)

    rest : Within ahead whole
    rest id there = a id (or_right (same_id x id) (has ahead id) there)

    by : (q : Bool) → Within (reached n links seen ahead) whole → Within (reached n links (seen ++ x ∷ []) (linked links x ++ ahead)) whole
        → Within (if q then reached n links seen ahead else reached n links (seen ++ x ∷ []) (linked links x ++ ahead)) whole
    by true first second = first
    by false first second = second

-- ---- as many steps as are enough

-- what a link can still bring
abbrev brings : List TypeId → Link → ℕ
brings seen l = if has seen l.id then 0 else length l.to

brings_less : (seen : List TypeId) (id : TypeId) (l : Link) → brings (seen ++ id ∷ []) l ≤ brings seen l
brings_less seen id l = grind (arith, has_append seen (id ∷ []) l.id)

unseen_falls : (links : List Link) (seen : List TypeId) (id : TypeId) → unseen links (seen ++ id ∷ []) ≤ unseen links seen
unseen_falls [] seen id = omega arith
unseen_falls (l ∷ links) seen id = let a = brings_less seen id l in let b = unseen_falls links seen id in omega arith

-- what the first link of an identifier brings is no longer to come once it was seen
first_linked : (links : List Link) (seen : List TypeId) (id : TypeId) → has seen id ≡ false
    → length (linked links id) + unseen links (seen ++ id ∷ []) ≤ unseen links seen
first_linked [] seen id new = omega arith
first_linked (l ∷ links) seen id new = by_first (same_id l.id id) refl (first_linked links seen id new)
  where
    there : same_id l.id id ≡ true → has seen l.id ≡ false
    there same = ap (has seen) ((ids_tell l.id id).0 same) ∙ new

    again : same_id l.id id ≡ true → has (seen ++ id ∷ []) l.id ≡ true
    again same = ap (has (seen ++ id ∷ [])) ((ids_tell l.id id).0 same) ∙ has_append seen (id ∷ []) id ∙ grind (arith, (ids_tell id id).1 refl, new)

    by_first : (q : Bool) → same_id l.id id ≡ q → length (linked links id) + unseen links (seen ++ id ∷ []) ≤ unseen links seen
        → length (linked (l ∷ links) id) + unseen (l ∷ links) (seen ++ id ∷ []) ≤ unseen (l ∷ links) seen
    by_first true same others = let a = there same in let b = again same in let d = unseen_falls links seen id in grind (arith, same, a, b, d)
    by_first false other others = let b = brings_less seen id l in grind (arith, other, others, b)

all_unseen : (links : List Link) → unseen links [] ≡ lengths links
all_unseen [] = refl
all_unseen (l ∷ links) = ap (λ n. length l.to + n) (all_unseen links)

-- what was seen leads to what was seen or is ahead
abbrev Leads : List Link → List TypeId → List TypeId → Type 0
Leads links seen ahead = (x y : TypeId) → has seen x ≡ true → has (linked links x) y ≡ true → (has seen y || has ahead y) ≡ true

-- the result is whole, and has what was seen and what was ahead
pub record Reaches (links : List Link) (seen ahead all : List TypeId) : Type 0 where
  pub whole : IsWhole links all
  pub has_seen : Within seen all
  pub has_ahead : Within ahead all

over : (links : List Link) (seen : List TypeId) → Leads links seen [] → Reaches links seen [] seen
over links seen leads = record {
  whole = λ x y there next. split_or (has seen y) false (leads x y there next) (λ no. absurd cc);
  has_seen = λ id there. there;
  has_ahead = λ id there. absurd cc;
}

-- one that was seen before
leads_past : (links : List Link) (seen ahead : List TypeId) (x : TypeId) → has seen x ≡ true → Leads links seen (x ∷ ahead) → Leads links seen ahead
leads_past links seen ahead x was leads a b there next = by (same_id x b) refl (leads a b there next)
  where
    by : (q : Bool) → same_id x b ≡ q → (has seen b || (q || has ahead b)) ≡ true → (has seen b || has ahead b) ≡ true
    by true same h = or_left (has seen b) (has ahead b) (ap (has seen) (sym ((ids_tell x b).0 same)) ∙ was)
    by false same h = h

past : (links : List Link) (seen ahead all : List TypeId) (x : TypeId) → has seen x ≡ true → Reaches links seen ahead all → Reaches links seen (x ∷ ahead) all
past links seen ahead all x was r = record {
  whole = r.whole;
  has_seen = r.has_seen;
  has_ahead = within_append (x ∷ []) ahead all (one_within x all (r.has_seen x was)) r.has_ahead;
}

-- one that is seen now
leads_next : (links : List Link) (seen ahead : List TypeId) (x : TypeId) → Leads links seen (x ∷ ahead)
    → Leads links (seen ++ x ∷ []) (linked links x ++ ahead)
leads_next links seen ahead x leads a b there next = by (has seen a) refl (sym (has_append seen (x ∷ []) a) ∙ there)
  where
    swap : (p q r l : Bool) → (p || (q || r)) ≡ true → ((p || (q || false)) || (l || r)) ≡ true
    swap p q r l h = grind (arith, h)

    right : (p q l r : Bool) → l ≡ true → ((p || (q || false)) || (l || r)) ≡ true
    right p q l r h = grind (arith, h)

    goal_is : (has (seen ++ x ∷ []) b || has (linked links x ++ ahead) b) ≡ ((has seen b || (same_id x b || false)) || (has (linked links x) b || has ahead b))
    goal_is = ap (λ q. q || has (linked links x ++ ahead) b) (has_append seen (x ∷ []) b) ∙ ap (λ q. (has seen b || (same_id x b || false)) || q) (has_append (linked links x) ahead b)

    by : (q : Bool) → has seen a ≡ q → (q || (same_id x a || false)) ≡ true → (has (seen ++ x ∷ []) b || has (linked links x ++ ahead) b) ≡ true
    by true was h = goal_is ∙ swap (has seen b) (same_id x b) (has ahead b) (has (linked links x) b) (leads a b was next)
    by false was h =
        let same : same_id x a ≡ true = split_or (same_id x a) false h (λ no. absurd cc) in
        let led : has (linked links x) b ≡ true = ap (λ z. has (linked links z) b) ((ids_tell x a).0 same) ∙ next in
        goal_is ∙ right (has seen b) (same_id x b) (has (linked links x) b) (has ahead b) led

nexts : (links : List Link) (seen ahead all : List TypeId) (x : TypeId) → Reaches links (seen ++ x ∷ []) (linked links x ++ ahead) all
    → Reaches links seen (x ∷ ahead) all
nexts links seen ahead all x r = record {
  whole = r.whole;
  has_seen = λ id there. r.has_seen id (has_append seen (x ∷ []) id ∙ or_left (has seen id) (has (x ∷ []) id) there);
  has_ahead = within_append (x ∷ []) ahead all
      (one_within x all (r.has_seen x (has_append seen (x ∷ []) x ∙ or_right (has seen x) (has (x ∷ []) x) (first_there x []))))
      (λ id there. r.has_ahead id (has_append (linked links x) ahead id ∙ or_right (has (linked links x) id) (has ahead id) there));
}

pub reaches : (n : ℕ) (links : List Link) (seen ahead : List TypeId) → left links seen ahead ≤ n → Leads links seen ahead
    → Reaches links seen ahead (reached n links seen ahead)
reaches zero links seen [] few leads = over links seen leads
reaches zero links seen (x ∷ ahead) few leads = absurd (omega arith)
reaches (suc n) links seen [] few leads = over links seen leads
reaches (suc n) links seen (x ∷ ahead) few leads =
    by (has seen x) refl
    (λ was. reaches n links seen ahead (omega arith) (leads_past links seen ahead x was leads))
    (λ new.
    let f = first_linked links seen x new in
    let g = length-append (linked links x) ahead in
    reaches n links (seen ++ x ∷ []) (linked links x ++ ahead) (omega arith) (leads_next links seen ahead x leads))
  where
    by : (q : Bool) → has seen x ≡ q
        → (has seen x ≡ true → Reaches links seen ahead (reached n links seen ahead))
        → (has seen x ≡ false → Reaches links (seen ++ x ∷ []) (linked links x ++ ahead) (reached n links (seen ++ x ∷ []) (linked links x ++ ahead)))
        → Reaches links seen (x ∷ ahead) (if q then reached n links seen ahead else reached n links (seen ++ x ∷ []) (linked links x ++ ahead))
    by true was first second = past links seen ahead (reached n links seen ahead) x was (first was)
    by false new first second = nexts links seen ahead (reached n links (seen ++ x ∷ []) (linked links x ++ ahead)) x (second new)

-- all that is reached is whole, and has the beginning
pub all_reached : (links : List Link) (start : List TypeId) → Reaches links [] start (reached_from links start)
all_reached links start =
    let e = all_unseen links in
    reaches (enough links start) links [] start (omega arith) (λ x y there next. absurd cc)

-- of what is reached from an identifier all is reached in turn
pub reached_again : (links : List Link) (i j m : TypeId) → has (linearised links i) j ≡ true → has (linearised links j) m ≡ true → has (linearised links i) m ≡ true
reached_again links i j m first second =
    let all = all_reached links (linked links i) in
    reached_within (enough links (linked links j)) links [] (linked links j) (linearised links i) all.whole (λ id there. absurd cc)
    (λ id there. all.whole j id first there) m second
