-- What is reached leads to what is reached, and rests on the links of what is reached alone.
use Rattle.std.specs.Prelude.{ℕ, zero, suc, ◌+◌, ◌≤◌, Bool, true, false, ◌||◌, List, [], ◌∷◌, ◌++◌, length, if◌then◌else◌}
use Rattle.std.proofs.Common.{◌≡◌, ◌∙◌, refl, ap, sym, subst, ◌⊎◌, inl, inr, append_assoc, append-nil, arith}
use Rattle.std.proofs.lemmas.Bool.{false≢true}
use Rattle.cad_syntax.specs.TypeIds.{same_id, has}
use Rattle.cad_syntax.specs.declared.type_id.TypeId.{TypeId}
use Rattle.cad_syntax.proofs.Same.{ids_tell}
use Rattle.cad_declarations.specs.Reached.{linked, reached, lengths, enough, reached_from}
use Rattle.cad_declarations.specs.Code.Visits.{seen_after, next_after, unseen, left}
use Rattle.cad_declarations.specs.declared.link.Link.{Link}
use Rattle.cad_declarations.proofs.Visits.{has_append, falls, settled, at_first}

-- ---- lists of identifiers

abbrev pub Has : List TypeId → TypeId → Type 0
Has ids id = has ids id ≡ true

abbrev pub Within : List TypeId → List TypeId → Type 0
Within a b = (id : TypeId) → Has a id → Has b id

either_true : (a b : Bool) → (a || b) ≡ true → (a ≡ true) ⊎ (b ≡ true)
either_true true b h = inl refl
either_true false b h = inr h

left_true : (a b : Bool) → a ≡ true → (a || b) ≡ true
left_true true b h = refl
left_true false b h = absurd (false≢true h)

right_true : (a b : Bool) → b ≡ true → (a || b) ≡ true
right_true true b h = refl
right_true false b h = h

pub in_front : (a b : List TypeId) (id : TypeId) → Has a id → Has (a ++ b) id
in_front a b id h = has_append a b id ∙ left_true (has a id) (has b id) h

pub in_back : (a b : List TypeId) (id : TypeId) → Has b id → Has (a ++ b) id
in_back a b id h = has_append a b id ∙ right_true (has a id) (has b id) h

pub in_either : (a b : List TypeId) (id : TypeId) → Has (a ++ b) id → Has a id ⊎ Has b id
in_either a b id h = either_true (has a id) (has b id) (sym (has_append a b id) ∙ h)

pub at_head : (id : TypeId) (ids : List TypeId) → Has (id ∷ ids) id
at_head id ids = left_true (same_id id id) (has ids id) ((ids_tell id id).1 refl)

pub in_tail : (x : TypeId) (ids : List TypeId) (id : TypeId) → Has ids id → Has (x ∷ ids) id
in_tail x ids id h = right_true (same_id x id) (has ids id) h

pub head_or_tail : (x : TypeId) (ids : List TypeId) (id : TypeId) → Has (x ∷ ids) id → (x ≡ id) ⊎ Has ids id
head_or_tail x ids id h = by_head (either_true (same_id x id) (has ids id) h)
  where
    by_head : (same_id x id ≡ true) ⊎ Has ids id → (x ≡ id) ⊎ Has ids id
    by_head (inl same) = inl ((ids_tell x id).0 same)
    by_head (inr k) = inr k

nothing : (id : TypeId) → Has [] id → ⊥
nothing id h = false≢true h

-- ---- what was seen is reached

-- one look, by whether the identifier was seen before
by_look : (q : Bool) (P : List TypeId → Type 0) (a b : List TypeId) → (q ≡ true → P a) → (q ≡ false → P b) → P (if q then a else b)
by_look true P a b first second = first refl
by_look false P a b first second = second refl

keeps : (n : ℕ) (links : List Link) (seen ahead : List TypeId) → Within seen (reached n links seen ahead)
keeps zero links seen ahead id h = h
keeps (suc n) links seen [] id h = h
keeps (suc n) links seen (x ∷ ahead) id h =
    by_look (has seen x) (λ (all : List TypeId). Has all id) (reached n links seen ahead) (reached n links (seen ++ x ∷ []) (linked links x ++ ahead))
    (λ was. keeps n links seen ahead id h)
    (λ new. keeps n links (seen ++ x ∷ []) (linked links x ++ ahead) id (in_front seen (x ∷ []) id h))

none_left : (links : List Link) (seen : List TypeId) (x : TypeId) (ahead : List TypeId) → left links seen (x ∷ ahead) ≤ 0 → ⊥
none_left links seen x ahead h = omega arith

-- of what is new fewer looks are left behind it
fallen : (links : List Link) (seen ahead : List TypeId) (x : TypeId) → has seen x ≡ false
    → left links (seen ++ x ∷ []) (linked links x ++ ahead) + 1 ≤ left links seen (x ∷ ahead)
fallen links seen ahead x new = by_seen (has seen x) new (falls links seen ahead x)
  where
    by_seen : (q : Bool) → q ≡ false
        → left links (if q then seen else seen ++ x ∷ []) ((if q then [] else linked links x) ++ ahead) + 1 ≤ left links seen (x ∷ ahead)
        → left links (seen ++ x ∷ []) (linked links x ++ ahead) + 1 ≤ left links seen (x ∷ ahead)
    by_seen true h less = absurd (false≢true (sym h))
    by_seen false h less = less

here_or_later : {P : Type 0} (x : TypeId) (ahead : List TypeId) (id : TypeId) → ((x ≡ id) → P) → (Has ahead id → P) → Has (x ∷ ahead) id → P
here_or_later {P} x ahead id here later k = by_place (head_or_tail x ahead id k)
  where
    by_place : (x ≡ id) ⊎ Has ahead id → P
    by_place (inl same) = here same
    by_place (inr behind) = later behind

-- with enough looks, so is what lies ahead
takes_in : (n : ℕ) (links : List Link) (seen ahead : List TypeId) → left links seen ahead ≤ n → Within ahead (reached n links seen ahead)
takes_in n links seen [] h id k = absurd (nothing id k)
takes_in zero links seen (x ∷ ahead) h id k = absurd (none_left links seen x ahead h)
takes_in (suc n) links seen (x ∷ ahead) h id k =
    by_look (has seen x) (λ (all : List TypeId). Has all id) (reached n links seen ahead) (reached n links (seen ++ x ∷ []) (linked links x ++ ahead))
    (λ was. here_or_later x ahead id
    (λ same. keeps n links seen ahead id (subst (Has seen) same was))
    (λ later. takes_in n links seen ahead (omega arith) id later) k)
    (λ new. let less = fallen links seen ahead x new in here_or_later x ahead id
    (λ same. keeps n links (seen ++ x ∷ []) (linked links x ++ ahead) id (subst (Has (seen ++ x ∷ [])) same (in_back seen (x ∷ []) x (at_head x []))))
    (λ later. takes_in n links (seen ++ x ∷ []) (linked links x ++ ahead) (omega arith) id (in_back (linked links x) ahead id later)) k)

-- ---- what is reached leads to what is reached

-- what was seen leads to what was seen or lies ahead
abbrev Looked : List Link → List TypeId → List TypeId → Type 0
Looked links seen ahead = (a : TypeId) → Has seen a → Within (linked links a) (seen ++ ahead)

passed_over : (links : List Link) (seen ahead : List TypeId) (x : TypeId) → Has seen x → Looked links seen (x ∷ ahead) → Looked links seen ahead
passed_over links seen ahead x was looked a h b k = by_place (in_either seen (x ∷ ahead) b (looked a h b k))
  where
    by_tail : (x ≡ b) ⊎ Has ahead b → Has (seen ++ ahead) b
    by_tail (inl same) = in_front seen ahead b (subst (Has seen) same was)
    by_tail (inr later) = in_back seen ahead b later

    by_place : Has seen b ⊎ Has (x ∷ ahead) b → Has (seen ++ ahead) b
    by_place (inl earlier) = in_front seen ahead b earlier
    by_place (inr later) = by_tail (head_or_tail x ahead b later)

taken_in : (links : List Link) (seen ahead : List TypeId) (x : TypeId) → Looked links seen (x ∷ ahead) → Looked links (seen ++ x ∷ []) (linked links x ++ ahead)
taken_in links seen ahead x looked a h b k = by_place (in_either seen (x ∷ []) a h)
  where
    among : (x ≡ b) ⊎ Has ahead b → Has ((seen ++ x ∷ []) ++ (linked links x ++ ahead)) b
    among (inl same) = in_front (seen ++ x ∷ []) (linked links x ++ ahead) b (in_back seen (x ∷ []) b (subst (Has (x ∷ [])) same (at_head x [])))
    among (inr later) = in_back (seen ++ x ∷ []) (linked links x ++ ahead) b (in_back (linked links x) ahead b later)

    by_earlier : Has seen b ⊎ Has (x ∷ ahead) b → Has ((seen ++ x ∷ []) ++ (linked links x ++ ahead)) b
    by_earlier (inl earlier) = in_front (seen ++ x ∷ []) (linked links x ++ ahead) b (in_front seen (x ∷ []) b earlier)
    by_earlier (inr later) = among (head_or_tail x ahead b later)

    by_new : (x ≡ a) ⊎ Has [] a → Has ((seen ++ x ∷ []) ++ (linked links x ++ ahead)) b
    by_new (inl same) = in_back (seen ++ x ∷ []) (linked links x ++ ahead) b
        (in_front (linked links x) ahead b (subst (λ (y : TypeId). Has (linked links y) b) (sym same) k))
    by_new (inr none) = absurd (nothing a none)

    by_place : Has seen a ⊎ Has (x ∷ []) a → Has ((seen ++ x ∷ []) ++ (linked links x ++ ahead)) b
    by_place (inl earlier) = by_earlier (in_either seen (x ∷ ahead) b (looked a earlier b k))
    by_place (inr new) = by_new (head_or_tail x [] a new)

-- what is reached leads only there
abbrev Shut : List Link → TypeId → TypeId → List TypeId → Type 0
Shut links a b all = Has all a → Has all b

closed : (n : ℕ) (links : List Link) (seen ahead : List TypeId) → left links seen ahead ≤ n → Looked links seen ahead
    → (a b : TypeId) → Has (linked links a) b → Shut links a b (reached n links seen ahead)
closed zero links seen [] h looked a b l k = subst (λ (ids : List TypeId). Has ids b) (append-nil seen) (looked a k b l)
closed zero links seen (x ∷ ahead) h looked a b l k = absurd (none_left links seen x ahead h)
closed (suc n) links seen [] h looked a b l k = subst (λ (ids : List TypeId). Has ids b) (append-nil seen) (looked a k b l)
closed (suc n) links seen (x ∷ ahead) h looked a b l k =
    by_look (has seen x) (Shut links a b) (reached n links seen ahead) (reached n links (seen ++ x ∷ []) (linked links x ++ ahead))
    (λ was. closed n links seen ahead (omega arith) (passed_over links seen ahead x was looked) a b l)
    (λ new. let less = fallen links seen ahead x new in
    closed n links (seen ++ x ∷ []) (linked links x ++ ahead) (omega arith) (taken_in links seen ahead x looked) a b l)
    k

enough_left : (links : List Link) (ids : List TypeId) → left links [] ids ≤ enough links ids
enough_left links ids = let e = at_first links ids in omega arith

pub closed_from : (links : List Link) (ids : List TypeId) (a : TypeId) → Has (reached_from links ids) a → Within (linked links a) (reached_from links ids)
closed_from links ids a h b k = closed (enough links ids) links [] ids (enough_left links ids) (λ c none. absurd (nothing c none)) a b k h

pub holds_start : (links : List Link) (ids : List TypeId) → Within ids (reached_from links ids)
holds_start links ids id h = takes_in (enough links ids) links [] ids (enough_left links ids) id h

-- ---- what is reached from some of these

one_more : (all seen : List TypeId) (x : TypeId) → Has all x → Within seen all → Within (seen ++ x ∷ []) all
one_more all seen x h s b k = by_place (in_either seen (x ∷ []) b k)
  where
    by_place : Has seen b ⊎ Has (x ∷ []) b → Has all b
    by_place (inl earlier) = s b earlier
    by_place (inr new) = here_or_later x [] b (λ same. subst (Has all) same h) (λ none. absurd (nothing b none)) new

both_in : (all a b : List TypeId) → Within a all → Within b all → Within (a ++ b) all
both_in all a b s t id k = by_place (in_either a b id k)
  where
    by_place : Has a id ⊎ Has b id → Has all id
    by_place (inl front) = s id front
    by_place (inr back) = t id back

-- what is reached stays within what leads to nothing else
stays : (n : ℕ) (links : List Link) (all : List TypeId) → ((a : TypeId) → Has all a → Within (linked links a) all)
    → (seen ahead : List TypeId) → Within seen all → Within ahead all → Within (reached n links seen ahead) all
stays zero links all shut seen ahead s t = s
stays (suc n) links all shut seen [] s t = s
stays (suc n) links all shut seen (x ∷ ahead) s t =
    let x_in : Has all x = t x (at_head x ahead) in
    let behind : Within ahead all = λ b k. t b (in_tail x ahead b k) in
    by_look (has seen x) (λ (ids : List TypeId). Within ids all) (reached n links seen ahead) (reached n links (seen ++ x ∷ []) (linked links x ++ ahead))
    (λ was. stays n links all shut seen ahead s behind)
    (λ new. stays n links all shut (seen ++ x ∷ []) (linked links x ++ ahead) (one_more all seen x x_in s) (both_in all (linked links x) ahead (shut x x_in) behind))

-- what is reached from what is reached
pub reached_inside : (links : List Link) (some ids : List TypeId) → Within some (reached_from links ids) → Within (reached_from links some) (reached_from links ids)
reached_inside links some ids inside =
    stays (enough links some) links (reached_from links ids) (λ a h. closed_from links ids a h) [] some (λ id none. absurd (nothing id none)) inside

pub reached_within : (links : List Link) (some ids : List TypeId) → Within some ids → Within (reached_from links some) (reached_from links ids)
reached_within links some ids inside = reached_inside links some ids (λ id h. holds_start links ids id (inside id h))

-- ---- by the links of what is reached

-- two links lead to the same from all of these
abbrev Alike : List Link → List Link → List TypeId → Type 0
Alike links others all = (id : TypeId) → Has all id → linked links id ≡ linked others id

by_looks : (q : Bool) (links others : List Link) (a b c d : List TypeId)
    → (q ≡ true → Alike links others a → a ≡ c) → (q ≡ false → Alike links others b → b ≡ d)
    → Alike links others (if q then a else b) → (if q then a else b) ≡ (if q then c else d)
by_looks true links others a b c d first second h = first refl h
by_looks false links others a b c d first second h = second refl h

agree : (n : ℕ) (links others : List Link) (seen ahead : List TypeId)
    → Alike links others (reached n links seen ahead) → reached n links seen ahead ≡ reached n others seen ahead
agree zero links others seen ahead same = refl
agree (suc n) links others seen [] same = refl
agree (suc n) links others seen (x ∷ ahead) same =
    by_looks (has seen x) links others (reached n links seen ahead) (reached n links (seen ++ x ∷ []) (linked links x ++ ahead))
    (reached n others seen ahead) (reached n others (seen ++ x ∷ []) (linked others x ++ ahead))
    (λ was k. agree n links others seen ahead k)
    (λ new k. let next = k x (keeps n links (seen ++ x ∷ []) (linked links x ++ ahead) x (in_back seen (x ∷ []) x (at_head x []))) in
    agree n links others (seen ++ x ∷ []) (linked links x ++ ahead) k
    ∙ ap (λ (ids : List TypeId). reached n others (seen ++ x ∷ []) (ids ++ ahead)) next)
    same

pub agree_from : (links others : List Link) (ids : List TypeId)
    → ((id : TypeId) → Has (reached_from links ids) id → linked links id ≡ linked others id)
    → reached_from links ids ≡ reached_from others ids
agree_from links others ids same =
    let a = enough_left links ids in
    let b = enough_left others ids in
    let first : reached_from links ids ≡ reached (enough links ids + enough others ids) links [] ids =
    settled (enough links ids) (enough links ids + enough others ids) links [] ids (omega arith) (omega arith) in
    let second : reached (enough links ids + enough others ids) others [] ids ≡ reached_from others ids =
    settled (enough links ids + enough others ids) (enough others ids) others [] ids (omega arith) (omega arith) in
    first
    ∙ (agree (enough links ids + enough others ids) links others [] ids (λ id h. same id (subst (λ (all : List TypeId). Has all id) (sym first) h))
    ∙ second)
