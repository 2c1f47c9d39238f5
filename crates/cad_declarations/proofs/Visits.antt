-- Looks at one identifier after another come to an end, and more looks than are left change nothing.
use Rattle.std.specs.Prelude.{ℕ, zero, suc, ◌+◌, ◌<◌, ◌≤◌, Bool, true, false, ◌||◌, List, [], ◌∷◌, ◌++◌, length, reverse, if◌then◌else◌}
use Rattle.std.proofs.Common.{◌≡◌, ◌∙◌, refl, ap, sym, arith}
use Rattle.std.proofs.lemmas.List.{length-append, reverse-append, reverse-reverse}
use Rattle.cad_syntax.specs.TypeIds.{same_id, has}
use Rattle.cad_syntax.specs.declared.type_id.TypeId.{TypeId}
use Rattle.cad_syntax.proofs.Same.{ids_tell}
use Rattle.cad_declarations.specs.Reached.{linked, reached, lengths, enough, reached_from}
use Rattle.cad_declarations.specs.Code.Visits.{seen_after, next_after, unseen, left}
use Rattle.cad_declarations.specs.declared.link.Link.{Link}

pub has_append : (seen more : List TypeId) (id : TypeId) → has (seen ++ more) id ≡ (has seen id || has more id)
has_append [] more id = refl
has_append (s ∷ seen) more id = grind (arith, has_append seen more id)

-- what a link can still bring
abbrev pub brings : List TypeId → Link → ℕ
brings seen l = if has seen l.id then 0 else length l.to

brings_less : (seen : List TypeId) (id : TypeId) (l : Link) → brings (seen ++ id ∷ []) l ≤ brings seen l
brings_less seen id l = grind (arith, has_append seen (id ∷ []) l.id)

unseen_falls : (links : List Link) (seen : List TypeId) (id : TypeId) → unseen links (seen ++ id ∷ []) ≤ unseen links seen
unseen_falls [] seen id = omega arith
unseen_falls (l ∷ links) seen id = let a = brings_less seen id l in let b = unseen_falls links seen id in omega arith

-- what the first link of an identifier brings is no longer to come once it was seen
first_linked : (links : List Link) (seen : List TypeId) (id : TypeId) → has seen id ≡ false
    → length (linked links id) + unseen links (seen ++ id ∷ []) ≤ unseen links seen
first_linked [] seen id new = omega arith
first_linked (l ∷ links) seen id new = by_first (same_id l.id id) refl (first_linked links seen id new)
  where
    there : same_id l.id id ≡ true → has seen l.id ≡ false
    there same = ap (has seen) ((ids_tell l.id id).0 same) ∙ new

    again : same_id l.id id ≡ true → has (seen ++ id ∷ []) l.id ≡ true
    again same = ap (has (seen ++ id ∷ [])) ((ids_tell l.id id).0 same) ∙ has_append seen (id ∷ []) id ∙ grind (arith, (ids_tell id id).1 refl, new)

    by_first : (q : Bool) → same_id l.id id ≡ q → length (linked links id) + unseen links (seen ++ id ∷ []) ≤ unseen links seen
        → length (linked (l ∷ links) id) + unseen (l ∷ links) (seen ++ id ∷ []) ≤ unseen (l ∷ links) seen
    by_first true same others = let a = there same in let b = again same in let d = unseen_falls links seen id in grind (arith, same, a, b, d)
    by_first false other others = let b = brings_less seen id l in grind (arith, other, others, b)

-- one look less is left
pub falls : (links : List Link) (seen r : List TypeId) (id : TypeId) → left links (seen_after seen id) (next_after links seen id ++ r) + 1 ≤ left links seen (id ∷ r)
falls links seen r id = by_seen (has seen id) refl
  where
    by_seen : (q : Bool) → has seen id ≡ q → left links (if q then seen else seen ++ id ∷ []) ((if q then [] else linked links id) ++ r) + 1 ≤ left links seen (id ∷ r)
    by_seen true was = omega arith
    by_seen false new = let a = first_linked links seen id new in let b = length-append (linked links id) r in omega arith

choose : {X : Type 0} (q : Bool) {a b c d : X} → (q ≡ true → a ≡ c) → (q ≡ false → b ≡ d) → (if q then a else b) ≡ (if q then c else d)
choose true first second = first refl
choose false first second = second refl

-- more looks than are left change nothing
pub settled : (n m : ℕ) (links : List Link) (seen ahead : List TypeId) → left links seen ahead ≤ n → left links seen ahead ≤ m
    → reached n links seen ahead ≡ reached m links seen ahead
settled zero zero links seen ahead a b = refl
settled zero (suc m) links seen [] a b = refl
settled zero (suc m) links seen (id ∷ ahead) a b = absurd (omega arith)
settled (suc n) zero links seen [] a b = refl
settled (suc n) zero links seen (id ∷ ahead) a b = absurd (omega arith)
settled (suc n) (suc m) links seen [] a b = refl
settled (suc n) (suc m) links seen (id ∷ ahead) a b =
    choose (has seen id)
    (λ was. settled n m links seen ahead (omega arith) (omega arith))
    (λ new. let f = first_linked links seen id new in let g = length-append (linked links id) ahead in
    settled n m links (seen ++ id ∷ []) (linked links id ++ ahead) (omega arith) (omega arith))

chosen : (q : Bool) (k : ℕ) (links : List Link) (seen more next r : List TypeId)
    → (if q then reached k links seen r else reached k links more (next ++ r)) ≡ reached k links (if q then seen else more) ((if q then [] else next) ++ r)
chosen true k links seen more next r = refl
chosen false k links seen more next r = refl

-- a look at what is next
pub looks_on : (links : List Link) (seen r : List TypeId) (id : TypeId)
    → reached (left links seen (id ∷ r)) links seen (id ∷ r)
    ≡ reached (left links (seen_after seen id) (next_after links seen id ++ r)) links (seen_after seen id) (next_after links seen id ++ r)
looks_on links seen r id =
    let f = falls links seen r id in
    settled (left links seen (id ∷ r)) (suc (left links seen (id ∷ r))) links seen (id ∷ r) (omega arith) (omega arith)
    ∙ chosen (has seen id) (left links seen (id ∷ r)) links seen (seen ++ id ∷ []) (linked links id) r
    ∙ settled (left links seen (id ∷ r)) (left links (seen_after seen id) (next_after links seen id ++ r)) links (seen_after seen id) (next_after links seen id ++ r) (omega arith) (omega arith)

pub over : (n : ℕ) (links : List Link) (seen : List TypeId) → reached n links seen [] ≡ seen
over zero links seen = refl
over (suc n) links seen = refl

all_unseen : (links : List Link) → unseen links [] ≡ lengths links
all_unseen [] = refl
all_unseen (l ∷ links) = ap (λ n. length l.to + n) (all_unseen links)

-- with nothing seen, as many looks are left as there can be
pub at_first : (links : List Link) (start : List TypeId) → left links [] start ≡ enough links start
at_first links start = ap (λ n. length start + n) (all_unseen links)

-- the stack of what is ahead has the next at its end
abbrev pub Stacked : List Link → List TypeId → List TypeId → List TypeId → Type 0
Stacked links seen stack whole = reached (left links seen (reverse stack)) links seen (reverse stack) ≡ whole

pub begins : (links : List Link) (start stack : List TypeId) → stack ≡ [] ++ reverse start → Stacked links [] stack (reached_from links start)
begins links start stack is =
    let turned : reverse stack ≡ start = ap reverse is ∙ reverse-reverse start in
    ap (λ ahead. reached (left links [] ahead) links [] ahead) turned ∙ ap (λ n. reached n links [] start) (at_first links start)

turned_over : (stack next : List TypeId) → reverse (stack ++ reverse next) ≡ next ++ reverse stack
turned_over stack next = reverse-append stack (reverse next) ∙ ap (λ front. front ++ reverse stack) (reverse-reverse next)

pub goes_on : (links : List Link) (seen after stack popped pushed whole : List TypeId) (id : TypeId)
    → Stacked links seen stack whole → stack ≡ popped ++ id ∷ []
    → after ≡ seen_after seen id → pushed ≡ popped ++ reverse (next_after links seen id)
    → Stacked links after pushed whole
goes_on links seen after stack popped pushed whole id so_far pop look push =
    let top : reverse stack ≡ id ∷ reverse popped = ap reverse pop ∙ reverse-append popped (id ∷ []) in
    let turned : reverse pushed ≡ next_after links seen id ++ reverse popped = ap reverse push ∙ turned_over popped (next_after links seen id) in
    ap (λ s. reached (left links s (reverse pushed)) links s (reverse pushed)) look
    ∙ ap (λ ahead. reached (left links (seen_after seen id) ahead) links (seen_after seen id) ahead) turned
    ∙ sym (looks_on links seen (reverse popped) id)
    ∙ ap (λ ahead. reached (left links seen ahead) links seen ahead) (sym top)
    ∙ so_far

pub less : (links : List Link) (seen after stack popped pushed : List TypeId) (id : TypeId)
    → stack ≡ popped ++ id ∷ [] → after ≡ seen_after seen id → pushed ≡ popped ++ reverse (next_after links seen id)
    → left links after (reverse pushed) < left links seen (reverse stack)
less links seen after stack popped pushed id pop look push =
    let top : reverse stack ≡ id ∷ reverse popped = ap reverse pop ∙ reverse-append popped (id ∷ []) in
    let turned : reverse pushed ≡ next_after links seen id ++ reverse popped = ap reverse push ∙ turned_over popped (next_after links seen id) in
    let f = falls links seen (reverse popped) id in
    let a = ap (λ s. left links s (reverse pushed)) look ∙ ap (λ ahead. left links (seen_after seen id) ahead) turned in
    let b = ap (λ ahead. left links seen ahead) top in
    omega arith

pub ends : (links : List Link) (seen stack whole : List TypeId) → Stacked links seen stack whole → stack ≡ [] → seen ≡ whole
ends links seen stack whole so_far empty =
    sym (over (left links seen (reverse stack)) links seen)
    ∙ ap (λ ahead. reached (left links seen (reverse stack)) links seen ahead) (sym (ap reverse empty))
    ∙ so_far
