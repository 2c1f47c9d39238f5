-- What changes add to the size of rows.
use Rattle.std.proofs.Common.{◌≡◌, ⊎_elim, ℕ, ◌+◌, ◌<◌, ◌≤◌, Bool, true, false, cond, List, [], ◌∷◌, Option, Some, None, refl, sym, ap, subst, ◌∙◌, arith}
use Rattle.std.specs.Prelude.{sum_by, IsTrue, ◌↔◌}
use Rattle.std.proofs.lemmas.Bool.{cases_lt}
use Rattle.std.proofs.lemmas.List.Sums.{sum_by-cons}
use Rattle.cad_wire.specs.declared.entry.Entry.{Entry}
use Rattle.cad_wire.specs.Body.{are_ascending}
use Rattle.cad_accounts.specs.declared.row.Row.{Row}
use Rattle.cad_accounts.specs.Registers.{Map, same_key, at, are_rising, changed, applied, size_of}
use Rattle.cad_accounts.specs.Code.Rows.{row_size}
use Rattle.cad_accounts.proofs.Keys.{same_is, is_same, itself, passes, behind_differs}
use Rattle.cad_accounts.specs.KeyOrder.{row_key, before}
use Rattle.cad_accounts.proofs.Order.{both_left, both_right, tail_rises, first_before}
use Rattle.cad_accounts.proofs.RowLaws.{none_behind}
use Rattle.cad_accounts.proofs.Places.{size_is}
use Rattle.cad_store.specs.Code.Sizes.{value_size, added, replaced}

-- ---- rows in any order, each key once

AreDistinct : List Row → Type 0
AreDistinct [] = Unit {0}
AreDistinct (row ∷ rows) = (at rows row.key.0 ≡ None) × AreDistinct rows

distinct_of : (rows : List Row) → are_rising rows ≡ true → AreDistinct rows
unfolding AreDistinct
distinct_of [] e = tt
distinct_of (r ∷ rows) e = (none_behind rows r.key.0 (first_before row_key r rows e), distinct_of rows (tail_rises row_key r rows e))

total : List Row → ℕ
total rows = sum_by row_size rows

total-cons : (r : Row) (rows : List Row) → total (r ∷ rows) ≡ row_size r + total rows
unfolding total
total-cons r rows = sum_by-cons row_size r rows

-- ---- one key taken out

without : List ℕ → List Row → List Row
without key [] = []
without key (r ∷ rows) = cond (same_key key r.key.0) (without key rows) (r ∷ without key rows)

first_true : (a b : Bool) (x y : Option (List ℕ)) → (a ≡ true → b ≡ true) → cond b None y ≡ cond b None (cond a x y)
first_true a true x y h = refl
first_true true false x y h = absurd (let wrong = h refl in cc)
first_true false false x y h = refl

swapped : (a b : Bool) (x y : Option (List ℕ)) → (a ≡ true → b ≡ true → ⊥) → cond a x (cond b None y) ≡ cond b None (cond a x y)
swapped true true x y h = absurd (h refl refl)
swapped true false x y h = refl
swapped false b x y h = refl

none_either : (b : Bool) (o : Option (List ℕ)) → o ≡ None → cond b None o ≡ None
none_either true o e = refl
none_either false o e = e

at_cond : (b : Bool) (r : Row) (rows : List Row) (k : List ℕ) → at (cond b rows (r ∷ rows)) k ≡ cond b (at rows k) (cond (same_key k r.key.0) (Some r.value) (at rows k))
at_cond true r rows k = refl
at_cond false r rows k = refl

at_without : (key : List ℕ) (rows : List Row) (k : List ℕ) → at (without key rows) k ≡ changed key None (at rows) k
unfolding without
at_without key [] k = sym (none_either (same_key k key) None refl)
at_without key (r ∷ rows) k =
    at_cond (same_key key r.key.0) r (without key rows) k
    ∙ ap (λ o. cond (same_key key r.key.0) o (cond (same_key k r.key.0) (Some r.value) o)) (at_without key rows k)
    ∙ split (same_key key r.key.0) refl
  where
    split : (b : Bool) → same_key key r.key.0 ≡ b → cond b (changed key None (at rows) k) (cond (same_key k r.key.0) (Some r.value) (changed key None (at rows) k)) ≡ changed key None (at (r ∷ rows)) k
    split true e = first_true (same_key k r.key.0) (same_key k key) (Some r.value) (at rows k) (λ s. is_same k key (same_is k r.key.0 s ∙ sym (same_is key r.key.0 e)))
    split false e = swapped (same_key k r.key.0) (same_key k key) (Some r.value) (at rows k) (λ s t. let wrong = is_same key r.key.0 (sym (same_is k key t) ∙ same_is k r.key.0 s) in cc)

distinct_cond : (b : Bool) (r : Row) (rows : List Row) → at rows r.key.0 ≡ None → AreDistinct rows → AreDistinct (cond b rows (r ∷ rows))
unfolding AreDistinct
distinct_cond true r rows none d = d
distinct_cond false r rows none d = (none, d)

distinct_without : (key : List ℕ) (rows : List Row) → AreDistinct rows → AreDistinct (without key rows)
unfolding AreDistinct without
distinct_without key [] d = tt
distinct_without key (r ∷ rows) d = distinct_cond (same_key key r.key.0) r (without key rows) (at_without key rows r.key.0 ∙ none_either (same_key r.key.0 key) (at rows r.key.0) d.0) (distinct_without key rows d.1)

total_cond : (b : Bool) (key : List ℕ) (r : Row) (rows rest : List Row) → (b ≡ true → key ≡ r.key.0) → at rows r.key.0 ≡ None → total rest + value_size key (at rows key) ≡ total rows
    → total (cond b rest (r ∷ rest)) + value_size key (cond b (Some r.value) (at rows key)) ≡ total (r ∷ rows)
total_cond true key r rows rest same none e =
    let is = same refl in
    let size : value_size key (Some r.value) ≡ row_size r = ap (λ (k : List ℕ). value_size k (Some r.value)) is in
    let nothing : value_size key (at rows key) ≡ 0 = ap (value_size key) (ap (at rows) is ∙ none) in
    omega (arith, e, size, nothing, total-cons r rows)
total_cond false key r rows rest same none e = omega (arith, e, total-cons r rest, total-cons r rows)

total_without : (key : List ℕ) (rows : List Row) → AreDistinct rows → total (without key rows) + value_size key (at rows key) ≡ total rows
unfolding AreDistinct without
total_without key [] d = omega arith
total_without key (r ∷ rows) d = total_cond (same_key key r.key.0) key r rows (without key rows) (same_is key r.key.0) d.0 (total_without key rows d.1)

-- ---- rows that hold the same have one size

no_rows : (rows : List Row) → ((k : List ℕ) → None ≡ at rows k) → total [] ≡ total rows
no_rows [] same = refl
no_rows (r ∷ rows) same =
    let here : None ≡ Some r.value = same r.key.0 ∙ ap (λ b. cond b (Some r.value) (at rows r.key.0)) (itself r.key.0) in
    absurd cc

tail_is : (x : Row) (rows : List Row) → at rows x.key.0 ≡ None → (k : List ℕ) → changed x.key.0 None (at (x ∷ rows)) k ≡ at rows k
tail_is x rows none k = split (same_key k x.key.0) refl
  where
    split : (b : Bool) → same_key k x.key.0 ≡ b → cond b None (cond b (Some x.value) (at rows k)) ≡ at rows k
    split true e = sym (ap (at rows) (same_is k x.key.0 e) ∙ none)
    split false e = refl

same_total : (r s : List Row) → AreDistinct r → AreDistinct s → ((k : List ℕ) → at r k ≡ at s k) → total r ≡ total s
unfolding AreDistinct
same_total [] s d e same = no_rows s same
same_total (x ∷ r) s d e same =
    let rest = without x.key.0 s in
    let others : (k : List ℕ) → at r k ≡ at rest k = λ k.
    sym (tail_is x r d.0 k) ∙ ap (λ o. cond (same_key k x.key.0) None o) (same k) ∙ sym (at_without x.key.0 s k) in
    let same_rest = same_total r rest d.1 (distinct_without x.key.0 s e) others in
    let here : at s x.key.0 ≡ Some x.value = sym (same x.key.0) ∙ ap (λ b. cond b (Some x.value) (at r x.key.0)) (itself x.key.0) in
    let size : value_size x.key.0 (at s x.key.0) ≡ row_size x = ap (value_size x.key.0) here in
    omega (arith, same_rest, size, total_without x.key.0 s e, total-cons x r)

-- ---- one change

with_value : List ℕ → Option (List ℕ) → List Row → List Row
with_value key None rows = rows
with_value key (Some value) rows = record { key = record { 0 = key }; value = value } ∷ rows

again : (b : Bool) (v : List ℕ) (o : Option (List ℕ)) → cond b (Some v) (cond b None o) ≡ cond b (Some v) o
again true v o = refl
again false v o = refl

at_with_value : (key : List ℕ) (value : Option (List ℕ)) (rows : List Row) (k : List ℕ) → at (with_value key value (without key rows)) k ≡ changed key value (at rows) k
unfolding with_value
at_with_value key None rows k = at_without key rows k
at_with_value key (Some v) rows k = ap (λ o. cond (same_key k key) (Some v) o) (at_without key rows k) ∙ again (same_key k key) v (at rows k)

distinct_with : (key : List ℕ) (value : Option (List ℕ)) (rows : List Row) → AreDistinct rows → AreDistinct (with_value key value (without key rows))
unfolding with_value AreDistinct
distinct_with key None rows d = distinct_without key rows d
distinct_with key (Some v) rows d = (at_without key rows key ∙ ap (λ b. cond b None (at rows key)) (itself key), distinct_without key rows d)

total_with : (key : List ℕ) (value : Option (List ℕ)) (rows : List Row) → total (with_value key value rows) ≡ value_size key value + total rows
unfolding with_value
total_with key None rows = omega arith
total_with key (Some v) rows = total-cons (record { key = record { 0 = key }; value = v }) rows

-- ---- changes, each key once

NoneOf : List ℕ → List Entry → Type 0
NoneOf key [] = Unit {0}
NoneOf key (e ∷ entries) = (same_key e.key.0 key ≡ false) × NoneOf key entries

EachOnce : List Entry → Type 0
EachOnce [] = Unit {0}
EachOnce (e ∷ entries) = NoneOf e.key.0 entries × EachOnce entries

none_of : (key : List ℕ) (e : Entry) (entries : List Entry) → are_ascending (e ∷ entries) ≡ true → before key e.key.0 ≡ true → NoneOf key (e ∷ entries)
unfolding NoneOf
none_of key e [] up b = (behind_differs e.key.0 key b, tt)
none_of key e (f ∷ entries) up b =
    let here = both_left (before e.key.0 f.key.0) (are_ascending (f ∷ entries)) up in
    (behind_differs e.key.0 key b, none_of key f entries (both_right (before e.key.0 f.key.0) (are_ascending (f ∷ entries)) up) (passes key e.key.0 f.key.0 b here))

each_once : (entries : List Entry) → are_ascending entries ≡ true → EachOnce entries
unfolding EachOnce NoneOf
each_once [] up = tt
each_once (e ∷ []) up = (tt, tt)
each_once (e ∷ f ∷ entries) up =
    let here = both_left (before e.key.0 f.key.0) (are_ascending (f ∷ entries)) up in
    let rest = both_right (before e.key.0 f.key.0) (are_ascending (f ∷ entries)) up in
    (none_of e.key.0 f entries rest here, each_once (f ∷ entries) rest)

replaced_same : (key : List ℕ) (value : Option (List ℕ)) (m : Map) (entries : List Entry) → NoneOf key entries → replaced (changed key value m) entries ≡ replaced m entries
unfolding NoneOf
replaced_same key value m [] d = refl
replaced_same key value m (e ∷ entries) d = λ i. value_size e.key.0 (cond (d.0 i) value (m e.key.0)) + replaced_same key value m entries d.1 i

balanced : (entries : List Entry) (r rows : List Row) → AreDistinct r → AreDistinct rows → EachOnce entries → ((k : List ℕ) → at r k ≡ applied entries (at rows) k) → total r + replaced (at rows) entries ≡ total rows + added entries
unfolding EachOnce
balanced [] r rows d e once same = omega (arith, same_total r rows d e same)
balanced (x ∷ entries) r rows d e once same =
    let mid = with_value x.key.0 x.value (without x.key.0 rows) in
    let is : at mid ≡ changed x.key.0 x.value (at rows) = λ i k. at_with_value x.key.0 x.value rows k i in
    let on : (k : List ℕ) → at r k ≡ applied entries (at mid) k = λ k. same k ∙ ap (λ (m : Map). applied entries m k) (sym is) in
    let rest = balanced entries r mid d (distinct_with x.key.0 x.value rows e) once.1 on in
    let kept : replaced (at mid) entries ≡ replaced (at rows) entries = ap (λ (m : Map). replaced m entries) is ∙ replaced_same x.key.0 x.value (at rows) entries once.0 in
    omega (arith, rest, kept, total_with x.key.0 x.value (without x.key.0 rows), total_without x.key.0 rows e)

-- rows that the changes lead to
pub balance : (entries : List Entry) (r rows : List Row) → are_rising r ≡ true → are_rising rows ≡ true → are_ascending entries ≡ true → ((k : List ℕ) → at r k ≡ applied entries (at rows) k) → size_of r + replaced (at rows) entries ≡ size_of rows + added entries
unfolding total
balance entries r rows d e up same = omega (arith, balanced entries r rows (distinct_of r d) (distinct_of rows e) (each_once entries up) same, size_is r, size_is rows)

-- ---- entry by entry

-- ---- over the room, and within it

abbrev Within : Bool → List Entry → List Row → ℕ → Type 0
Within b entries rows room = IsTrue b ↔ (size_of rows + added entries ≤ room + replaced (at rows) entries)

pub over : (b : Bool) (entries given : List Entry) (r rows : List Row) (room : ℕ) → b ≡ false → given ≡ entries → Within b given rows room → are_ascending entries ≡ true → are_rising rows ≡ true
    → are_rising r ≡ true → ((k : List ℕ) → at r k ≡ applied entries (at rows) k) → room < size_of r
over b entries given r rows room f e no_room up rises rises_too same =
    let w = subst (λ (es : List Entry). Within b es rows room) e no_room in
    let bal = balance entries r rows rises_too rises up same in
    not_above (size_of rows + added entries) (room + replaced (at rows) entries) (size_of r) room (replaced (at rows) entries) (λ le. let wrong : b ≡ true = w.1 le in cc) (sym bal) refl
  where
    not_above : (x y n room p : ℕ) → (x ≤ y → ⊥) → x ≡ n + p → y ≡ room + p → room < n
    not_above x y n room p h f g = ⊎_elim (λ lt. omega (arith, f, g, lt)) (λ le. absurd (h le)) (cases_lt y x)

pub under : (b : Bool) (entries given : List Entry) (r rows : List Row) (room : ℕ) → b ≡ true → given ≡ entries → Within b given rows room → are_ascending entries ≡ true → are_rising rows ≡ true
    → are_rising r ≡ true → ((k : List ℕ) → at r k ≡ applied entries (at rows) k) → size_of r ≤ room
under b entries given r rows room f e has_room up rises rises_too same =
    let w = subst (λ (es : List Entry). Within b es rows room) e has_room in
    let bal = balance entries r rows rises_too rises up same in
    let le : size_of rows + added entries ≤ room + replaced (at rows) entries = w.0 f in
    omega (arith, le, bal)
