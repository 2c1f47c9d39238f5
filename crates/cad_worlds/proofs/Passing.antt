-- Registers that are passed over are of accounts that aren't asked for.
use Rattle.std.proofs.Common.{◌≡◌, ℕ, zero, suc, ◌^◌, ◌<◌, ◌≤◌, Bool, true, false, cond, List, [], ◌∷◌, ◌++◌, Option, Some, None, length, take, drop, get_or, ◌+◌, refl, sym, ap, subst, ◌∙◌, append_assoc, append-nil, take-append-drop, drop-drop, arith, inl, inr, ◌⊎◌}
use Rattle.std.specs.Prelude.{not, ◌||◌, ◌==◌, option_map}
use Rattle.std.specs.List.{AllByRecursion, list_any}
use Rattle.std.specs.Ordering.{is_lt}
use Rattle.std.proofs.lemmas.Bool.{cases_eq, cases_lt, eqb-true, ne_eqb, lt-ltb, le-leb}
use Rattle.std.proofs.lemmas.List.Elements.{filter-append}
use Rattle.cad_accounts.proofs.Keys.{not_itself, passes}
use Rattle.cad_accounts.proofs.Order.{both_left, both_right, both, tail_rises}
use Rattle.cad_accounts.specs.KeyOrder.{before, row_key}
use Rattle.cad_accounts.specs.Registers.{are_rising}
use Rattle.cad_accounts.specs.declared.row.Row.{Row}
use Rattle.cad_wire.proofs.FieldLaws.{number_again, some_is}
use Rattle.cad_worlds.proofs.Choosing.{filter_none}
use Rattle.cad_worlds.proofs.Lists.{none_past, from_item}
use Rattle.cad_worlds.proofs.Numbers.{less_step}
use Rattle.cad_worlds.proofs.Parts.{key_of, ahead}
use Rattle.cad_worlds.specs.Code.KnownRegisters.{is_of_all}
use Rattle.cad_worlds.specs.Code.Passing.{last_key, front_number, span_from, span_between, span_of, is_of_account, is_between, has_between, is_passed, HasAddress, IsTold, AreTold, is_among, IsOfOther, RefusesOthers, LeavesOut, GoesOn}
use Rattle.cad_worlds.specs.declared.spans.Span.{Span}

-- ---- keys in order

abbrev AtMost : List ℕ → List ℕ → Type 0
AtMost a b = (a ≡ b) ⊎ (before a b ≡ true)

not_at_most : (a b : List ℕ) → before b a ≡ true → AtMost a b → ⊥
not_at_most a b lt (inl e) = not_itself b (subst (λ (k : List ℕ). before b k ≡ true) e lt)
not_at_most a b lt (inr h) = not_itself a (passes a b a h lt)

then_at_most : (a b c : List ℕ) → before a b ≡ true → AtMost b c → before a c ≡ true
then_at_most a b c lt (inl e) = subst (λ (k : List ℕ). before a k ≡ true) e lt
then_at_most a b c lt (inr h) = passes a b c lt h

at_most_then : (a b c : List ℕ) → AtMost a b → before b c ≡ true → AtMost a c
at_most_then a b c (inl e) lt = inr (subst (λ (k : List ℕ). before k c ≡ true) (sym e) lt)
at_most_then a b c (inr h) lt = inr (passes a b c h lt)

kinds_in_order : (k j : ℕ) (xs ys : List ℕ) → AtMost (k ∷ xs) (j ∷ ys) → k ≤ j
kinds_in_order k j xs ys h =
    elim (cases_lt j k) [
      | inl lt ↦ absurd (not_at_most (k ∷ xs) (j ∷ ys) (ap is_lt (less_step j k ys xs (inl lt))) h)
      | inr le ↦ le
    ]

addresses_in_order : (k m n : ℕ) (x y : List ℕ) → m < 2 ^ 64 → AtMost (key_of k m x) (key_of k n y) → m ≤ n
addresses_in_order k m n x y fits h =
    elim (cases_lt n m) [
      | inl lt ↦ absurd (not_at_most (key_of k m x) (key_of k n y) (ahead k k n m y x (inr (refl, lt)) fits) h)
      | inr le ↦ le
    ]

none_at_most : (k : ℕ) (xs : List ℕ) → AtMost (k ∷ xs) [] → ⊥
none_at_most k xs (inl e) = absurd cc
none_at_most k xs (inr h) = absurd cc

-- ---- keys of registers of one account

has_address : (kind : ℕ) (rest : List ℕ) → is_of_all kind ≡ false → IsTold (kind ∷ rest) → HasAddress kind rest
has_address kind rest f (inl t) = let wrong : true ≡ false = sym t ∙ f in absurd cc
has_address kind rest f (inr h) = h

-- ---- the span between two keys

record IsSpan (kind : ℕ) (a b : Option ℕ) (s : Span) : Type 0 where
  pub kind_is : s.kind ≡ kind
  pub least_is : a ≡ Some s.least
  pub most_is : b ≡ Some s.most

from_so : (kind : ℕ) (a b : Option ℕ) (s : Span) → span_from kind a b ≡ Some s → IsSpan kind a b s
from_so kind None b s e = absurd cc
from_so kind (Some a) None s e = absurd cc
from_so kind (Some a) (Some b) s e =
    let is = some_is (record { kind = kind; least = a; most = b }) s e in
    record { kind_is = sym (ap (λ (x : Span). x.kind) is); least_is = ap (λ (x : Span). Some x.least) is; most_is = ap (λ (x : Span). Some x.most) is }

between_so : (same : Bool) (kind : ℕ) (a b : Option ℕ) (s : Span) → cond same (span_from kind a b) None ≡ Some s → (same ≡ true) × IsSpan kind a b s
between_so true kind a b s e = (refl, from_so kind a b s e)
between_so false kind a b s e = absurd cc

-- the address at the front is that of the key
front_is : (kind n : ℕ) (rest : List ℕ) (h : HasAddress kind rest) → front_number rest ≡ Some n → h.address ≡ n
front_is kind n rest h e =
    let again : front_number rest ≡ Some h.address = ap front_number h.rest_is ∙ ap (option_map (λ found. found.0)) (number_again h.address h.name h.fits) in
    some_is h.address n (sym again ∙ e)

-- ---- a key between two

abbrev pub IsWithin : Span → List ℕ → Type 0
IsWithin s [] = ⊥
IsWithin s (kind ∷ rest) = (s.kind ≡ kind) × (h : HasAddress kind rest) × (s.least ≤ h.address) × (h.address ≤ s.most)

-- as keys of one kind
told_in_order : (k j : ℕ) (xs ys : List ℕ) (h : HasAddress k xs) (g : HasAddress j ys) → k ≡ j → AtMost (k ∷ xs) (j ∷ ys) → h.address ≤ g.address
told_in_order k j xs ys h g same order =
    addresses_in_order j h.address g.address h.name g.name h.fits
    (subst (λ (key : List ℕ). AtMost key (key_of j g.address g.name)) (λ i. same i ∷ h.rest_is i) (subst (λ (l : List ℕ). AtMost (k ∷ xs) (j ∷ l)) g.rest_is order))

one_between : (k i j : ℕ) (xs rest ys : List ℕ) (s : Span) → (k ≡ j) × IsSpan k (front_number xs) (front_number ys) s → is_of_all s.kind ≡ false → IsTold (k ∷ xs) → IsTold (i ∷ rest) → IsTold (j ∷ ys)
    → AtMost (k ∷ xs) (i ∷ rest) → AtMost (i ∷ rest) (j ∷ ys) → IsWithin s (i ∷ rest)
one_between k i j xs rest ys s span one first told last low high =
    let of_one : is_of_all k ≡ false = ap is_of_all (sym span.1.kind_is) ∙ one in
    let up = kinds_in_order k i xs rest low in
    let down = kinds_in_order i j rest ys high in
    let ki : k ≡ i = omega (arith, up, down, span.0) in
    let ij : i ≡ j = omega (arith, up, down, span.0) in
    let f = has_address k xs of_one first in
    let h = has_address i rest (ap is_of_all (sym ki) ∙ of_one) told in
    let l = has_address j ys (ap is_of_all (sym span.0) ∙ of_one) last in
    let a = front_is k s.least xs f span.1.least_is in
    let b = front_is j s.most ys l span.1.most_is in
    let low_address = told_in_order k i xs rest f h ki low in
    let high_address = told_in_order i j rest ys h l ij high in
    (span.1.kind_is ∙ ki, h, omega (arith, a, low_address), omega (arith, b, high_address))

same_kind : (k j : ℕ) (xs ys : List ℕ) (s : Span) → span_between (k ∷ xs) (j ∷ ys) ≡ Some s → (k ≡ j) × IsSpan k (front_number xs) (front_number ys) s
same_kind k j xs ys s e = let is = between_so (k == j) k (front_number xs) (front_number ys) s e in (eqb-true k j is.0, is.1)

key_between : (first key last : List ℕ) (s : Span) → span_between first last ≡ Some s → is_of_all s.kind ≡ false → IsTold first → IsTold key → IsTold last → AtMost first key → AtMost key last → IsWithin s key
key_between [] key last s e u f t l low high = absurd f
key_between (k ∷ xs) [] last s e u f t l low high = absurd t
key_between (k ∷ xs) (i ∷ rest) [] s e u f t l low high = absurd l
key_between (k ∷ xs) (i ∷ rest) (j ∷ ys) s e u f t l low high = one_between k i j xs rest ys s (same_kind k j xs ys s e) u f t l low high

-- ---- rows

abbrev pub AreWithin : Span → List Row → Type 0
AreWithin s rows = AllByRecursion (λ r. IsWithin s r.key.0) rows

at_most_last : (r : Row) (rows : List Row) → are_rising (r ∷ rows) ≡ true → AtMost r.key.0 (last_key (r ∷ rows))
at_most_last r [] a = inl refl
at_most_last r (x ∷ rows) a =
    inr (then_at_most r.key.0 x.key.0 (last_key (x ∷ rows)) (both_left (before r.key.0 x.key.0) (are_rising (x ∷ rows)) a) (at_most_last x rows (tail_rises row_key r (x ∷ rows) a)))

last_told : (r : Row) (rows : List Row) → AreTold (r ∷ rows) → IsTold (last_key (r ∷ rows))
last_told r [] t = t.0
last_told r (x ∷ rows) t = last_told x rows t.1

all_between : (first : List ℕ) (r : Row) (rows : List Row) (s : Span) → span_between first (last_key (r ∷ rows)) ≡ Some s → is_of_all s.kind ≡ false → IsTold first → AtMost first r.key.0 → AreTold (r ∷ rows) → are_rising (r ∷ rows) ≡ true → AreWithin s (r ∷ rows)
all_between first r [] s e u f low t a = (key_between first r.key.0 r.key.0 s e u f t.0 t.0 low (inl refl), tt)
all_between first r (x ∷ rows) s e u f low t a = (
  key_between first r.key.0 (last_key (x ∷ rows)) s e u f t.0 (last_told x rows t.1) low (at_most_last r (x ∷ rows) a),
  all_between first x rows s e u f (at_most_then first r.key.0 x.key.0 low (both_left (before r.key.0 x.key.0) (are_rising (x ∷ rows)) a)) t.1 (tail_rises row_key r (x ∷ rows) a),
)

-- rows between whose first and last there is a span of accounts are of accounts in it
pub are_within : (rows : List Row) (s : Span) → span_of rows ≡ Some s → is_of_all s.kind ≡ false → AreTold rows → are_rising rows ≡ true → AreWithin s rows
are_within [] s e u t a = tt
are_within (r ∷ rows) s e u t a = all_between r.key.0 r rows s e u t.0 (inl refl) t a

-- ---- accounts that aren't asked for

pub either_left : (a b : Bool) → (a || b) ≡ false → a ≡ false
either_left true b e = absurd cc
either_left false b e = refl

pub either_right : (a b : Bool) → (a || b) ≡ false → b ≡ false
either_right true b e = absurd cc
either_right false b e = e

not_so : (b : Bool) → not b ≡ true → b ≡ false
not_so true e = absurd cc
not_so false e = refl

is_there : (least most i : ℕ) → least ≤ suc i → i < most → is_between least most i ≡ true
is_there least most i low high = rw (lt-ltb i most high, le-leb least (suc i) low) refl

none_between : (indexes : List ℕ) (least most i : ℕ) → has_between indexes least most ≡ false → least ≤ suc i → i < most → list_any (λ j. j == i) indexes ≡ false
none_between [] least most i none low high = refl
none_between (j ∷ indexes) least most i none low high =
    let here = either_left (is_between least most j) (has_between indexes least most) none in
    let rest = none_between indexes least most i (either_right (is_between least most j) (has_between indexes least most) none) low high in
    elim (cases_eq j i) [
      | inl e ↦ let wrong : true ≡ false = sym (is_there least most i low high) ∙ ap (is_between least most) (sym e) ∙ here in absurd cc
      | inr n ↦ ap (λ b. b || list_any (λ k. k == i) indexes) (ne_eqb j i n) ∙ rest
    ]

other_address : (indexes : List ℕ) (least most n : ℕ) → has_between indexes least most ≡ false → least ≤ n → n ≤ most → is_among indexes n ≡ false
other_address indexes least most zero none low high = refl
other_address indexes least most (suc i) none low high = none_between indexes least most i none low (omega (arith, high))

-- registers of one account each aren't of all
pub of_account_only : (k : ℕ) → is_of_account k ≡ true → is_of_all k ≡ false
of_account_only k t =
    elim (cases_eq k 1) [
      | inl e ↦ ap is_of_all e
      | inr a ↦ elim (cases_eq k 4) [
        | inl e ↦ ap is_of_all e
        | inr b ↦ elim (cases_eq k 5) [
          | inl e ↦ ap is_of_all e
          | inr c ↦ elim (cases_eq k 6) [
            | inl e ↦ ap is_of_all e
            | inr d ↦
                let none : is_of_account k ≡ false = λ i. ne_eqb k 1 a i || (ne_eqb k 4 b i || (ne_eqb k 5 c i || ne_eqb k 6 d i)) in
                let wrong : true ≡ false = sym t ∙ none in
                absurd cc
          ]
        ]
      ]
    ]

-- ---- rows in two parts

pub front_told : (xs ys : List Row) → AreTold (xs ++ ys) → AreTold xs
front_told [] ys t = tt
front_told (x ∷ xs) ys t = (t.0, front_told xs ys t.1)

pub back_told : (xs ys : List Row) → AreTold (xs ++ ys) → AreTold ys
back_told [] ys t = t
back_told (x ∷ xs) ys t = back_told xs ys t.1

pub front_rises : (xs ys : List Row) → are_rising (xs ++ ys) ≡ true → are_rising xs ≡ true
front_rises [] ys a = refl
front_rises (x ∷ []) ys a = refl
front_rises (x ∷ z ∷ xs) ys a =
    both (before x.key.0 z.key.0) (are_rising (z ∷ xs)) (both_left (before x.key.0 z.key.0) (are_rising (z ∷ (xs ++ ys))) a) (front_rises (z ∷ xs) ys (both_right (before x.key.0 z.key.0) (are_rising (z ∷ (xs ++ ys))) a))

pub back_rises : (xs ys : List Row) → are_rising (xs ++ ys) ≡ true → are_rising ys ≡ true
back_rises [] ys a = a
back_rises (x ∷ xs) ys a = back_rises xs ys (tail_rises row_key x (xs ++ ys) a)

-- ---- what is left out

abbrev AreOfOthers : List ℕ → List Row → Type 0
AreOfOthers indexes rows = AllByRecursion (λ r. IsOfOther indexes r.key.0) rows

module _ (indexes : List ℕ) where
  of_other : (s : Span) (key : List ℕ) → is_of_account s.kind ≡ true → has_between indexes s.least s.most ≡ false → IsWithin s key → IsOfOther indexes key
  of_other s [] a none w = absurd w
  of_other s (kind ∷ rest) a none w = (ap is_of_account (sym w.0) ∙ a, w.1, other_address indexes s.least s.most w.1.address none w.2 w.3)

  of_others : (s : Span) (rows : List Row) → is_of_account s.kind ≡ true → has_between indexes s.least s.most ≡ false → AreWithin s rows → AreOfOthers indexes rows
  of_others s [] a none w = tt
  of_others s (r ∷ rows) a none w = (of_other s r.key.0 a none w.0, of_others s rows a none w.1)

  refused : (p : List ℕ → Bool) (rows : List Row) → RefusesOthers indexes p → AreOfOthers indexes rows → AllByRecursion (λ r. p r.key.0 ≡ false) rows
  refused p [] refuses h = tt
  refused p (r ∷ rows) refuses h = (refuses r.key.0 h.0, refused p rows refuses h.1)

  pub by_span : (o : Option Span) (rows : List Row) → is_passed indexes o ≡ true → span_of rows ≡ o → LeavesOut indexes [] rows
  by_span None rows u e p refuses t a = absurd cc
  by_span (Some s) rows u e p refuses t a =
      let kind = both_left (is_of_account s.kind) (not (has_between indexes s.least s.most)) u in
      let none = not_so (has_between indexes s.least s.most) (both_right (is_of_account s.kind) (not (has_between indexes s.least s.most)) u) in
      let within = are_within rows s e (of_account_only s.kind kind) t a in
      sym (filter_none (λ r. p r.key.0) rows (refused p rows refuses (of_others s rows kind none within)))

  pub none_left_out : LeavesOut indexes [] []
  none_left_out p refuses t a = refl

  -- rows in two parts
  pub leave_both : (found more xs ys : List Row) → LeavesOut indexes found xs → LeavesOut indexes more ys → LeavesOut indexes (found ++ more) (xs ++ ys)
  leave_both found more xs ys h g p refuses t a =
      let here = h p refuses (front_told xs ys t) (front_rises xs ys a) in
      let rest = g p refuses (back_told xs ys t) (back_rises xs ys a) in
      filter-append (λ r. p r.key.0) found more ∙ (λ i. here i ++ rest i) ∙ sym (filter-append (λ r. p r.key.0) xs ys)

  -- ---- one part more

  pub pass_on : (found xs ys left rows : List Row) → LeavesOut indexes [] xs → left ≡ xs ++ ys → GoesOn indexes found left rows → GoesOn indexes found ys rows
  pass_on found xs ys left rows none split so_far more h =
      so_far more (subst (LeavesOut indexes more) (sym split) (leave_both [] more xs ys none h))

  same : (xs : List Row) → LeavesOut indexes xs xs
  same xs p refuses t a = refl

  pub take_on : (found new xs ys left rows : List Row) → new ≡ found ++ xs → left ≡ xs ++ ys → GoesOn indexes found left rows → GoesOn indexes new ys rows
  take_on found new xs ys left rows grown split so_far more h =
      subst (λ (l : List Row). LeavesOut indexes l rows) (sym (ap (λ (l : List Row). l ++ more) grown ∙ append_assoc found xs more))
      (so_far (xs ++ more) (subst (LeavesOut indexes (xs ++ more)) (sym split) (leave_both xs more xs ys (same xs) h)))

  -- a row more, where others stand behind these
  pub row_taken : (found new behind rows : List Row) (i : ℕ) (r : Row) (all : List Row) → i < length rows → r ≡ get_or rows i r → new ≡ found ++ r ∷ []
      → GoesOn indexes found (drop i rows ++ behind) all → GoesOn indexes new (drop (suc i) rows ++ behind) all
  row_taken found new behind rows i r all inside is grown so_far =
      take_on found new (r ∷ []) (drop (suc i) rows ++ behind) (drop i rows ++ behind) all grown (ap (λ (l : List Row). l ++ behind) (from_item rows i r inside is)) so_far

  -- some of them are passed over
  pub rows_passed : (found behind rows left : List Row) (i n : ℕ) (all : List Row) → left ≡ drop i rows → LeavesOut indexes [] (take n left)
      → GoesOn indexes found (drop i rows ++ behind) all → GoesOn indexes found (drop (i + n) rows ++ behind) all
  rows_passed found behind rows left i n all are none so_far =
      let rest = drop (i + n) rows in
      let parts = sym are ∙ sym (take-append-drop n left) ∙ ap (λ (l : List Row). take n left ++ l) (ap (drop n) are ∙ drop-drop n i rows) in
      pass_on found (take n left) (rest ++ behind) (drop i rows ++ behind) all none (ap (λ (l : List Row). l ++ behind) parts ∙ append_assoc (take n left) rest behind) so_far

  pub rows_ended : (found behind rows : List Row) (i : ℕ) (all : List Row) → length rows ≤ i → GoesOn indexes found (drop i rows ++ behind) all → GoesOn indexes found behind all
  rows_ended found behind rows i all outside so_far = subst (λ (l : List Row). GoesOn indexes found (l ++ behind) all) (none_past rows i outside) so_far

  pub all_found : (found left rows : List Row) → left ≡ [] → GoesOn indexes found left rows → LeavesOut indexes found rows
  all_found found left rows none so_far =
      subst (λ (l : List Row). LeavesOut indexes l rows) (append-nil found) (so_far [] (subst (LeavesOut indexes []) (sym none) none_left_out))
