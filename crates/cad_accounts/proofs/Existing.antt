-- Rows that rise exist for every map that entries lead to from such rows.
use Rattle.std.proofs.Common.{◌≡◌, ◌⊎◌, ℕ, Bool, true, false, cond, List, [], ◌∷◌, ◌++◌, Option, Some, None, Ordering, refl, sym, ap, subst, ◌∙◌, inl, inr}
use Rattle.std.specs.Ordering.{nat_cmp, is_lt}
use Rattle.std.specs.declared.cmp.Ordering.TheVariants.{Less, Equal, Greater}
use Rattle.std.specs.Cmp.Lexicographic.{slice_cmp}
use Rattle.cad_wire.specs.declared.entry.Entry.{Entry}
use Rattle.cad_accounts.specs.declared.row.Row.{Row}
use Rattle.cad_accounts.specs.Registers.{same_key, at, are_rising, changed, applied}
use Rattle.cad_accounts.specs.Code.Places.{AllBefore, AllBehind}
use Rattle.cad_accounts.specs.KeyOrder.{row_key, before}
use Rattle.cad_accounts.proofs.Keys.{same_is, equal_is, greater_is}
use Rattle.cad_accounts.proofs.Order.{tail_rises, first_before, behind_all, rises_with, rises_without, before_of, behind_of}
use Rattle.cad_accounts.proofs.RowLaws.{none_at, at_with}

-- no row has this key: where it belongs
record Parted (key : List ℕ) (rows : List Row) : Type 0 where
  front : List Row
  back : List Row
  is : rows ≡ front ++ back
  in_front : AllBefore row_key front key
  behind : AllBehind row_key key back

-- a row has this key: what stands around it
record Holds (key : List ℕ) (rows : List Row) : Type 0 where
  front : List Row
  row : Row
  back : List Row
  is : rows ≡ front ++ row ∷ back
  key_is : row.key.0 ≡ key

Splits : List ℕ → List Row → Type 0
Splits key rows = Parted key rows ⊎ Holds key rows

behind_first : (key : List ℕ) (r : Row) (rows : List Row) → before r.key.0 key ≡ true → Splits key rows → Splits key (r ∷ rows)
unfolding Splits
behind_first key r rows e (inl p) = inl (record {
  front = r ∷ p.front;
  back = p.back;
  is = ap (λ (l : List Row). r ∷ l) p.is;
  in_front = (e, p.in_front);
  behind = p.behind;
})
behind_first key r rows e (inr h) = inr (record {
  front = r ∷ h.front;
  row = h.row;
  back = h.back;
  is = ap (λ (l : List Row). r ∷ l) h.is;
  key_is = h.key_is;
})

by_order : (key : List ℕ) (r : Row) (rows : List Row) → are_rising (r ∷ rows) ≡ true → Splits key rows → (o : Ordering) → slice_cmp nat_cmp key r.key.0 ≡ o → Splits key (r ∷ rows)
unfolding Splits
by_order key r rows e rest Less is =
    let less : before key r.key.0 ≡ true = ap is_lt is in
    inl (record { front = []; back = r ∷ rows; is = refl; in_front = tt; behind = (less, behind_all row_key key r.key.0 rows less (first_before row_key r rows e)) })
by_order key r rows e rest Equal is = inr (record { front = []; row = r; back = rows; is = refl; key_is = sym (equal_is key r.key.0 is) })
by_order key r rows e rest Greater is = behind_first key r rows (greater_is key r.key.0 is) rest

splits : (key : List ℕ) (rows : List Row) → are_rising rows ≡ true → Splits key rows
unfolding Splits
splits key [] e = inl (record { front = []; back = []; is = refl; in_front = tt; behind = tt })
splits key (r ∷ rows) e = by_order key r rows e (splits key rows (tail_rises row_key r rows e)) (slice_cmp nat_cmp key r.key.0) refl

-- ---- one entry

Changes : List Row → List ℕ → Option (List ℕ) → Type 0
Changes rows key value = (new : List Row) × (are_rising new ≡ true) × ((k : List ℕ) → at new k ≡ changed key value (at rows) k)

none_chosen : (b : Bool) (x : Option (List ℕ)) → (b ≡ true → x ≡ None) → x ≡ cond b None x
none_chosen true x h = h refl
none_chosen false x h = refl

none_twice : (b : Bool) (v x : Option (List ℕ)) → (b ≡ true → x ≡ None) → x ≡ cond b None (cond b v x)
none_twice true v x h = h refl
none_twice false v x h = refl

some_twice : (b : Bool) (u v x : Option (List ℕ)) → cond b u x ≡ cond b u (cond b v x)
some_twice true u v x = refl
some_twice false u v x = refl

changes_parted : (front : List Row) (back : List Row) (key : List ℕ) (value : Option (List ℕ)) → are_rising (front ++ back) ≡ true → AllBefore row_key front key → AllBehind row_key key back → Changes (front ++ back) key value
unfolding Changes
changes_parted front back key None e in_front behind =
    (front ++ back, e, λ k. none_chosen (same_key k key) (at (front ++ back) k) (λ s. ap (at (front ++ back)) (same_is k key s) ∙ none_at front back key in_front behind))
changes_parted front back key (Some bytes) e in_front behind =
    let row : Row = record { key = record { 0 = key }; value = bytes } in
    (front ++ row ∷ back, rises_with row_key front row back e in_front behind, λ k. at_with front row back k in_front)

changes_held : (front : List Row) (r : Row) (back : List Row) (value : Option (List ℕ)) → are_rising (front ++ r ∷ back) ≡ true → Changes (front ++ r ∷ back) r.key.0 value
unfolding Changes
changes_held front r back None e =
    let in_front = before_of row_key front r back e in
    let behind = behind_of row_key front r back e in
    let none : (k : List ℕ) → same_key k r.key.0 ≡ true → at (front ++ back) k ≡ None = λ k s. ap (at (front ++ back)) (same_is k r.key.0 s) ∙ none_at front back r.key.0 in_front behind in (
      front ++ back,
      rises_without row_key front r back e,
      λ k.
          none_twice (same_key k r.key.0) (Some r.value) (at (front ++ back) k) (none k)
          ∙ ap (λ o. cond (same_key k r.key.0) None o) (sym (at_with front r back k in_front)),
    )
changes_held front r back (Some bytes) e =
    let in_front = before_of row_key front r back e in
    let behind = behind_of row_key front r back e in
    let row : Row = record { key = r.key; value = bytes } in (
      front ++ row ∷ back,
      rises_with row_key front row back (rises_without row_key front r back e) in_front behind,
      λ k.
          at_with front row back k in_front
          ∙ some_twice (same_key k r.key.0) (Some bytes) (Some r.value) (at (front ++ back) k)
          ∙ ap (λ o. cond (same_key k r.key.0) (Some bytes) o) (sym (at_with front r back k in_front)),
    )

changes : (rows : List Row) (key : List ℕ) (value : Option (List ℕ)) → are_rising rows ≡ true → Splits key rows → Changes rows key value
unfolding Splits
changes rows key value e (inl p) =
    subst (λ (l : List Row). Changes l key value) (sym p.is) (changes_parted p.front p.back key value (ap are_rising (sym p.is) ∙ e) p.in_front p.behind)
changes rows key value e (inr h) =
    subst (λ (l : List Row). Changes l key value) (sym h.is)
    (subst (λ (k : List ℕ). Changes (h.front ++ h.row ∷ h.back) k value) h.key_is (changes_held h.front h.row h.back value (ap are_rising (sym h.is) ∙ e)))

-- ---- all entries

pub rows_exist : (rows : List Row) (entries : List Entry) → are_rising rows ≡ true → (new : List Row) × (are_rising new ≡ true) × ((key : List ℕ) → at new key ≡ applied entries (at rows) key)
unfolding Changes
rows_exist rows [] e = (rows, e, λ key. refl)
rows_exist rows (entry ∷ entries) e =
    let one = changes rows entry.key.0 entry.value e (splits entry.key.0 rows e) in
    let rest = rows_exist one.0 entries one.1 in
    (rest.0, rest.1, λ key. rest.2 key ∙ ap (λ m. applied entries m key) (λ i k. one.2 k i))
