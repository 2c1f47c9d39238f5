-- Of rows some are compared: what is merged of these.
use Rattle.std.proofs.Common.{◌≡◌, ◌≢◌, ℕ, suc, ◌<◌, ◌≤◌, Bool, true, false, cond, List, [], ◌∷◌, ◌++◌, Some, None, map, length, drop, get_or, refl, sym, ap, subst, ◌∙◌, append_assoc, append-nil, inl, inr}
use Rattle.std.specs.Prelude.{filter}
use Rattle.std.specs.List.{AllByRecursion}
use Rattle.std.proofs.lemmas.Bool.{cases_Bool}
use Rattle.std.proofs.lemmas.List.Elements.{All-from_recursion, recursion_from_All}
use Rattle.cad_wire.specs.declared.entry.Entry.{Entry}
use Rattle.cad_accounts.specs.declared.row.Row.{Row}
use Rattle.cad_accounts.specs.Registers.{Map, same_key, at, are_rising, applied, changed, entry_of, Leads}
use Rattle.cad_accounts.specs.Code.Places.{AllBehind}
use Rattle.cad_accounts.specs.KeyOrder.{before, rise, row_key}
use Rattle.cad_accounts.proofs.Keys.{not_same}
use Rattle.cad_accounts.proofs.Order.{tail_rises, first_before, join}
use Rattle.cad_worlds.proofs.Leading.{merged_leads, merge_turn}
use Rattle.cad_worlds.proofs.Lists.{none_past, from_item}
use Rattle.cad_worlds.specs.Merging.{is_compared, chosen, left_from, removal, in_front, from, is_first, behind, own, merged}

-- ---- any list, and a test of its items

pub filter_yes : {X : Type 0} (p : X → Bool) (x : X) (xs : List X) → p x ≡ true → filter p (x ∷ xs) ≡ x ∷ filter p xs
filter_yes p x xs e = rw e refl

pub filter_no : {X : Type 0} (p : X → Bool) (x : X) (xs : List X) → p x ≡ false → filter p (x ∷ xs) ≡ filter p xs
filter_no p x xs e = rw e refl

pub filter_all : {X : Type 0} (p : X → Bool) (xs : List X) → AllByRecursion (λ x. p x ≡ true) xs → filter p xs ≡ xs
filter_all p [] h = refl
filter_all p (x ∷ xs) h = filter_yes p x xs h.0 ∙ ap (λ ys. x ∷ ys) (filter_all p xs h.1)

pub filter_none : {X : Type 0} (p : X → Bool) (xs : List X) → AllByRecursion (λ x. p x ≡ false) xs → filter p xs ≡ []
filter_none p [] h = refl
filter_none p (x ∷ xs) h = filter_no p x xs h.0 ∙ filter_none p xs h.1

pub all_filter : {X : Type 0} (p : X → Bool) (xs : List X) → AllByRecursion (λ x. p x ≡ true) (filter p xs)
all_filter p [] = tt
all_filter p (x ∷ xs) =
    elim (cases_Bool (p x)) [
      | inl t ↦ subst (AllByRecursion (λ y. p y ≡ true)) (sym (filter_yes p x xs t)) (t, all_filter p xs)
      | inr f ↦ subst (AllByRecursion (λ y. p y ≡ true)) (sym (filter_no p x xs f)) (all_filter p xs)
    ]

behind_filter : {X : Type 0} (name : X → List ℕ) (p : X → Bool) (key : List ℕ) (xs : List X) → AllBehind name key xs → AllBehind name key (filter p xs)
behind_filter name p key [] h = tt
behind_filter name p key (x ∷ xs) h =
    elim (cases_Bool (p x)) [
      | inl t ↦ subst (AllBehind name key) (sym (filter_yes p x xs t)) (h.0, behind_filter name p key xs h.1)
      | inr f ↦ subst (AllBehind name key) (sym (filter_no p x xs f)) (behind_filter name p key xs h.1)
    ]

pub filter_rises : {X : Type 0} (name : X → List ℕ) (p : X → Bool) (xs : List X) → rise name xs ≡ true → rise name (filter p xs) ≡ true
filter_rises name p [] e = refl
filter_rises name p (x ∷ xs) e =
    let rest = filter_rises name p xs (tail_rises name x xs e) in
    elim (cases_Bool (p x)) [
      | inl t ↦ ap (rise name) (filter_yes p x xs t) ∙ join name x (filter p xs) (behind_filter name p (name x) xs (first_before name x xs e)) rest
      | inr f ↦ ap (rise name) (filter_no p x xs f) ∙ rest
    ]

-- ---- what is compared

pub all_compared : (rows : List Row) → chosen (is_compared None) rows ≡ rows
all_compared [] = refl
all_compared (r ∷ rows) = ap (λ (xs : List Row). r ∷ xs) (all_compared rows)

-- the one rows are the same as the others, as far as they are compared
record SameLeft (p : List ℕ → Bool) (left others : List Row) : Type 0 where
  pub own_is : (r : Row) → own left r ≡ own others r
  pub behind_is : (key : List ℕ) → chosen p (behind key left) ≡ behind key others

-- what was gone over, and what is left of it
pub record Goes (p : List ℕ → Bool) (key : List ℕ) (rows : List Row) (i : ℕ) (now all : List Entry) : Type 0 where
  pub changes : now ++ map removal (in_front key (chosen p (drop i rows))) ≡ all
  pub left : left_from p key (drop i rows) ≡ left_from p key rows

-- their keys are compared
abbrev pub AreCompared : (List ℕ → Bool) → List Row → Type 0
AreCompared p rows = AllByRecursion (λ r. p r.key.0 ≡ true) rows

abbrev HaveCompared : (List ℕ → Bool) → List Entry → Type 0
HaveCompared p es = AllByRecursion (λ e. p e.key.0 ≡ true) es

module _ (p : List ℕ → Bool) where
  -- ---- at a row that isn't compared

  past_other : (o : Row) (os : List Row) → p o.key.0 ≡ false → chosen p (o ∷ os) ≡ chosen p os
  past_other o os e = rw e refl

  left_past_other : (key : List ℕ) (o : Row) (os : List Row) → p o.key.0 ≡ false → left_from p key (o ∷ os) ≡ left_from p key os
  left_past_other key o os e = rw e refl

  -- at one that is
  to_chosen : (o : Row) (os : List Row) → p o.key.0 ≡ true → chosen p (o ∷ os) ≡ o ∷ chosen p os
  to_chosen o os e = rw e refl

  left_past : (key : List ℕ) (o : Row) (os : List Row) → p o.key.0 ≡ true → before o.key.0 key ≡ true → left_from p key (o ∷ os) ≡ left_from p key os
  left_past key o os e lt = rw (e, lt) refl

  left_at : (key : List ℕ) (o : Row) (os : List Row) → p o.key.0 ≡ true → before o.key.0 key ≡ false → left_from p key (o ∷ os) ≡ o ∷ os
  left_at key o os e not_lt = rw (e, not_lt) refl

  from_past : (key : List ℕ) (o : Row) (os : List Row) → before o.key.0 key ≡ true → from key (o ∷ os) ≡ from key os
  from_past key o os lt = rw lt refl

  from_at : (key : List ℕ) (o : Row) (os : List Row) → before o.key.0 key ≡ false → from key (o ∷ os) ≡ o ∷ os
  from_at key o os not_lt = rw not_lt refl

  -- ---- the rows that are left

  is_left : (o : Row) (os : List Row) → p o.key.0 ≡ true → (key : List ℕ) → chosen p (behind key (o ∷ os)) ≡ behind key (o ∷ chosen p os)
  is_left o os e key =
      elim (cases_Bool (same_key o.key.0 key)) [
        | inl t ↦ rw t refl
        | inr f ↦ rw f (to_chosen o os e)
      ]

  same_left : (key : List ℕ) (os : List Row) → SameLeft p (left_from p key os) (from key (chosen p os))
  same_left key [] = record { own_is = λ r. refl; behind_is = λ k. refl }
  same_left key (o ∷ os) =
      elim (cases_Bool (p o.key.0)) [
        | inr f ↦ subst (λ (l : List Row). SameLeft p l (from key (chosen p (o ∷ os)))) (sym (left_past_other key o os f)) (subst (λ (l : List Row). SameLeft p (left_from p key os) (from key l)) (sym (past_other o os f)) (same_left key os))
        | inl t ↦ subst (λ (l : List Row). SameLeft p (left_from p key (o ∷ os)) (from key l)) (sym (to_chosen o os t))
            (elim (cases_Bool (before o.key.0 key)) [
              | inl lt ↦ subst (λ (l : List Row). SameLeft p l (from key (o ∷ chosen p os))) (sym (left_past key o os t lt)) (subst (λ (l : List Row). SameLeft p (left_from p key os) l) (sym (from_past key o (chosen p os) lt)) (same_left key os))
              | inr not_lt ↦ subst (λ (l : List Row). SameLeft p l (from key (o ∷ chosen p os))) (sym (left_at key o os t not_lt)) (subst (λ (l : List Row). SameLeft p (o ∷ os) l) (sym (from_at key o (chosen p os) not_lt)) (record { own_is = λ r. refl; behind_is = is_left o os t }))
            ])
      ]

  -- ---- the loops

  -- a row is removed, where it is compared
  pub removal_turn : (rows : List Row) (i : ℕ) (r : Row) (now new all : List Entry) → i < length rows → r ≡ get_or rows i r → p r.key.0 ≡ true
      → now ++ map removal (chosen p (drop i rows)) ≡ all → new ≡ now ++ removal r ∷ [] → new ++ map removal (chosen p (drop (suc i) rows)) ≡ all
  removal_turn rows i r now new all inside is e so_far grown =
      ap (λ (z : List Entry). z ++ map removal (chosen p (drop (suc i) rows))) grown
      ∙ append_assoc now (removal r ∷ []) (map removal (chosen p (drop (suc i) rows)))
      ∙ ap (λ (z : List Row). now ++ map removal z) (sym (ap (chosen p) (from_item rows i r inside is) ∙ to_chosen r (drop (suc i) rows) e))
      ∙ so_far

  pub removal_else : (rows : List Row) (i : ℕ) (r : Row) (now all : List Entry) → i < length rows → r ≡ get_or rows i r → p r.key.0 ≡ false
      → now ++ map removal (chosen p (drop i rows)) ≡ all → now ++ map removal (chosen p (drop (suc i) rows)) ≡ all
  removal_else rows i r now all inside is e so_far =
      ap (λ (z : List Row). now ++ map removal z) (sym (ap (chosen p) (from_item rows i r inside is) ∙ past_other r (drop (suc i) rows) e)) ∙ so_far

  pub removal_end : (rows : List Row) (i : ℕ) (now all : List Entry) → length rows ≤ i → now ++ map removal (chosen p (drop i rows)) ≡ all → now ≡ all
  removal_end rows i now all outside so_far = sym (append-nil now) ∙ ap (λ (z : List Row). now ++ map removal (chosen p z)) (sym (none_past rows i outside)) ∙ so_far

  front_past : (key : List ℕ) (o : Row) (os : List Row) → before o.key.0 key ≡ true → in_front key (o ∷ os) ≡ o ∷ in_front key os
  front_past key o os lt = rw lt refl

  front_at : (key : List ℕ) (o : Row) (os : List Row) → before o.key.0 key ≡ false → in_front key (o ∷ os) ≡ []
  front_at key o os not_lt = rw not_lt refl

  pub go_turn : (key : List ℕ) (rows : List Row) (i : ℕ) (r : Row) (now new all : List Entry) → i < length rows → r ≡ get_or rows i r → p r.key.0 ≡ true → before r.key.0 key ≡ true
      → Goes p key rows i now all → new ≡ now ++ removal r ∷ [] → Goes p key rows (suc i) new all
  go_turn key rows i r now new all inside is e lt so_far grown =
      let rest = drop (suc i) rows in
      let there = from_item rows i r inside is in
      record {
        changes =
            ap (λ (z : List Entry). z ++ map removal (in_front key (chosen p rest))) grown
            ∙ append_assoc now (removal r ∷ []) (map removal (in_front key (chosen p rest)))
            ∙ ap (λ (z : List Row). now ++ map removal z) (sym (ap (λ (l : List Row). in_front key (chosen p l)) there ∙ ap (in_front key) (to_chosen r rest e) ∙ front_past key r (chosen p rest) lt))
            ∙ so_far.changes;
        left = sym (ap (left_from p key) there ∙ left_past key r rest e lt) ∙ so_far.left;
      }

  pub go_else : (key : List ℕ) (rows : List Row) (i : ℕ) (r : Row) (now all : List Entry) → i < length rows → r ≡ get_or rows i r → p r.key.0 ≡ false → Goes p key rows i now all → Goes p key rows (suc i) now all
  go_else key rows i r now all inside is e so_far =
      let rest = drop (suc i) rows in
      let there = from_item rows i r inside is in
      record {
        changes = ap (λ (z : List Row). now ++ map removal (in_front key z)) (sym (ap (chosen p) there ∙ past_other r rest e)) ∙ so_far.changes;
        left = sym (ap (left_from p key) there ∙ left_past_other key r rest e) ∙ so_far.left;
      }

  -- it stops at a row that is left
  pub stop_left : (key : List ℕ) (rows : List Row) (i : ℕ) (r : Row) (now all : List Entry) → i < length rows → r ≡ get_or rows i r → p r.key.0 ≡ true → before r.key.0 key ≡ false → Goes p key rows i now all → drop i rows ≡ left_from p key rows
  stop_left key rows i r now all inside is e not_lt so_far =
      let there = from_item rows i r inside is in
      there ∙ sym (ap (left_from p key) there ∙ left_at key r (drop (suc i) rows) e not_lt) ∙ so_far.left

  pub stop_changes : (key : List ℕ) (rows : List Row) (i : ℕ) (r : Row) (now all : List Entry) → i < length rows → r ≡ get_or rows i r → p r.key.0 ≡ true → before r.key.0 key ≡ false → Goes p key rows i now all → now ≡ all
  stop_changes key rows i r now all inside is e not_lt so_far =
      let rest = drop (suc i) rows in
      let none = ap (λ (l : List Row). in_front key (chosen p l)) (from_item rows i r inside is) ∙ ap (in_front key) (to_chosen r rest e) ∙ front_at key r (chosen p rest) not_lt in
      sym (append-nil now) ∙ ap (λ (z : List Row). now ++ map removal z) (sym none) ∙ so_far.changes

  -- none is left
  pub go_end_left : (key : List ℕ) (rows : List Row) (i : ℕ) (now all : List Entry) → length rows ≤ i → Goes p key rows i now all → [] ≡ left_from p key rows
  go_end_left key rows i now all outside so_far = ap (left_from p key) (sym (none_past rows i outside)) ∙ so_far.left

  pub go_end_changes : (key : List ℕ) (rows : List Row) (i : ℕ) (now all : List Entry) → length rows ≤ i → Goes p key rows i now all → now ≡ all
  go_end_changes key rows i now all outside so_far =
      sym (append-nil now) ∙ ap (λ (l : List Row). now ++ map removal (in_front key (chosen p l))) (sym (none_past rows i outside)) ∙ so_far.changes

  -- one row more
  pub chosen_turn : (all : List Row → List Entry) (left next yielded : List Row) (row : Row) (now new : List Entry) → ((rest : List Row) → now ++ merged (chosen p left) rest ≡ all (yielded ++ rest)) → next ≡ behind row.key.0 (left_from p row.key.0 left)
      → new ≡ now ++ (map removal (in_front row.key.0 (chosen p left)) ++ own (left_from p row.key.0 left) row) → (rest : List Row) → new ++ merged (chosen p next) rest ≡ all ((yielded ++ row ∷ []) ++ rest)
  chosen_turn all left next yielded row now new inv next_is new_is rest =
      let same = same_left row.key.0 left in
      merge_turn all (chosen p left) (chosen p next) yielded row now new inv (ap (chosen p) next_is ∙ same.behind_is row.key.0)
      (new_is ∙ ap (λ (z : List Entry). now ++ (map removal (in_front row.key.0 (chosen p left)) ++ z)) (same.own_is row)) rest

  -- ---- what is under a key

  differs : (key other : List ℕ) → p key ≡ true → p other ≡ false → same_key key other ≡ false
  differs key other e f = not_same key other (λ s. let wrong : true ≡ false = sym e ∙ ap p s ∙ f in cc)

  pub at_chosen : (key : List ℕ) (rows : List Row) → p key ≡ true → at (chosen p rows) key ≡ at rows key
  at_chosen key [] e = refl
  at_chosen key (r ∷ rows) e =
      elim (cases_Bool (p r.key.0)) [
        | inl t ↦ ap (λ (l : List Row). at l key) (to_chosen r rows t) ∙ ap (cond (same_key key r.key.0) (Some r.value)) (at_chosen key rows e)
        | inr f ↦ ap (λ (l : List Row). at l key) (past_other r rows f) ∙ at_chosen key rows e ∙ sym (rw (differs key r.key.0 e f) refl)
      ]

  -- ---- what is merged has keys of those that are compared

  both_parts : (xs ys : List Entry) → HaveCompared p xs → HaveCompared p ys → HaveCompared p (xs ++ ys)
  both_parts [] ys h g = g
  both_parts (x ∷ xs) ys h g = (h.0, both_parts xs ys h.1 g)

  of_removals : (os : List Row) → AreCompared p os → HaveCompared p (map removal os)
  of_removals [] h = tt
  of_removals (o ∷ os) h = (h.0, of_removals os h.1)

  of_front : (key : List ℕ) (os : List Row) → AreCompared p os → AreCompared p (in_front key os)
  of_front key [] h = tt
  of_front key (o ∷ os) h =
      elim (cases_Bool (before o.key.0 key)) [
        | inl lt ↦ subst (AreCompared p) (sym (front_past key o os lt)) (h.0, of_front key os h.1)
        | inr not_lt ↦ subst (AreCompared p) (sym (front_at key o os not_lt)) tt
      ]

  of_from : (key : List ℕ) (os : List Row) → AreCompared p os → AreCompared p (from key os)
  of_from key [] h = tt
  of_from key (o ∷ os) h =
      elim (cases_Bool (before o.key.0 key)) [
        | inl lt ↦ subst (AreCompared p) (sym (from_past key o os lt)) (of_from key os h.1)
        | inr not_lt ↦ subst (AreCompared p) (sym (from_at key o os not_lt)) h
      ]

  of_rest : (b : Bool) (o : Row) (os : List Row) → AreCompared p (o ∷ os) → AreCompared p (cond b os (o ∷ os))
  of_rest true o os h = h.1
  of_rest false o os h = h

  of_behind : (key : List ℕ) (os : List Row) → AreCompared p os → AreCompared p (behind key os)
  of_behind key [] h = tt
  of_behind key (o ∷ os) h = of_rest (same_key o.key.0 key) o os h

  of_one : (b : Bool) (e : Entry) → p e.key.0 ≡ true → HaveCompared p (cond b [] (e ∷ []))
  of_one true e h = tt
  of_one false e h = (h, tt)

  of_merged : (rs os : List Row) → AreCompared p os → AreCompared p rs → HaveCompared p (merged os rs)
  of_merged [] os h g = of_removals os h
  of_merged (r ∷ rs) os h g =
      let there = of_from r.key.0 os h in
      both_parts (map removal (in_front r.key.0 os)) (own (from r.key.0 os) r ++ merged (behind r.key.0 (from r.key.0 os)) rs) (of_removals (in_front r.key.0 os) (of_front r.key.0 os h))
      (both_parts (own (from r.key.0 os) r) (merged (behind r.key.0 (from r.key.0 os)) rs) (of_one (is_first (from r.key.0 os) r) (entry_of r) g.0) (of_merged rs (behind r.key.0 (from r.key.0 os)) (of_behind r.key.0 (from r.key.0 os) there) g.1))

  -- ---- entries that have such keys

  applied_same : (es : List Entry) (m n : Map) (key : List ℕ) → m key ≡ n key → applied es m key ≡ applied es n key
  applied_same [] m n key e = e
  applied_same (x ∷ es) m n key e = applied_same es (changed x.key.0 x.value m) (changed x.key.0 x.value n) key (ap (cond (same_key key x.key.0) x.value) e)

  differs_back : (key other : List ℕ) → p key ≡ false → p other ≡ true → same_key key other ≡ false
  differs_back key other f e = not_same key other (λ s. let wrong : true ≡ false = sym e ∙ sym (ap p s) ∙ f in cc)

  applied_else : (es : List Entry) (m : Map) (key : List ℕ) → HaveCompared p es → p key ≡ false → applied es m key ≡ m key
  applied_else [] m key h f = refl
  applied_else (x ∷ es) m key h f =
      applied_else es (changed x.key.0 x.value m) key h.1 f ∙ rw (differs_back key x.key.0 f h.0) refl

  differ_all : (os : List Row) (es : List Entry) → HaveCompared p es → AllByRecursion (λ e. at (chosen p os) e.key.0 ≢ e.value) es → AllByRecursion (λ e. at os e.key.0 ≢ e.value) es
  differ_all os [] h d = tt
  differ_all os (e ∷ es) h d = ((λ x. d.0 (at_chosen e.key.0 os h.0 ∙ x)), differ_all os es h.1 d.1)

  -- what leads to registers that are others only where they are compared
  pub part_leads : (os rs : List Row) (new : Map) → are_rising os ≡ true → are_rising rs ≡ true → AreCompared p rs
      → ((key : List ℕ) → p key ≡ true → new key ≡ at rs key) → ((key : List ℕ) → p key ≡ false → new key ≡ at os key) → Leads (at os) new (merged (chosen p os) rs)
  part_leads os rs new a b c there else_where =
      let es = merged (chosen p os) rs in
      let leads = merged_leads (chosen p os) rs (filter_rises row_key (λ row. p row.key.0) os a) b in
      let keys = of_merged rs (chosen p os) (all_filter (λ row. p row.key.0) os) c in
      record {
        ascending = leads.ascending;
        is = λ key. elim (cases_Bool (p key)) [
          | inl t ↦ there key t ∙ leads.is key ∙ applied_same es (at (chosen p os)) (at os) key (at_chosen key os t)
          | inr f ↦ else_where key f ∙ sym (applied_else es (at os) key keys f)
        ];
        differ = All-from_recursion (λ e. at os e.key.0 ≢ e.value) es (differ_all os es keys (recursion_from_All (λ e. at (chosen p os) e.key.0 ≢ e.value) es leads.differ));
      }
