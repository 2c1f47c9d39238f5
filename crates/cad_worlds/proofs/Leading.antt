-- What is merged of two lists of rows leads from the one to the other.
use Rattle.std.proofs.Common.{◌≡◌, ◌≢◌, ℕ, true, false, List, [], ◌∷◌, ◌++◌, Some, None, map, refl, sym, ap, subst, ◌∙◌, append_assoc, append-nil, inl, inr}
use Rattle.std.specs.List.{AllByRecursion}
use Rattle.std.specs.Ordering.{nat_cmp, is_lt}
use Rattle.std.specs.Cmp.Lexicographic.{slice_cmp}
use Rattle.std.specs.declared.cmp.Ordering.{Ordering}
use Rattle.std.specs.declared.cmp.Ordering.TheVariants.{Less, Equal, Greater}
use Rattle.std.proofs.lemmas.Bool.{cases_Bool}
use Rattle.std.proofs.lemmas.List.Elements.{All-from_recursion}
use Rattle.cad_wire.specs.declared.entry.Entry.{Entry}
use Rattle.cad_accounts.specs.declared.row.Row.{Row}
use Rattle.cad_accounts.specs.Registers.{Map, same_key, at, are_rising, changed, applied, entry_of, Leads}
use Rattle.cad_accounts.specs.Code.Places.{entry_key, AllBehind}
use Rattle.cad_accounts.specs.KeyOrder.{before, rise, row_key}
use Rattle.cad_accounts.proofs.EntryPlaces.{free_behind, ascending}
use Rattle.cad_accounts.proofs.Keys.{same_is, is_same, behind_differs, equal_is, greater_is}
use Rattle.cad_accounts.proofs.Maps.{changed_twice, changed_kept, changed_else, applied_after}
use Rattle.cad_accounts.proofs.OneSize.{at_first}
use Rattle.cad_accounts.proofs.Order.{tail_rises, behind_all, first_before, join}
use Rattle.cad_accounts.proofs.RowLaws.{none_behind}
use Rattle.cad_worlds.specs.Merging.{removal, in_front, from, behind, own, merged}

-- ---- one step

-- these entries lead from the one rows to the others, and stand behind what both stand behind
record Merges (os rs : List Row) (es : List Entry) : Type 0 where
  pub rises : rise entry_key es ≡ true
  pub bound : (key : List ℕ) → AllBehind row_key key os → AllBehind row_key key rs → AllBehind entry_key key es
  pub is : at rs ≡ applied es (at os)
  pub differ : AllByRecursion (λ e. at os e.key.0 ≢ e.value) es

other_row : (o : Row) (os : List Row) (key : List ℕ) → before o.key.0 key ≡ true → at (o ∷ os) key ≡ at os key
other_row o os key b = changed_else o.key.0 (Some o.value) (at os) key (behind_differs key o.key.0 b)

-- without the row in front
forgotten : (o : Row) (os : List Row) → AllBehind row_key o.key.0 os → changed o.key.0 None (at (o ∷ os)) ≡ at os
forgotten o os a = changed_twice o.key.0 None (Some o.value) (at os) ∙ changed_kept o.key.0 None (at os) (none_behind os o.key.0 a)

differ_more : (o : Row) (os : List Row) (es : List Entry) → AllBehind entry_key o.key.0 es → AllByRecursion (λ e. at os e.key.0 ≢ e.value) es → AllByRecursion (λ e. at (o ∷ os) e.key.0 ≢ e.value) es
differ_more o os [] b h = tt
differ_more o os (e ∷ es) b h = ((λ x. h.0 (sym (other_row o os e.key.0 b.0) ∙ x)), differ_more o os es b.1 h.1)

there : (o : Row) (os : List Row) → at (o ∷ os) o.key.0 ≢ None
there o os e = let h : Some o.value ≡ None = sym (at_first o os) ∙ e in absurd cc

-- a row of the old ones goes
gone : (o : Row) (os rs : List Row) (es : List Entry) → AllBehind row_key o.key.0 os → AllBehind row_key o.key.0 rs → Merges os rs es → Merges (o ∷ os) rs (removal o ∷ es)
gone o os rs es a b m =
    let behind_it = m.bound o.key.0 a b in
    record {
      rises = join entry_key (removal o) es behind_it m.rises;
      bound = λ key h g. (h.0, m.bound key h.1 g);
      is = m.is ∙ ap (applied es) (sym (forgotten o os a));
      differ = (there o os, differ_more o os es behind_it m.differ);
    }

after : (r : Row) (os rs : List Row) (es : List Entry) → AllBehind entry_key r.key.0 es → at rs ≡ applied es (at os) → at (r ∷ rs) ≡ applied es (changed r.key.0 (Some r.value) (at os))
after r os rs es b is = ap (changed r.key.0 (Some r.value)) is ∙ sym (applied_after r.key.0 (Some r.value) es (at os) (free_behind r.key.0 es b))

absent : (r : Row) (os : List Row) → AllBehind row_key r.key.0 os → at os r.key.0 ≢ Some r.value
absent r os a e = let h : None ≡ Some r.value = sym (none_behind os r.key.0 a) ∙ e in absurd cc

-- a row of the new ones comes
come : (r : Row) (os rs : List Row) (es : List Entry) → AllBehind row_key r.key.0 os → AllBehind row_key r.key.0 rs → Merges os rs es → Merges os (r ∷ rs) (entry_of r ∷ es)
come r os rs es a b m =
    let behind_it = m.bound r.key.0 a b in
    record {
      rises = join entry_key (entry_of r) es behind_it m.rises;
      bound = λ key h g. (g.0, m.bound key h g.1);
      is = after r os rs es behind_it m.is;
      differ = (absent r os a, m.differ);
    }

module _ (o r : Row) (os rs : List Row) (es : List Entry) (keys : o.key.0 ≡ r.key.0) (a : AllBehind row_key o.key.0 os) (b : AllBehind row_key o.key.0 rs) (m : Merges os rs es) where
  behind_old : AllBehind entry_key o.key.0 es
  behind_old = m.bound o.key.0 a b

  behind_new : AllBehind entry_key r.key.0 es
  behind_new = subst (λ (k : List ℕ). AllBehind entry_key k es) keys behind_old

  over_it : changed r.key.0 (Some r.value) (at (o ∷ os)) ≡ changed r.key.0 (Some r.value) (at os)
  over_it = ap (λ (k : List ℕ). changed r.key.0 (Some r.value) (changed k (Some o.value) (at os))) keys ∙ changed_twice r.key.0 (Some r.value) (Some o.value) (at os)

  other_bytes : (o.value ≡ r.value → ⊥) → at (o ∷ os) r.key.0 ≢ Some r.value
  other_bytes n e = let h : Some o.value ≡ Some r.value = sym (at_first o os) ∙ ap (at (o ∷ os)) keys ∙ e in n cc

  -- the row of a key gets other bytes
  replaced : (o.value ≡ r.value → ⊥) → Merges (o ∷ os) (r ∷ rs) (entry_of r ∷ es)
  replaced n = record {
    rises = join entry_key (entry_of r) es behind_new m.rises;
    bound = λ key h g. (g.0, m.bound key h.1 g.1);
    is = after r os rs es behind_new m.is ∙ ap (applied es) (sym over_it);
    differ = (other_bytes n, differ_more o os es behind_old m.differ);
  }

  -- the row is there
  stays : o.value ≡ r.value → Merges (o ∷ os) (r ∷ rs) es
  stays same = record {
    rises = m.rises;
    bound = λ key h g. m.bound key h.1 g.1;
    is = (λ i. changed (sym keys i) (Some (sym same i)) (at rs)) ∙ after o os rs es behind_old m.is;
    differ = differ_more o os es behind_old m.differ;
  }

-- ---- all steps

all_gone : (os : List Row) → are_rising os ≡ true → Merges os [] (map removal os)
all_gone [] a = record { rises = refl; bound = λ key h g. tt; is = refl; differ = tt }
all_gone (o ∷ os) a = gone o os [] (map removal os) (first_before row_key o os a) tt (all_gone os (tail_rises row_key o os a))

-- a row that comes, and all behind it, where the rows that are there are these
abbrev here : Row → List Row → List Row → List Entry
here r rs os = own os r ++ merged (behind r.key.0 os) rs

-- with the removals of the rows before it
abbrev whole : Row → List Row → List Row → List Entry
whole r rs os = map removal (in_front r.key.0 os) ++ here r rs (from r.key.0 os)

module _ (r : Row) (rs : List Row) (rising : are_rising (r ∷ rs) ≡ true) (so_far : (os : List Row) → are_rising os ≡ true → Merges os rs (merged os rs)) where
  at_equal : (o : Row) (os : List Row) → are_rising (o ∷ os) ≡ true → o.key.0 ≡ r.key.0 → Merges (o ∷ os) (r ∷ rs) (here r rs (o ∷ os))
  at_equal o os a keys =
      let same : same_key o.key.0 r.key.0 ≡ true = is_same o.key.0 r.key.0 keys in
      let front = first_before row_key o os a in
      let back : AllBehind row_key o.key.0 rs = subst (λ (k : List ℕ). AllBehind row_key k rs) (sym keys) (first_before row_key r rs rising) in
      let m = so_far os (tail_rises row_key o os a) in
      elim (cases_Bool (same_key o.value r.value)) [
        | inl t ↦ rw (same, t) (stays o r os rs (merged os rs) keys front back m (same_is o.value r.value t))
        | inr f ↦ rw (same, f) (replaced o r os rs (merged os rs) keys front back m (λ e. let wrong : true ≡ false = sym (is_same o.value r.value e) ∙ f in absurd cc))
      ]

  at_greater : (o : Row) (os : List Row) → are_rising (o ∷ os) ≡ true → before r.key.0 o.key.0 ≡ true → Merges (o ∷ os) (r ∷ rs) (here r rs (o ∷ os))
  at_greater o os a lt =
      let differs : same_key o.key.0 r.key.0 ≡ false = behind_differs o.key.0 r.key.0 lt in
      let front : AllBehind row_key r.key.0 (o ∷ os) = (lt, behind_all row_key r.key.0 o.key.0 os lt (first_before row_key o os a)) in
      rw differs (come r (o ∷ os) rs (merged (o ∷ os) rs) front (first_before row_key r rs rising) (so_far (o ∷ os) a))

  by_order : (c : Ordering) (o : Row) (os : List Row) → slice_cmp nat_cmp o.key.0 r.key.0 ≡ c → are_rising (o ∷ os) ≡ true → Merges os (r ∷ rs) (whole r rs os) → Merges (o ∷ os) (r ∷ rs) (whole r rs (o ∷ os))
  by_order Less o os e a m =
      let lt : before o.key.0 r.key.0 ≡ true = ap is_lt e in
      rw lt (gone o os (r ∷ rs) (whole r rs os) (first_before row_key o os a) (lt, behind_all row_key o.key.0 r.key.0 rs lt (first_before row_key r rs rising)) m)
  by_order Equal o os e a m =
      let not_lt : before o.key.0 r.key.0 ≡ false = ap is_lt e in
      rw not_lt (at_equal o os a (equal_is o.key.0 r.key.0 e))
  by_order Greater o os e a m =
      let not_lt : before o.key.0 r.key.0 ≡ false = ap is_lt e in
      rw not_lt (at_greater o os a (greater_is o.key.0 r.key.0 e))

  with_row : (os : List Row) → are_rising os ≡ true → Merges os (r ∷ rs) (whole r rs os)
  with_row [] a = come r [] rs (merged [] rs) tt (first_before row_key r rs rising) (so_far [] refl)
  with_row (o ∷ os) a = by_order (slice_cmp nat_cmp o.key.0 r.key.0) o os refl a (with_row os (tail_rises row_key o os a))

merges : (rs os : List Row) → are_rising rs ≡ true → are_rising os ≡ true → Merges os rs (merged os rs)
merges [] os b a = all_gone os a
merges (r ∷ rs) os b a = with_row r rs b (λ xs c. merges rs xs (tail_rises row_key r rs b) c) os a

pub merged_leads : (os rs : List Row) → are_rising os ≡ true → are_rising rs ≡ true → Leads (at os) (at rs) (merged os rs)
merged_leads os rs a b =
    let m = merges rs os b a in
    record {
      ascending = ascending (merged os rs) m.rises;
      is = λ key. ap (λ (n : Map). n key) m.is;
      differ = All-from_recursion (λ e. at os e.key.0 ≢ e.value) (merged os rs) m.differ;
    }

-- ---- the loop

-- one row more
pub merge_turn : (all : List Row → List Entry) (left next yielded : List Row) (row : Row) (now new : List Entry) → ((rest : List Row) → now ++ merged left rest ≡ all (yielded ++ rest)) → next ≡ behind row.key.0 (from row.key.0 left)
    → new ≡ now ++ (map removal (in_front row.key.0 left) ++ own (from row.key.0 left) row) → (rest : List Row) → new ++ merged next rest ≡ all ((yielded ++ row ∷ []) ++ rest)
merge_turn all left next yielded row now new inv next_is new_is rest =
    let front = map removal (in_front row.key.0 left) in
    let itself = own (from row.key.0 left) row in
    ap (λ (z : List Entry). z ++ merged next rest) new_is
    ∙ append_assoc now (front ++ itself) (merged next rest)
    ∙ ap (λ (z : List Entry). now ++ z) (append_assoc front itself (merged next rest) ∙ ap (λ (l : List Row). front ++ (itself ++ merged l rest)) next_is)
    ∙ inv (row ∷ rest)
    ∙ ap all (sym (append_assoc yielded (row ∷ []) rest))

pub merge_end : (old left items : List Row) (first now final : List Entry) → first ≡ [] → ((rest : List Row) → now ++ merged left rest ≡ first ++ merged old (items ++ rest)) → final ≡ now ++ map removal left → final ≡ merged old items
merge_end old left items first now final none taken is =
    is ∙ taken [] ∙ ap (λ (z : List Entry). z ++ merged old (items ++ [])) none ∙ ap (merged old) (append-nil items)
