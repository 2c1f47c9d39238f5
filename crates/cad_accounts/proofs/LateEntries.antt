-- Entries that are sifted: what one more makes of those in byte order, and of the late ones.
use Rattle.std.proofs.Common.{◌≡◌, ℕ, zero, suc, ◌<◌, true, false, List, [], ◌∷◌, ◌++◌, length, take, drop, get_or, set, Option, refl, sym, ap, subst, ◌∙◌, arith, inl, inr}
use Rattle.std.specs.List.{insert}
use Rattle.std.proofs.Math.Seq.{take-length, drop-length}
use Rattle.cad_wire.specs.declared.entry.Entry.{Entry}
use Rattle.cad_wire.specs.Body.{are_ascending}
use Rattle.cad_accounts.specs.Registers.{Map, same_key, changed, applied}
use Rattle.cad_accounts.specs.Code.Places.{entry_key, AllBefore, AllBehind, StandsAt, BelongsAt, IsLate, AreLate}
use Rattle.cad_accounts.specs.KeyOrder.{before, rise}
use Rattle.cad_accounts.proofs.Keys.{passes, before_differs, behind_differs}
use Rattle.cad_accounts.proofs.Order.{tail_rises, first_before, behind_there}
use Rattle.cad_accounts.proofs.Maps.{Free, applied_after}
use Rattle.cad_accounts.proofs.OneByOne.{applied_append}
use Rattle.cad_accounts.proofs.EntryPlaces.{rising, put_there, put_more}

-- ---- a late key

late_from : (es : List Entry) (key : List ℕ) (i : ℕ) → AllBefore entry_key (take i es) key → AllBehind entry_key key (drop i es) → i < length es → IsLate key es
late_from [] key i front back lt = absurd (omega (arith, lt))
late_from (e ∷ es) key zero front back lt = inl back.0
late_from (e ∷ es) key (suc i) front back lt = inr (front.0, late_from es key i front.1 back (omega (arith, lt)))

rest : (e : Entry) (es : List Entry) (key : List ℕ) (i : ℕ) → StandsAt entry_key key (e ∷ es) (suc i) → StandsAt entry_key key es i
rest e es key i has = let h = has.within in record { within = omega (arith, h); key_is = has.key_is }

-- it is none of those that are there
late_differs : (es : List Entry) (key other : List ℕ) (i : ℕ) → rise entry_key es ≡ true → IsLate key es → StandsAt entry_key other es i → same_key other key ≡ false
late_differs [] key other i r l has = absurd l
late_differs (e ∷ es) key other zero r (inl lt) has = behind_differs other key (subst (λ (k : List ℕ). before key k ≡ true) (has.key_is e) lt)
late_differs (e ∷ es) key other (suc i) r (inl lt) has =
    let h = rest e es other i has in
    let there : before e.key.0 other ≡ true = subst (λ (k : List ℕ). before e.key.0 k ≡ true) (h.key_is e) (behind_there entry_key e.key.0 es i e (first_before entry_key e es r) h.within) in
    behind_differs other key (passes key e.key.0 other lt there)
late_differs (e ∷ es) key other zero r (inr l) has = before_differs other key (subst (λ (k : List ℕ). before k key ≡ true) (has.key_is e) l.0)
late_differs (e ∷ es) key other (suc i) r (inr l) has = late_differs es key other i (tail_rises entry_key e es r) l.1 (rest e es other i has)

-- it is less than one that is greater than all
late_less : (es : List Entry) (key other : List ℕ) → IsLate key es → AllBefore entry_key es other → before key other ≡ true
late_less [] key other l b = absurd l
late_less (e ∷ es) key other (inl lt) b = passes key e.key.0 other lt b.0
late_less (e ∷ es) key other (inr l) b = late_less es key other l.1 b.1

late_push : (es : List Entry) (key : List ℕ) (x : Entry) → IsLate key es → IsLate key (es ++ x ∷ [])
late_push [] key x l = absurd l
late_push (e ∷ es) key x (inl lt) = inl lt
late_push (e ∷ es) key x (inr l) = inr (l.0, late_push es key x l.1)

late_set : (es : List Entry) (key : List ℕ) (i : ℕ) (x : Entry) → IsLate key es → StandsAt entry_key x.key.0 es i → IsLate key (set es i x)
late_set [] key i x l has = absurd l
late_set (e ∷ es) key zero x (inl lt) has = inl (subst (λ (k : List ℕ). before key k ≡ true) (has.key_is e) lt)
late_set (e ∷ es) key zero x (inr l) has = inr (subst (λ (k : List ℕ). before k key ≡ true) (has.key_is e) l.0, l.1)
late_set (e ∷ es) key (suc i) x (inl lt) has = inl lt
late_set (e ∷ es) key (suc i) x (inr l) has = inr (l.0, late_set es key i x l.1 (rest e es x.key.0 i has))

-- ---- all late entries

all_push : (es late : List Entry) (x : Entry) → AreLate es late → AreLate (es ++ x ∷ []) late
all_push es [] x l = tt
all_push es (e ∷ late) x l = (late_push es e.key.0 x l.0, all_push es late x l.1)

all_set : (es late : List Entry) (i : ℕ) (x : Entry) → StandsAt entry_key x.key.0 es i → AreLate es late → AreLate (set es i x) late
all_set es [] i x has l = tt
all_set es (e ∷ late) i x has l = (late_set es e.key.0 i x l.0 has, all_set es late i x has l.1)

one_later : (es late : List Entry) (x : Entry) → AreLate es late → IsLate x.key.0 es → AreLate es (late ++ x ∷ [])
one_later es [] x l here = (here, tt)
one_later es (e ∷ late) x l here = (l.0, one_later es late x l.1 here)

free_there : (es late : List Entry) (key : List ℕ) (i : ℕ) → rise entry_key es ≡ true → StandsAt entry_key key es i → AreLate es late → Free key late
free_there es [] key i r has l = tt
free_there es (e ∷ late) key i r has l = (late_differs es e.key.0 key i r l.0 has, free_there es late key i r has l.1)

free_behind : (es late : List Entry) (key : List ℕ) → AllBefore entry_key es key → AreLate es late → Free key late
free_behind es [] key b l = tt
free_behind es (e ∷ late) key b l = (behind_differs key e.key.0 (late_less es e.key.0 key l.0 b), free_behind es late key b l.1)

-- ---- one entry more

pub record Taken (es late now later : List Entry) (key : List ℕ) (v : Option (List ℕ)) : Type 0 where
  pub ascends : are_ascending now ≡ true
  pub late_are : AreLate now later
  pub is : (m : Map) → applied (now ++ later) m ≡ changed key v (applied (es ++ late) m)

moved : (es now late : List Entry) (key : List ℕ) (v : Option (List ℕ)) → ((m : Map) → applied now m ≡ changed key v (applied es m)) → Free key late → (m : Map) → applied (now ++ late) m ≡ changed key v (applied (es ++ late) m)
moved es now late key v is free m =
    applied_append now late m
    ∙ ap (applied late) (is m)
    ∙ applied_after key v late (applied es m) free
    ∙ ap (changed key v) (sym (applied_append es late m))

pub takes_there : (es late : List Entry) (key : List ℕ) (v : Option (List ℕ)) (i : ℕ) (x : Entry) → are_ascending es ≡ true → AreLate es late → StandsAt entry_key key es i → x ≡ get_or es i x → Taken es late (set es i (record { key = x.key; value = v })) late key v
takes_there es late key v i x a l has is =
    let y : Entry = record { key = x.key; value = v } in
    let same : x.key.0 ≡ key = ap (λ (z : Entry). z.key.0) is ∙ has.key_is x in
    let put = put_there es key v i x a has is in
    record {
      ascends = put.ascends;
      late_are = all_set es late i y (subst (λ (k : List ℕ). StandsAt entry_key k es i) (sym same) has) l;
      is = moved es (set es i y) late key v put.is (free_there es late key i (rising es a) has l);
    }

pub takes_behind : (es late now : List Entry) (e : Entry) (i : ℕ) → are_ascending es ≡ true → AreLate es late → BelongsAt entry_key e.key.0 es i → i ≡ length es → now ≡ es ++ e ∷ [] → Taken es late now late e.key.0 e.value
takes_behind es late now e i a l b n is =
    let here : BelongsAt entry_key e.key.0 es (length es) = subst (BelongsAt entry_key e.key.0 es) n b in
    let pushed : es ++ e ∷ [] ≡ insert es (length es) e = λ j. sym (take-length es) j ++ e ∷ sym (drop-length es) j in
    let put = put_more es e (length es) (es ++ e ∷ []) true a here refl pushed in
    subst (λ (xs : List Entry). Taken es late xs late e.key.0 e.value) (sym is) (record {
      ascends = put.ascends;
      late_are = all_push es late e l;
      is = moved es (es ++ e ∷ []) late e.key.0 e.value put.is (free_behind es late e.key.0 (subst (λ (xs : List Entry). AllBefore entry_key xs e.key.0) (take-length es) here.in_front) l);
    })

pub takes_late : (es late later : List Entry) (e : Entry) (i : ℕ) → are_ascending es ≡ true → AreLate es late → BelongsAt entry_key e.key.0 es i → (i ≡ length es → ⊥) → later ≡ late ++ e ∷ [] → Taken es late es later e.key.0 e.value
takes_late es late later e i a l b n is =
    let inside : i < length es = let w = b.within in grind (arith, n, w) in
    subst (λ (xs : List Entry). Taken es late es xs e.key.0 e.value) (sym is) (record {
      ascends = a;
      late_are = one_later es late e l (late_from es e.key.0 i b.in_front b.behind inside);
      is = λ m.
          applied_append es (late ++ e ∷ []) m
          ∙ applied_append late (e ∷ []) (applied es m)
          ∙ ap (changed e.key.0 e.value) (sym (applied_append es late m));
    })
